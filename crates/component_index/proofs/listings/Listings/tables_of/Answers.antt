use Rattle.std.proofs.Common.{ap, refl, sym, ◌∙◌}
use Rattle.component_index.specs.Mentions.{may_match}
use Rattle.component_index.proofs.EnteredLemmas.{none_distinct}
use Rattle.component_index.proofs.ListingLemmas.{none_listed, read_none, read_some}
use Rattle.component_index.proofs.listings.Listings.tables_of.Goals as goal

pub returns-then-not-may_match-clause-listed : goal.returns-then-not-may_match-clause-listed
returns-then-not-may_match-clause-listed g c =
    rw (← c.self.view_is) (none_listed c.self.inside.mentioned.now.items c.self.inside.lists.now c.self.invariant c.args.pattern (ap (λ m. may_match m c.args.pattern) (sym c.as_slice.ensures.value) ∙ sym c.may_match.ensures ∙ c.if-not-may_match.true))

pub returns-then-not-may_match-clause-once : goal.returns-then-not-may_match-clause-once
returns-then-not-may_match-clause-once g c = none_distinct _ refl

pub returns-in-Some-clause-listed : goal.returns-in-Some-clause-listed
returns-in-Some-clause-listed g c =
    rw (← c.self.view_is) (c.as_slice-in-Some.ensures.keys ∙ read_some c.self.inside.lists.now c.args.pattern c.in-Some.list.now (sym c.in-Some.ensures.value) (rw c.as_slice-in-Some.ensures.keys at c.as_slice-in-Some.ensures.once))

pub returns-in-None-clause-listed : goal.returns-in-None-clause-listed
returns-in-None-clause-listed g c = rw (← c.self.view_is) (read_none c.self.inside.lists.now c.args.pattern (sym c.in-None.ensures.value))

pub returns-in-None-clause-once : goal.returns-in-None-clause-once
returns-in-None-clause-once g c = none_distinct _ refl
