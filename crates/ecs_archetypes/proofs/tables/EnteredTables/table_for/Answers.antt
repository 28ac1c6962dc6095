-- The table that is found or made is entered, and all tables keep their sizes.
use Rattle.std.proofs.Common.{◌∙◌, subst, sym}
use Rattle.ecs_archetypes.specs.Housing.{AreEntered}
use Rattle.ecs_archetypes.proofs.KnownIds.{all_small, have_sizes, made_kept, shape_stands, shaped_self}
use Rattle.ecs_archetypes.proofs.EnteredTables.{kept_same, made_empty, made_fresh}
use Rattle.ecs_archetypes.proofs.tables.EnteredTables.table_for.Goals as goal

pub find_or_make-requires-clause-small : goal.find_or_make-requires-clause-small
find_or_make-requires-clause-small g c = all_small c.args.ids.now c.requires.small

pub find_or_make-requires-clause-sizes : goal.find_or_make-requires-clause-sizes
find_or_make-requires-clause-sizes g c = rw c.self.view_is (have_sizes c.args.self.now c.args.ids.now c.requires.agree)

pub enter_made-requires-clause-stands : goal.enter_made-requires-clause-stands
enter_made-requires-clause-stands g c = shape_stands c.find_or_make.new.self c.in_ok-key.key c.args.ids.now (shaped_self c.self.inside.store c.find_or_make.new.self c.in_ok-key.key c.args.ids.now c.in_ok-key.ensures.ok.shapes)

pub enter_made-requires-clause-fresh : goal.enter_made-requires-clause-fresh
enter_made-requires-clause-fresh g c = made_fresh c.self.inside.store c.find_or_make.new.self c.in_ok-key.key c.args.ids.now (sym c.last-last.ensures) c.in_ok-key.ensures.ok c.self.inside.index c.self.invariant

pub enter_made-requires-clause-empty : goal.enter_made-requires-clause-empty
enter_made-requires-clause-empty g c = made_empty c.self.inside.store c.find_or_make.new.self c.in_ok-key.key c.args.ids.now (sym c.last-last.ensures) c.in_ok-key.ensures.ok

pub returns-in_err-key-clause-kept : goal.returns-in_err-key-clause-kept
returns-in_err-key-clause-kept g c = rw (← c.self.view_is) (kept_same c.args.ids.now c.self.inside.store c.find_or_make.new.self c.in_err-key.ensures.err c.find_or_make.ensures.whole)

pub returns-in_err-enter_made-clause-kept : goal.returns-in_err-enter_made-clause-kept
returns-in_err-enter_made-clause-kept g c = rw (← c.self.view_is) (c.enter_made.ensures.kept c.self.inside.store c.args.ids.now c.args.ids.now (sym c.last-last.ensures) c.in_ok-key.ensures.ok c.self.invariant
    (made_kept c.self.inside.store c.find_or_make.new.self c.in_ok-key.key c.args.ids.now c.find_or_make.ensures.whole.0 c.in_ok-key.ensures.ok.shapes)).0

pub returns-clause-kept : goal.returns-clause-kept
returns-clause-kept g c = rw (← c.self.view_is) (c.enter_made.ensures.kept c.self.inside.store c.args.ids.now c.args.ids.now (sym c.last-last.ensures) c.in_ok-key.ensures.ok c.self.invariant
    (made_kept c.self.inside.store c.find_or_make.new.self c.in_ok-key.key c.args.ids.now c.find_or_make.ensures.whole.0 c.in_ok-key.ensures.ok.shapes)).0

pub returns-clause-shape : goal.returns-clause-shape
returns-clause-shape g c = c.in_ok-enter_made.ensures.shapes c.in_ok-key.key ∙ shaped_self c.self.inside.store c.find_or_make.new.self c.in_ok-key.key c.args.ids.now c.in_ok-key.ensures.ok.shapes

pub invariant_of-self : goal.invariant_of-self
invariant_of-self g c = subst (λ s. AreEntered s c.self.inside.index) (sym c.in_err-key.ensures.err) c.self.invariant

pub invariant_of-self-2 : goal.invariant_of-self-2
invariant_of-self-2 g c = (c.enter_made.ensures.kept c.self.inside.store c.args.ids.now c.args.ids.now (sym c.last-last.ensures) c.in_ok-key.ensures.ok c.self.invariant
    (made_kept c.self.inside.store c.find_or_make.new.self c.in_ok-key.key c.args.ids.now c.find_or_make.ensures.whole.0 c.in_ok-key.ensures.ok.shapes)).1

pub invariant_of-self-in_err-enter_made : goal.invariant_of-self-in_err-enter_made
invariant_of-self-in_err-enter_made g c = (c.enter_made.ensures.kept c.self.inside.store c.args.ids.now c.args.ids.now (sym c.last-last.ensures) c.in_ok-key.ensures.ok c.self.invariant
    (made_kept c.self.inside.store c.find_or_make.new.self c.in_ok-key.key c.args.ids.now c.find_or_make.ensures.whole.0 c.in_ok-key.ensures.ok.shapes)).1
