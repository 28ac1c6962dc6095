use Rattle.std.proofs.Common.{sym, ◌∙◌, inl, inr}
use Rattle.rel_travel.proofs.Turns.{started}
use Rattle.rel_travel.proofs.chains.begin.Goals as goal

pub returns-then-begin_with-clause-begun : goal.returns-then-begin_with-clause-begun
returns-then-begin_with-clause-begun g c =
    started c.args.reach.is_transitive c.args.reach.is_reflexive (g.R.Rule.next c.args.rule.now) c.args.index c.follow.new.found.items
    (inl (sym c.begin_with.ensures.answer ∙ c.if-begin_with.true, rw (← c.begin_with.ensures.items) c.follow.ensures.grown))

pub returns-else-begin_with-clause-begun : goal.returns-else-begin_with-clause-begun
returns-else-begin_with-clause-begun g c =
    started c.args.reach.is_transitive c.args.reach.is_reflexive (g.R.Rule.next c.args.rule.now) c.args.index c.begin_with.new.found.items
    (inr (sym c.begin_with.ensures.answer ∙ c.if-begin_with.false, c.begin_with.ensures.items))
