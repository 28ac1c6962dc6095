use Rattle.std.proofs.Common.{◌∙◌, sym, inl, inr}
use Rattle.std.proofs.lemmas.Bool.{not-true}
use Rattle.rel_travel.proofs.SearchRounds.{sought_for}
use Rattle.rel_travel.proofs.spread.Spread.asks_for.Goals as goal

pub returns-then-self-clause-sought : goal.returns-then-self-clause-sought
returns-then-self-clause-sought g c = λ next alone sought.
    let s = c.args.self.now in
    sought_for next c.args.start c.args.index s.is_alone s.found.items s.done s.start (c.is_from.ensures c.if-is_from.true) (inl alone) sought

pub returns-else-self-clause-sought : goal.returns-else-self-clause-sought
returns-else-self-clause-sought g c = λ next lacks sought.
    let s = c.args.self.now in
    sought_for next c.args.start c.args.index s.is_alone s.found.items s.done s.start (c.is_from.ensures c.if-is_from.true) (inr (sym c.is_found.ensures ∙ not-true c.is_found.result lacks)) sought
