use Rattle.std.proofs.Common.{◌∙◌, arith, sym}
use Rattle.std.proofs.lemmas.Bool.{leb-true}
use Rattle.rel_travel.proofs.SearchRounds.{complete}
use Rattle.rel_travel.proofs.spread.Spread.is_complete.Goals as goal

pub returns-then-is_some : goal.returns-then-is_some
returns-then-is_some g c = λ next followed sought.
    let s = c.args.self.now in
    let all = leb-true c.len.result s.done followed in
    complete next s.start s.is_alone s.found.items s.done (sym c.is_some.ensures ∙ c.if-is_some.true) (omega (arith, all, c.len.ensures.count)) sought
