use Rattle.std.proofs.Common.{ap, arith}
use Rattle.rel_travel.proofs.Marks.{finds_fit}
use Rattle.rel_travel.proofs.found.Found.len.Goals as goal

pub returns-clause-fits : goal.returns-clause-fits
returns-clause-fits g c =
    let s = c.self.inside in
    let fit = finds_fit s.size s.words.items s.order.items c.self.invariant.0 in
    omega (arith, fit, c.len.ensures, ap (λ f. f.size) c.self.view_is)
