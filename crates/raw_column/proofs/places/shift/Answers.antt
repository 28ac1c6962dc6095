use Rattle.std.proofs.Common.{◌≡◌, take, drop, sym, ap, ◌∙◌, arith}
use Rattle.raw_column.specs.Places.{over}
use Rattle.raw_column.proofs.PlaceLemmas.{over_same}
use Rattle.raw_column.proofs.places.shift.Goals as goal

pub returns-else-to-from : goal.returns-else-to-from
returns-else-to-from c =
    let bs = c.args.bytes.now in let n = c.args.size in let same : c.args.to ≡ c.args.from = omega (arith, c.if-from-to.false, c.if-to-from.false) in
    sym (ap (λ i. over i n bs (take n (drop c.args.from bs))) same ∙ over_same c.args.from n bs)
