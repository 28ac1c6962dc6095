use Rattle.std.proofs.Common.{ℕ, ◌+◌, ◌-◌, ◌≤◌, take, drop, ap, ◌∙◌, arith}
use Rattle.raw_column.specs.Places.{over}
use Rattle.raw_column.proofs.ShiftLemmas.{shifted_up}
use Rattle.raw_column.proofs.places.shift_up.Goals as goal

pub loop-left-preserved : goal.loop-left-preserved
loop-left-preserved c =
    let l = c.loop-left.left in let r = c.min-run.result in let bs = c.args.bytes.now in let n = c.args.size in let to = c.args.to in let from = c.args.from in let m : ℕ = l - r in
    let le : l ≤ n = c.loop-left.invariant.0 in let some : r ≤ l = omega (arith, c.min-run.ensures) in
    let apart : from + l ≤ to + m = omega (arith, c.min-run.ensures, c.min-gap.ensures, c.requires) in (
      omega arith,
      c.copy_up.ensures ∙ ap (λ b. over (to + m) r b (take r (drop (from + m) b))) c.loop-left.invariant.1 ∙ shifted_up to from n l r bs (omega (arith, c.requires)) some le apart (omega (arith, c.requires)),
    )
