use Rattle.std.proofs.Common.{◌+◌, take, drop, ap, ◌∙◌, arith}
use Rattle.raw_column.specs.Places.{over}
use Rattle.raw_column.proofs.ShiftLemmas.{shifted_down}
use Rattle.raw_column.proofs.places.shift_down.Goals as goal

pub loop-done-preserved : goal.loop-done-preserved
loop-done-preserved c =
    let d = c.loop-done.done in let r = c.min-run.result in let bs = c.args.bytes.now in let to = c.args.to in let from = c.args.from in (
      omega (arith, c.min-run.ensures, c.loop-done.invariant.0),
      c.copy_down.ensures ∙ ap (λ b. over (to + d) r b (take r (drop (from + d) b))) c.loop-done.invariant.1 ∙ shifted_down to from d r bs (omega (arith, c.requires)) (omega (arith, c.requires, c.min-run.ensures, c.loop-done.invariant.0)),
    )
