use Rattle.std.proofs.Common.{arith}
use Rattle.script_line.proofs.Digits.{below_18}
use Rattle.script_line.proofs.decimals.short_number_of.Goals as goal

pub overflow_mul-number : goal.overflow_mul-number
overflow_mul-number c =
    omega (arith, below_18 c.loop-digit.number c.loop-digit.digit-index c.loop-digit.invariant.1 (omega (arith, c.requires.length)))

pub overflow_add-number : goal.overflow_add-number
overflow_add-number c =
    omega (arith, below_18 c.loop-digit.number c.loop-digit.digit-index c.loop-digit.invariant.1 (omega (arith, c.requires.length)))
