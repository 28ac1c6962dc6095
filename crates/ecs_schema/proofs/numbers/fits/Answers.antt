use Rattle.std.proofs.Common.{arith}
use Rattle.ecs_schema.proofs.numbers.fits.Goals as goal

pub returns-then-number-geminus128 : goal.returns-then-number-geminus128
returns-then-number-geminus128 c = grind arith

pub returns-else-number-geminus128 : goal.returns-else-number-geminus128
returns-else-number-geminus128 c = grind arith

pub returns-then-number-ge0 : goal.returns-then-number-ge0
returns-then-number-ge0 c = grind arith

pub returns-else-number-ge0 : goal.returns-else-number-ge0
returns-else-number-ge0 c = grind arith

pub returns-then-number-geminus32768 : goal.returns-then-number-geminus32768
returns-then-number-geminus32768 c = grind arith

pub returns-else-number-geminus32768 : goal.returns-else-number-geminus32768
returns-else-number-geminus32768 c = grind arith

pub returns-then-number-ge0-2 : goal.returns-then-number-ge0-2
returns-then-number-ge0-2 c = grind arith

pub returns-else-number-ge0-2 : goal.returns-else-number-ge0-2
returns-else-number-ge0-2 c = grind arith

pub returns-then-number-geminus2147483648 : goal.returns-then-number-geminus2147483648
returns-then-number-geminus2147483648 c = grind arith

pub returns-else-number-geminus2147483648 : goal.returns-else-number-geminus2147483648
returns-else-number-geminus2147483648 c = grind arith

pub returns-then-number-ge0-3 : goal.returns-then-number-ge0-3
returns-then-number-ge0-3 c = grind arith

pub returns-else-number-ge0-3 : goal.returns-else-number-ge0-3
returns-else-number-ge0-3 c = grind arith

pub returns-then-number-ge0-4 : goal.returns-then-number-ge0-4
returns-then-number-ge0-4 c = grind arith

pub returns-else-number-ge0-4 : goal.returns-else-number-ge0-4
returns-else-number-ge0-4 c = grind arith
