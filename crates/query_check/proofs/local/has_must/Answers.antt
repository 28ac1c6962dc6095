use Rattle.std.proofs.Common.{arith}
use Rattle.std.proofs.lemmas.Grind.{common_steps}
use Rattle.query_check.proofs.local.has_must.Goals as goal

pub loop-piece-init : goal.loop-piece-init
loop-piece-init g c = grind arith

pub offset_bounds-pieces-piece-index : goal.offset_bounds-pieces-piece-index
offset_bounds-pieces-piece-index g c = grind arith

pub returns-then-is_must : goal.returns-then-is_must
returns-then-is_must g c = grind (arith, common_steps)

pub loop-piece-preserved : goal.loop-piece-preserved
loop-piece-preserved g c = grind (arith, common_steps)

pub returns : goal.returns
returns g c = grind (arith, common_steps)
