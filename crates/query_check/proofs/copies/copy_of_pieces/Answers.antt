use Rattle.std.proofs.Common.{arith}
use Rattle.std.proofs.lemmas.Grind.{common_steps}
use Rattle.query_check.proofs.copies.copy_of_pieces.Goals as goal

pub returns-in_err-copy : goal.returns-in_err-copy
returns-in_err-copy g c = grind arith

pub loop-piece-init : goal.loop-piece-init
loop-piece-init g c = grind arith

pub offset_bounds-pieces-piece-index : goal.offset_bounds-pieces-piece-index
offset_bounds-pieces-piece-index g c = grind arith

pub bounds-pieces-piece-index : goal.bounds-pieces-piece-index
bounds-pieces-piece-index g c = grind arith

pub returns-in_err-copy_of_piece : goal.returns-in_err-copy_of_piece
returns-in_err-copy_of_piece g c = grind arith

pub returns-in_err-push : goal.returns-in_err-push
returns-in_err-push g c = grind arith

pub loop-piece-preserved : goal.loop-piece-preserved
loop-piece-preserved g c = grind (arith, common_steps)

pub returns : goal.returns
returns g c = grind (arith, common_steps)
