use Rattle.std.proofs.Common.{arith}
use Rattle.std.proofs.lemmas.Grind.{common_steps}
use Rattle.query_check.proofs.terms.terms.Goals as goal

pub returns-in_err-terms : goal.returns-in_err-terms
returns-in_err-terms g c = grind arith

pub loop-piece-init : goal.loop-piece-init
loop-piece-init g c = grind arith

pub offset_bounds-pieces-piece-index : goal.offset_bounds-pieces-piece-index
offset_bounds-pieces-piece-index g c = grind arith

pub returns-in_err-extend_from_slice : goal.returns-in_err-extend_from_slice
returns-in_err-extend_from_slice g c = grind arith

pub loop-piece-preserved : goal.loop-piece-preserved
loop-piece-preserved g c = grind (arith, common_steps)

pub returns : goal.returns
returns g c = grind (arith, common_steps)
