use Rattle.std.proofs.Common.{arith}
use Rattle.std.proofs.lemmas.Grind.{common_steps}
use Rattle.table_store.proofs.shape.set_ids.Goals as goal

pub loop-cell-init : goal.loop-cell-init
loop-cell-init g c = grind arith

pub offset_bounds-shape-cell-index : goal.offset_bounds-shape-cell-index
offset_bounds-shape-cell-index g c = grind arith

pub returns-in_err-push : goal.returns-in_err-push
returns-in_err-push g c = grind arith

pub loop-cell-preserved : goal.loop-cell-preserved
loop-cell-preserved g c = grind (arith, common_steps)

pub returns : goal.returns
returns g c = grind (arith, common_steps)
