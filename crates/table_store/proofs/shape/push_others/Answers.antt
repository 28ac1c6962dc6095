use Rattle.std.proofs.Common.{arith}
use Rattle.std.proofs.lemmas.Grind.{common_steps}
use Rattle.table_store.proofs.shape.push_others.Goals as goal

pub loop-known-init : goal.loop-known-init
loop-known-init g c = grind (arith, common_steps)

pub offset_bounds-known-items-known-index : goal.offset_bounds-known-items-known-index
offset_bounds-known-items-known-index g c = grind arith

pub returns-in_err-push : goal.returns-in_err-push
returns-in_err-push g c = grind arith

pub loop-known-preserved : goal.loop-known-preserved
loop-known-preserved g c = grind (arith, common_steps)

pub returns : goal.returns
returns g c = grind (arith, common_steps)
