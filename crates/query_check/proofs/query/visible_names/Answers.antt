use Rattle.std.proofs.Common.{arith}
use Rattle.std.proofs.lemmas.Grind.{common_steps}
use Rattle.query_check.proofs.query.visible_names.Goals as goal

pub returns-in_err-names : goal.returns-in_err-names
returns-in_err-names g c = grind arith

pub loop-variable-init : goal.loop-variable-init
loop-variable-init g c = grind arith

pub offset_bounds-numbered-variable-index : goal.offset_bounds-numbered-variable-index
offset_bounds-numbered-variable-index g c = grind arith

pub bounds-numbered-variable-index : goal.bounds-numbered-variable-index
bounds-numbered-variable-index g c = grind arith

pub returns-in_err-copy_of : goal.returns-in_err-copy_of
returns-in_err-copy_of g c = grind arith

pub returns-in_err-push : goal.returns-in_err-push
returns-in_err-push g c = grind arith

pub loop-variable-preserved : goal.loop-variable-preserved
loop-variable-preserved g c = grind (arith, common_steps)

pub returns : goal.returns
returns g c = grind (arith, common_steps)
