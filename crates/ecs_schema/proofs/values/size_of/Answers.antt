use Rattle.std.proofs.Common.{arith}
use Rattle.std.proofs.lemmas.Grind.{common_steps}
use Rattle.ecs_schema.proofs.values.size_of.Goals as goal

pub loop-field-init : goal.loop-field-init
loop-field-init g c = grind arith

pub offset_bounds-fields-field-index : goal.offset_bounds-fields-field-index
offset_bounds-fields-field-index g c = grind arith

pub overflow_add-size : goal.overflow_add-size
overflow_add-size g c = grind arith

pub loop-field-preserved : goal.loop-field-preserved
loop-field-preserved g c = grind (arith, common_steps)

pub returns-clause-value : goal.returns-clause-value
returns-clause-value g c = grind (arith, common_steps)

pub returns-clause-some : goal.returns-clause-some
returns-clause-some g c = grind arith

pub returns-clause-few : goal.returns-clause-few
returns-clause-few g c = grind arith
