use Rattle.std.proofs.Common.{arith}
use Rattle.ecs_schema.proofs.Schema.size.Goals as goal

pub size_of-requires : goal.size_of-requires
size_of-requires g c = grind arith

pub returns-clause-value : goal.returns-clause-value
returns-clause-value g c = grind arith

pub returns-clause-some : goal.returns-clause-some
returns-clause-some g c = grind arith

pub returns-clause-few : goal.returns-clause-few
returns-clause-few g c = grind arith
