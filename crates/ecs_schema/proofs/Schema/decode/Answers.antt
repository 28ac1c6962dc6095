use Rattle.std.proofs.Common.{arith}
use Rattle.ecs_schema.proofs.Schema.decode.Goals as goal

pub read_field-requires-clause-few : goal.read_field-requires-clause-few
read_field-requires-clause-few g c = grind arith

pub read_field-requires-clause-size : goal.read_field-requires-clause-size
read_field-requires-clause-size g c = grind arith

pub read_field-requires-clause-field : goal.read_field-requires-clause-field
read_field-requires-clause-field g c = grind arith

pub returns : goal.returns
returns g c = grind arith
