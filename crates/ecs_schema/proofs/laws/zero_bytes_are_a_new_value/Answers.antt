use Rattle.ecs_schema.proofs.UnwrittenBytes.{values_in-zeros}
use Rattle.ecs_schema.proofs.laws.zero_bytes_are_a_new_value.Goals as goal

pub returns : goal.returns
returns g c = values_in-zeros c.args.schema.now
