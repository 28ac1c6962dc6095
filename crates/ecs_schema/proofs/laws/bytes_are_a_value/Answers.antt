use Rattle.ecs_schema.proofs.UnwrittenBytes.{length-values_in, all_fit-values_in}
use Rattle.ecs_schema.proofs.laws.bytes_are_a_value.Goals as goal

pub returns : goal.returns
returns g c = (length-values_in c.args.schema.now c.args.bytes.now, all_fit-values_in c.args.schema.now c.args.bytes.now (λ i. (c.type_inv.bytes i).fits))
