use Rattle.std.proofs.Common.{◌≡◌, take, length}
use Rattle.ecs_model.specs.Bytes.{values_in}
use Rattle.ecs_world.proofs.readers.decoded.Given as goal

abbrev pub invariant-loop-field : goal.invariant-loop-field
invariant-loop-field g l = (length l.numbers ≡ 8) × (take l.field l.numbers ≡ take l.field (values_in l.schema l.bytes))
