use Rattle.std.proofs.Common.{◌≡◌, ◌≤◌, ◌*◌, take}
use Rattle.ecs_model.specs.Bytes.{size_of}
use Rattle.ecs_schema.proofs.values.size_of.Given as goal

abbrev pub invariant-loop-field : goal.invariant-loop-field
invariant-loop-field g l =
    (l.size ≡ size_of (take l.field-index l.fields)) × (l.field-index ≤ l.size) × (l.size ≤ 8 * l.field-index)
