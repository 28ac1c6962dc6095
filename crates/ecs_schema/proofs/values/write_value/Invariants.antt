use Rattle.std.proofs.Common.{◌≡◌, ◌++◌, take, drop, length}
use Rattle.ecs_model.specs.Bytes.{size_of, value_bytes}
use Rattle.ecs_schema.proofs.values.write_value.Given as goal

abbrev pub invariant-loop-field : goal.invariant-loop-field
invariant-loop-field g l =
    let n = length l.yielded in
    (l.start ≡ size_of (take n l.fields))
    × (l.bytes ≡ value_bytes (take n l.fields) (take n l.values) ++ drop l.start l.initial.bytes)
