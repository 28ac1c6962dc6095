use Rattle.std.proofs.Common.{◌≡◌, take}
use Rattle.ecs_schema.specs.Given.{given}
use Rattle.ecs_observe.proofs.batches.copy_of_schema.Given as goal

-- the names and kinds of those before this one
abbrev pub invariant-loop-field : goal.invariant-loop-field
invariant-loop-field g l = given (l.fields).items ≡ take l.field-index l.schema
