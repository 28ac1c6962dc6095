use Rattle.std.proofs.Common.{◌≡◌, take}
use Rattle.ecs_schema.specs.Given.{given}
use Rattle.ecs_schema.proofs.Schema.new.Given as goal

abbrev pub invariant-loop-name : goal.invariant-loop-name
invariant-loop-name g l = l.made.items ≡ given (take l.name-index l.fields)
