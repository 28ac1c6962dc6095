use Rattle.std.proofs.Common.{◌≡◌, drop}
use Rattle.ecs_model.specs.Schema.{repeats_name}
use Rattle.ecs_schema.specs.Given.{given}
use Rattle.ecs_schema.proofs.given.repeats_name.Given as goal

abbrev pub invariant-loop-i : goal.invariant-loop-i
invariant-loop-i l = repeats_name (given (drop l.i l.fields)) ≡ repeats_name (given l.fields)
