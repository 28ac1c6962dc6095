use Rattle.std.proofs.Common.{◌≡◌}
use Rattle.ecs_world.specs.BuiltIn.{AreFirstNames}
use Rattle.ecs_world.proofs.built_in.bound.Given as goal

abbrev pub invariant-loop-name : goal.invariant-loop-name
invariant-loop-name g l = (l.count ≡ l.name-index) × AreFirstNames l.names l.count
