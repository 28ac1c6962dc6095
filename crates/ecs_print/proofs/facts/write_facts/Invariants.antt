use Rattle.std.proofs.Common.{◌≡◌, ◌++◌, take}
use Rattle.std.specs.Prelude.{codes, flat_map}
use Rattle.ecs_model.specs.Output.{fact_text}
use Rattle.ecs_model.specs.World.{ids_of}
use Rattle.ecs_print.proofs.facts.write_facts.Given as goal

abbrev pub invariant-loop-place : goal.invariant-loop-place
invariant-loop-place g l = l.out.items ≡ l.fn.out.items ++ flat_map (fact_text l.world.state l.fn.entity.index) (take l.place (ids_of l.world.state l.fn.entity.index)) ++ codes " ["
