use Rattle.std.proofs.Common.{arith}
use Rattle.ecs_world.proofs.FirstBuiltIns.{first_is_world, first_state}
use Rattle.ecs_world.proofs.World.new.Goals as goal

pub invariant_of-result : goal.invariant_of-result
invariant_of-result g c =
    rw (c.new.ensures.empty) (first_is_world _ _ _ c.in_ok-archetypes.ensures c.in_ok-names.ensures c.in_ok-pins.ensures.none c.in_ok-pins.ensures.covers)

pub returns : goal.returns
returns g c = rw (c.new.ensures.empty) (first_state _ _ c.in_ok-pins.field-0 c.in_ok-archetypes.ensures c.in_ok-names.ensures c.in_ok-pins.ensures.none)

pub returns-in_err-archetypes : goal.returns-in_err-archetypes
returns-in_err-archetypes g c = grind arith
