use Rattle.std.proofs.Common.{◌≡◌, subst, arith}
use Rattle.ecs_archetypes.specs.Housing.{holdings_of}
use Rattle.ecs_world.specs.BuiltIn.{IsSettled}
use Rattle.ecs_world.proofs.FirstBuiltIns.{first_settled}
use Rattle.ecs_world.proofs.built_in.archetypes.Goals as goal

pub loop-settled-init : goal.loop-settled-init
loop-settled-init g c = first_settled (holdings_of c.in_ok-archetypes.archetypes) c.in_ok-archetypes.ensures.holdings c.in_ok-archetypes.ensures.first

pub loop-settled-preserved : goal.loop-settled-preserved
loop-settled-preserved g c = c.in_ok-settle.ensures

pub returns : goal.returns
returns g c =
    let end : c.loop-settled.settled ≡ 22 = omega (arith, c.loop-settled-test.false, c.loop-settled.auto.settled-end) in
    subst (IsSettled (holdings_of c.loop-settled.archetypes)) end c.loop-settled.invariant
