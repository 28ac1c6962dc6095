use Rattle.std.specs.Prelude.{◌≡◌, IfSome, Option, Some, None}
use Rattle.std.proofs.Common.{ap, refl, sym, ◌∙◌, option_map}
use Rattle.ecs_id.specs.declared.EntityId.{EntityId}
use Rattle.ecs_id.specs.Id.{IsIndex}
use Rattle.ecs_archetypes.specs.Housing.{holdings_of}
use Rattle.ecs_world.proofs.NameLists.{named_got}
use Rattle.ecs_world.proofs.States.{AreNamed-world, index_named}
use Rattle.ecs_world.proofs.Standings.{state_is}
use Rattle.ecs_world.proofs.World.find.Goals as goal

pub returns-clause-index : goal.returns-clause-index
returns-clause-index g c =
    let w = c.self.inside in
    rw (← state_is c.self.view_is) (ap (option_map (λ e. e.index)) c.find.ensures.value ∙ named_got w.names (holdings_of w.archetypes).live (AreNamed-world c.self.invariant) c.args.name.now)

pub returns-clause-in_range : goal.returns-clause-in_range
returns-clause-in_range g c = by c.find.result refl
  where
    by : (found : Option EntityId) → c.find.result ≡ found → IfSome found (λ e. IsIndex e.index)
    by None is = tt
    by (Some e) is = index_named c.self.invariant c.args.name.now e (sym c.find.ensures.value ∙ is)
