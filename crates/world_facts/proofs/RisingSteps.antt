-- The instructions of a plan ask ancestors along what the query asks them along.
use Rattle.std.specs.Prelude.{IsTrue}
use Rattle.std.proofs.lemmas.List.Elements.{All-weaker}
use Rattle.ecs_id.specs.Id.{plain}
use Rattle.ecs_model.specs.BuiltIns.{traversable}
use Rattle.ecs_model.specs.Links.{IsAcyclic}
use Rattle.ecs_model.specs.World.{holds, ids_of}
use Rattle.ecs_model.specs.rows.View.{view_of}
use Rattle.plan_steps.proofs.StepUps.{steps_go_up}
use Rattle.world_facts.specs.Rises.{RisesAreAcyclic, rises}

pub rises_are_acyclic : RisesAreAcyclic
rises_are_acyclic w q steps sound rising =
    steps_go_up (view_of w) q
    (All-weaker (λ r. IsTrue (holds w r (plain traversable))) (IsAcyclic (ids_of w)) (λ r h. sound.traits.no_cycle r (sound.traits.traversable_acyclic r h)) (rises q) rising)
    steps
