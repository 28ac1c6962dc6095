use Rattle.std.proofs.Common.{ap, sym, ◌∙◌}
use Rattle.ecs_model.specs.Orders.{entity_found}
use Rattle.ecs_model.specs.References.{seen_reference}
use Rattle.ecs_world.specs.Standing as world
use Rattle.ecs_observe.specs.Standing.{session_of}
use Rattle.ecs_observe.proofs.NamedQueries.{waits, world_is}
use Rattle.ecs_observe.proofs.CommandForms.{one_found, pending_one, refused_one}
use Rattle.ecs_observe.proofs.session.Session.found_entity.Goals as goal

pub returns-then-has_events : goal.returns-then-has_events
returns-then-has_events g c = pending_one (session_of c.args.self.now) (seen_reference c.args.entity) (waits c.args.self.now ∙ (sym c.has_events.ensures ∙ c.if-has_events.true))

pub returns-in-Err : goal.returns-in-Err
returns-in-Err g c =
    let there = ap (λ (w : world.Standing). entity_found w.state (seen_reference c.args.entity)) c.world.ensures ∙ ap (λ w. entity_found w (seen_reference c.args.entity)) (sym (world_is c.args.self.now)) in
    refused_one (session_of c.args.self.now) (seen_reference c.args.entity) _ (waits c.args.self.now ∙ (sym c.has_events.ensures ∙ c.if-has_events.false)) (c.in-Err.ensures.value ∙ there)

pub returns-in-Ok : goal.returns-in-Ok
returns-in-Ok g c =
    let there = ap (λ (w : world.Standing). entity_found w.state (seen_reference c.args.entity)) c.world.ensures ∙ ap (λ w. entity_found w (seen_reference c.args.entity)) (sym (world_is c.args.self.now)) in
    one_found (session_of c.args.self.now) (seen_reference c.args.entity) _ (c.in-Ok.ensures.value ∙ there)
