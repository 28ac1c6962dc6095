use Rattle.std.proofs.Common.{Err, Ok, ap, subst, sym, ◌∙◌}
use Rattle.ecs_model.specs.World.{WorldState}
use Rattle.ecs_observe.specs.Commands.{FindsBoth}
use Rattle.ecs_model.specs.References.{seen_id, seen_reference}
use Rattle.ecs_world.specs.Standing as world
use Rattle.ecs_observe.specs.Standing.{session_of}
use Rattle.ecs_observe.proofs.NamedQueries.{waits, world_is}
use Rattle.ecs_observe.proofs.CommandForms.{both_found, pending_both, refused_both}
use Rattle.ecs_observe.proofs.session.Session.found_both.Goals as goal

pub returns-then-has_events : goal.returns-then-has_events
returns-then-has_events g c =
    pending_both (session_of c.args.self.now) (seen_reference c.args.entity) (seen_id c.args.id) (waits c.args.self.now ∙ (sym c.has_events.ensures ∙ c.if-has_events.true))

pub returns-in-Err : goal.returns-in-Err
returns-in-Err g c =
    let there = ap (λ (w : world.Standing). w.state) c.world.ensures ∙ sym (world_is c.args.self.now) in
    refused_both (session_of c.args.self.now) (seen_reference c.args.entity) (seen_id c.args.id) c.in-Err.refusal (waits c.args.self.now ∙ (sym c.has_events.ensures ∙ c.if-has_events.false))
    (subst (λ (w : WorldState). FindsBoth w (seen_reference c.args.entity) (seen_id c.args.id) (Err c.in-Err.refusal)) there c.in-Err.ensures)

pub returns-in-Ok : goal.returns-in-Ok
returns-in-Ok g c =
    let there = ap (λ (w : world.Standing). w.state) c.world.ensures ∙ sym (world_is c.args.self.now) in
    both_found (session_of c.args.self.now) (seen_reference c.args.entity) (seen_id c.args.id) c.in-Ok.both
    (subst (λ (w : WorldState). FindsBoth w (seen_reference c.args.entity) (seen_id c.args.id) (Ok c.in-Ok.both)) there c.in-Ok.ensures)
