use Rattle.std.proofs.Common.{◌++◌, append-nil, ap, sym, ◌∙◌}
use Rattle.std.specs.Prelude.{flat_map}
use Rattle.ecs_model.specs.stored.Watches.{event_text}
use Rattle.world_script.proofs.WaitingEvents.{as_after_events, no_events}
use Rattle.world_script.proofs.telling.tell_events.Goals as goal

pub returns-then-not-has_events-clause-printed : goal.returns-then-not-has_events-clause-printed
returns-then-not-has_events-clause-printed g c =
    let before = c.args.output.now.items in
    let none = no_events c.args.session.now (sym c.has_events.ensures ∙ c.if-not-has_events.true) in
    sym (ap (λ es. before ++ flat_map event_text es) none ∙ append-nil before)

pub returns-then-not-has_events-clause-after : goal.returns-then-not-has_events-clause-after
returns-then-not-has_events-clause-after g c = as_after_events c.args.session.now (sym c.has_events.ensures ∙ c.if-not-has_events.true)
