use Rattle.std.proofs.Common.{◌++◌, append-nil, ap, sym, ◌∙◌}
use Rattle.std.specs.Prelude.{flat_map}
use Rattle.ecs_model.specs.stored.Watches.{event_text}
use Rattle.world_script.proofs.CommandEvents.{after_waits, on_ok_anyway}
use Rattle.world_script.proofs.WaitingEvents.{as_after_events, no_events, none_of}
use Rattle.world_script.proofs.commanding.move_events.Goals as goal

pub returns-clause-none_wait : goal.returns-clause-none_wait
returns-clause-none_wait g c = on_ok_anyway c.move_behind.result (after_waits _ c.tell_events.new.session c.in_ok-tell_events.ensures.after)

pub returns-then-not-has_events-clause-none_wait : goal.returns-then-not-has_events-clause-none_wait
returns-then-not-has_events-clause-none_wait g c = none_of _ (sym c.has_events.ensures ∙ c.if-not-has_events.true)

pub returns-then-not-has_events-clause-printed : goal.returns-then-not-has_events-clause-printed
returns-then-not-has_events-clause-printed g c =
    let before = c.args.printed.now.items in
    let none = no_events _ (sym c.has_events.ensures ∙ c.if-not-has_events.true) in
    sym (ap (λ es. before ++ flat_map event_text es) none ∙ append-nil before)

pub returns-then-not-has_events-clause-after : goal.returns-then-not-has_events-clause-after
returns-then-not-has_events-clause-after g c = as_after_events _ (sym c.has_events.ensures ∙ c.if-not-has_events.true)
