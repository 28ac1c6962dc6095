use Rattle.std.proofs.Common.{◌≡◌, ◌++◌, [], ap, subst, ◌∙◌}
use Rattle.std.proofs.lemmas.Result.{on_err_weaker, on_ok_weaker}
use Rattle.ecs_print.specs.Stops.{StopsWithin}
use Rattle.watch_concerns.specs.Since.{told_since}
use Rattle.watch_stored.specs.Held.{rows_before, told_to}
use Rattle.watch_stored.specs.Telling.{held_by}
use Rattle.watch_stored.proofs.LocalMonitors.{same_told}
use Rattle.watch_stored.proofs.telling.tell_observer.Goals as goal

pub returns : goal.returns
returns g c =
    let w = c.args.effect.now.world.now.state in
    let changed = c.args.effect.now.changes.now in
    let h = held_by c.args.listener.now in
    let told : told_since w changed c.as_bytes.result.now h.kind c.query.result.now [] ≡ told_to w changed h
    = (λ i. told_since w changed (c.as_bytes.ensures.value i) h.kind (c.query.ensures i) [])
    ∙ same_told w changed h.name h.query h.kind [] (rows_before w changed h) c.requires.observes in
    record {
      told = on_ok_weaker c.tell.result (λ e. e ∙ ap (λ es. c.args.events.now.items ++ es) told) c.tell.ensures.told;
      front = on_err_weaker c.tell.result (subst (StopsWithin c.args.events.now.items c.tell.new.events.items) told) c.tell.ensures.front;
    }
