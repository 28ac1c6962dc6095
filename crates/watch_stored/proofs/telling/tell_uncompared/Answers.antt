use Rattle.std.proofs.Common.{◌++◌, append-nil, ap, sym, ◌∙◌}
use Rattle.watch_concerns.specs.Since.{told_since}
use Rattle.watch_stored.specs.Held.{rows_before}
use Rattle.watch_stored.specs.Telling.{held_by}
use Rattle.watch_stored.proofs.StayingRows.{neither_monitors}
use Rattle.watch_stored.proofs.telling.tell_uncompared.Goals as goal

pub returns-then-not-may_tell : goal.returns-then-not-may_tell
returns-then-not-may_tell g c =
    let w = c.args.effect.now.world.now.state in
    let changed = c.args.effect.now.changes.now in
    let h = held_by c.args.listener.now in
    let old = rows_before w changed h in
    let none = ap (λ q. told_since w changed h.name h.kind q old) (sym c.query.ensures) ∙ c.may_tell.ensures.nothing c.if-not-may_tell.true w h.name old in
    record { told = sym (ap (λ es. c.args.events.now.items ++ es) none ∙ append-nil c.args.events.now.items); front = tt }

pub tell_observer-requires-clause-observes : goal.tell_observer-requires-clause-observes
tell_observer-requires-clause-observes g c =
    let h = held_by c.args.listener.now in
    neither_monitors h c.requires.uncompared (sym c.is_told_locally.ensures ∙ c.if-is_told_locally.false)
