use Rattle.std.specs.List.{filter}
use Rattle.std.proofs.Common.{[], map, subst}
use Rattle.std.proofs.lemmas.Result.{on_err_weaker}
use Rattle.ecs_model.specs.declared.watches.EventKind.TheVariants.{Added, Written}
use Rattle.ecs_model.specs.rows.View.{view_of}
use Rattle.ecs_model.specs.stored.Watches.{fact_event, observes}
use Rattle.ecs_print.specs.Stops.{StopsWithin}
use Rattle.watch_concerns.specs.Since.{observed_before, removed_event, told_since}
use Rattle.watch_events.specs.Terms.{told_value}
use Rattle.watch_events.proofs.StoredKinds.{added_told, kept_told, removed_told, set_told, told_same}
use Rattle.watch_events.proofs.telling.tell.Goals as goal

pub returns-in-Kept-clause-told : goal.returns-in-Kept-clause-told
returns-in-Kept-clause-told g c =
    kept_told c.args.world.now.state c.args.changes.now c.args.audience.name.now c.args.audience.query.now [] c.args.audience.kind (c.args.events.now).items c.in-Kept.is

pub returns-in-Monitor-clause-told : goal.returns-in-Monitor-clause-told
returns-in-Monitor-clause-told g c = absurd (c.requires.observes c.in-Monitor.is)

pub returns-in-OnAdd-clause-told : goal.returns-in-OnAdd-clause-told
returns-in-OnAdd-clause-told g c =
    let w = c.args.world.now.state in
    let changed = c.args.changes.now in
    let name = c.args.audience.name.now in
    let q = c.args.audience.query.now in
    let kind = c.args.audience.kind in
    let event = fact_event name Added w (told_value w Added) in
    told_same c.tell_facts.result (c.args.events.now).items c.tell_facts.new.events.items
    (map event (filter (observes (view_of w) q) changed.came)) (told_since w changed name kind q []) c.tell_facts.ensures.told (added_told w changed name q [] kind c.in-OnAdd.is)

pub returns-in-OnRemove-clause-told : goal.returns-in-OnRemove-clause-told
returns-in-OnRemove-clause-told g c =
    let w = c.args.world.now.state in
    let changed = c.args.changes.now in
    let name = c.args.audience.name.now in
    let q = c.args.audience.query.now in
    let kind = c.args.audience.kind in
    told_same c.tell_removals.result (c.args.events.now).items c.tell_removals.new.events.items
    (map (removed_event w changed name) (filter (observed_before w changed q) changed.went)) (told_since w changed name kind q []) c.tell_removals.ensures.told
    (removed_told w changed name q [] kind c.in-OnRemove.is)

pub returns-in-OnSet-clause-told : goal.returns-in-OnSet-clause-told
returns-in-OnSet-clause-told g c =
    let w = c.args.world.now.state in
    let changed = c.args.changes.now in
    let name = c.args.audience.name.now in
    let q = c.args.audience.query.now in
    let kind = c.args.audience.kind in
    let event = fact_event name Written w (told_value w Written) in
    told_same c.tell_facts-in-OnSet.result (c.args.events.now).items c.tell_facts-in-OnSet.new.events.items
    (map event (filter (observes (view_of w) q) changed.written)) (told_since w changed name kind q []) c.tell_facts-in-OnSet.ensures.told (set_told w changed name q [] kind c.in-OnSet.is)

pub returns-in-OnAdd-clause-front : goal.returns-in-OnAdd-clause-front
returns-in-OnAdd-clause-front g c =
    on_err_weaker c.tell_facts.result
    (subst (StopsWithin (c.args.events.now).items c.tell_facts.new.events.items) (added_told c.args.world.now.state c.args.changes.now c.args.audience.name.now c.args.audience.query.now [] c.args.audience.kind c.in-OnAdd.is))
    c.tell_facts.ensures.front

pub returns-in-OnRemove-clause-front : goal.returns-in-OnRemove-clause-front
returns-in-OnRemove-clause-front g c =
    on_err_weaker c.tell_removals.result
    (subst (StopsWithin (c.args.events.now).items c.tell_removals.new.events.items) (removed_told c.args.world.now.state c.args.changes.now c.args.audience.name.now c.args.audience.query.now [] c.args.audience.kind c.in-OnRemove.is))
    c.tell_removals.ensures.front

pub returns-in-OnSet-clause-front : goal.returns-in-OnSet-clause-front
returns-in-OnSet-clause-front g c =
    on_err_weaker c.tell_facts-in-OnSet.result
    (subst (StopsWithin (c.args.events.now).items c.tell_facts-in-OnSet.new.events.items) (set_told c.args.world.now.state c.args.changes.now c.args.audience.name.now c.args.audience.query.now [] c.args.audience.kind c.in-OnSet.is))
    c.tell_facts-in-OnSet.ensures.front
