use Rattle.std.proofs.Common.{◌++◌, map, sym, ap, ◌∙◌, arith, subst}
use Rattle.std.specs.Prelude.{filter}
use Rattle.watch_concerns.specs.Since.{held_before, observed_before, removed_event}
use Rattle.ecs_print.specs.Stops.{StopsWithin}
use Rattle.ecs_print.proofs.Stops.{on_err_anyway, stops_at_passed}
use Rattle.watch_events.specs.Terms.{tells}
use Rattle.watch_events.proofs.ObserverTerms.{none_observed_before, observed_before_by_term}
use Rattle.watch_events.proofs.ToldLists.{told_all, told_none}
use Rattle.watch_events.proofs.removals.tell_removals.Goals as goal

pub returns-in_default-clause-told : goal.returns-in_default-clause-told
returns-in_default-clause-told g c =
    let w = c.args.world.now.state in
    let changed = c.args.changes.now in
    let q = c.args.audience.query.now in
    told_none (removed_event w changed c.args.audience.name.now) (observed_before w changed q) (c.args.events.now).items changed.went (none_observed_before w changed q changed.went (sym c.in_default.ensures))

pub returns-clause-told : goal.returns-clause-told
returns-clause-told g c =
    let w = c.args.world.now.state in
    let changed = c.args.changes.now in
    let q = c.args.audience.query.now in
    let term = c.in-Some.term.now in
    let told = removed_event w changed c.args.audience.name.now in
    told_all told (tells (held_before w changed) term) (observed_before w changed q) (c.args.events.now).items c.loop-fact.events.items
    c.went-facts.result.now c.loop-fact.fact-index c.loop-fact.invariant (omega arith) (observed_before_by_term w changed q c.went-facts.result.now term (sym c.in-Some.ensures))
    ∙ ap (λ ks. (c.args.events.now).items ++ map told (filter (observed_before w changed q) ks)) c.went-facts.ensures

-- where one is refused, the events of those before it were added
pub returns-in_err-removed_event-clause-front : goal.returns-in_err-removed_event-clause-front
returns-in_err-removed_event-clause-front g c =
    let w = c.args.world.now.state in
    let changed = c.args.changes.now in
    let q = c.args.audience.query.now in
    let facts = c.went-facts.result.now in
    let told = removed_event w changed c.args.audience.name.now in
    on_err_anyway _
    (subst (λ ks. StopsWithin (c.args.events.now).items c.loop-fact.events.items (map told (filter (observed_before w changed q) ks))) c.went-facts.ensures
    (stops_at_passed told (tells (held_before w changed) c.in-Some.term.now) (observed_before w changed q) facts c.loop-fact.fact-index _ _ (observed_before_by_term w changed q facts c.in-Some.term.now (sym c.in-Some.ensures)) c.loop-fact.invariant))

pub returns-in_err-push_event-clause-front : goal.returns-in_err-push_event-clause-front
returns-in_err-push_event-clause-front g c =
    let w = c.args.world.now.state in
    let changed = c.args.changes.now in
    let q = c.args.audience.query.now in
    let facts = c.went-facts.result.now in
    let told = removed_event w changed c.args.audience.name.now in
    on_err_anyway _
    (subst (λ ks. StopsWithin (c.args.events.now).items c.push_event.new.events.items (map told (filter (observed_before w changed q) ks))) c.went-facts.ensures
    (stops_at_passed told (tells (held_before w changed) c.in-Some.term.now) (observed_before w changed q) facts c.loop-fact.fact-index _ _ (observed_before_by_term w changed q facts c.in-Some.term.now (sym c.in-Some.ensures)) (c.in_err-push_event.ensures.kept ∙ c.loop-fact.invariant)))
