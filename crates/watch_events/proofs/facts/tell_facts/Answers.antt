use Rattle.std.specs.List.{filter}
use Rattle.std.proofs.Common.{◌++◌, map, sym, ap, ◌∙◌, arith, subst}
use Rattle.ecs_model.specs.World.{holds}
use Rattle.ecs_model.specs.rows.View.{view_of}
use Rattle.ecs_model.specs.stored.Watches.{fact_event, observes}
use Rattle.ecs_print.specs.Stops.{StopsWithin}
use Rattle.ecs_print.proofs.Stops.{on_err_anyway, stops_at_passed}
use Rattle.watch_events.specs.Terms.{tells, told_facts, told_value}
use Rattle.watch_events.proofs.ObserverTerms.{none_observed, observed_by_term}
use Rattle.watch_events.proofs.ToldLists.{told_all, told_none}
use Rattle.watch_events.proofs.facts.tell_facts.Goals as goal

pub returns-in_default-clause-told : goal.returns-in_default-clause-told
returns-in_default-clause-told g c =
    let w = c.args.world.now.state in
    let q = c.args.audience.query.now in
    let facts = told_facts c.args.changes.now c.args.kind in
    told_none (fact_event c.args.audience.name.now c.args.kind w (told_value w c.args.kind)) (observes (view_of w) q) (c.args.events.now).items facts (none_observed w q facts (sym c.in_default.ensures))

pub returns-clause-told : goal.returns-clause-told
returns-clause-told g c =
    let w = c.args.world.now.state in
    let q = c.args.audience.query.now in
    let term = c.in-Some.term.now in
    let facts = c.told_facts-facts.result.now in
    let told = fact_event c.args.audience.name.now c.args.kind w (told_value w c.args.kind) in
    told_all told (tells (holds w) term) (observes (view_of w) q) (c.args.events.now).items c.loop-fact.events.items facts c.loop-fact.fact-index c.loop-fact.invariant (omega arith)
    (observed_by_term w q facts term (sym c.in-Some.ensures))
    ∙ ap (λ ks. (c.args.events.now).items ++ map told (filter (observes (view_of w) q) ks)) c.told_facts-facts.ensures

-- where one is refused, the events of those before it were added
pub returns-in_err-fact_event-clause-front : goal.returns-in_err-fact_event-clause-front
returns-in_err-fact_event-clause-front g c =
    let w = c.args.world.now.state in
    let q = c.args.audience.query.now in
    let term = c.in-Some.term.now in
    let facts = c.told_facts-facts.result.now in
    let told = fact_event c.args.audience.name.now c.args.kind w (told_value w c.args.kind) in
    on_err_anyway _
    (subst (λ ks. StopsWithin (c.args.events.now).items c.loop-fact.events.items (map told (filter (observes (view_of w) q) ks))) c.told_facts-facts.ensures
    (stops_at_passed told (tells (holds w) term) (observes (view_of w) q) facts c.loop-fact.fact-index _ _ (observed_by_term w q facts term (sym c.in-Some.ensures)) c.loop-fact.invariant))

pub returns-in_err-push_event-clause-front : goal.returns-in_err-push_event-clause-front
returns-in_err-push_event-clause-front g c =
    let w = c.args.world.now.state in
    let q = c.args.audience.query.now in
    let term = c.in-Some.term.now in
    let facts = c.told_facts-facts.result.now in
    let told = fact_event c.args.audience.name.now c.args.kind w (told_value w c.args.kind) in
    on_err_anyway _
    (subst (λ ks. StopsWithin (c.args.events.now).items c.push_event.new.events.items (map told (filter (observes (view_of w) q) ks))) c.told_facts-facts.ensures
    (stops_at_passed told (tells (holds w) term) (observes (view_of w) q) facts c.loop-fact.fact-index _ _ (observed_by_term w q facts term (sym c.in-Some.ensures)) (c.in_err-push_event.ensures.kept ∙ c.loop-fact.invariant)))
