-- One more fact at each turn.
use Rattle.ecs_model.proofs.Maps.{of_some}
use Rattle.ecs_world.specs.State.{AreFactsOf}
use Rattle.ecs_print.proofs.HeldFacts.{fact_more, fact_stops}
use Rattle.ecs_print.proofs.Stops.{on_err_anyway}
use Rattle.ecs_print.proofs.facts.write_facts.Goals as goal

pub loop-place-preserved : goal.loop-place-preserved
loop-place-preserved g c =
    let w = c.args.world.now.state in
    let e = c.args.entity.index in
    let are = of_some (AreFactsOf w e) c.facts.result c.facts.ensures.facts c.unwrap-facts.result c.unwrap-facts.ensures in
    fact_more w e c.unwrap-facts.result c.loop-place.place c.at-id.result.0 c.at-id.result.1.now (c.args.out.now).items c.loop-place.out.items c.write_held.new.out.items
    are c.at-id.ensures.here c.at-id.ensures.value c.loop-place.invariant c.in_ok-write_held.ensures.written

-- where one is refused, the facts before it were written, and a prefix of its id
pub returns-in_err-write_held-clause-front : goal.returns-in_err-write_held-clause-front
returns-in_err-write_held-clause-front g c =
    let w = c.args.world.now.state in
    let e = c.args.entity.index in
    let are = of_some (AreFactsOf w e) c.facts.result c.facts.ensures.facts c.unwrap-facts.result c.unwrap-facts.ensures in
    on_err_anyway _
    (fact_stops w e c.unwrap-facts.result c.loop-place.place c.at-id.result.0 c.at-id.result.1.now (c.args.out.now).items c.loop-place.out.items c.write_held.new.out.items
    are c.at-id.ensures.here c.loop-place.invariant c.in_err-write_held.ensures.front)
