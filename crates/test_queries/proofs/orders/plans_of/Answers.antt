-- What a text asks in a world has what it needs to be answered there, and so has a copy of it.
use Rattle.std.proofs.Common.{refl, ◌∙◌}
use Rattle.ecs_model.specs.rows.View.{view_of}
use Rattle.world_query.proofs.AskedQueries.{answerable, as_answerable}
use Rattle.test_queries.proofs.orders.plans_of.Goals as goal

pub plan_in-requires : goal.plan_in-requires
plan_in-requires c =
    let view = view_of c.args.world.now.state in
    let able = answerable c.args.world.now.state c.args.query.now c.keeps.ensures c.requires in
    record { sound = (as_answerable view view c.args.query.now c.in_ok-try_clone.field-0 refl c.in_ok-try_clone.ensures able).sound }

pub write_planned_rows-written-requires : goal.write_planned_rows-written-requires
write_planned_rows-written-requires c =
    let view = view_of c.args.world.now.state in
    let able = answerable c.args.world.now.state c.args.query.now c.keeps.ensures c.requires in
    record { answerable = as_answerable view view c.args.query.now c.in_ok-planned.planned.query refl (c.in_ok-planned.ensures.query ∙ c.in_ok-try_clone.ensures) able }

pub all_run-plans-requires-clause-answerable : goal.all_run-plans-requires-clause-answerable
all_run-plans-requires-clause-answerable c = answerable c.args.world.now.state c.args.query.now c.keeps.ensures c.requires

pub runs-by_each-requires : goal.runs-by_each-requires
runs-by_each-requires c = answerable c.args.world.now.state c.args.query.now c.keeps.ensures c.requires
