-- What a text asks in a world can be planned, and goes up without cycles there.
use Rattle.std.proofs.Common.{ap}
use Rattle.ecs_model.specs.rows.View.{view_of}
use Rattle.ecs_world.specs.Standing.{Standing}
use Rattle.world_query.proofs.AskedQueries.{answerable, as_answerable}
use Rattle.test_queries.proofs.runs.run_query.Goals as goal

pub plan_in-requires : goal.plan_in-requires
plan_in-requires g c = record { sound = (answerable c.args.world.now.state c.args.query c.keeps.ensures c.requires).sound }

pub run_plan-came-requires : goal.run_plan-came-requires
run_plan-came-requires g c =
    record {
      rises = (as_answerable (view_of c.args.world.now.state) (view_of c.new.result.world.state) c.args.query c.in_ok-plan.plan.query (ap (λ (x : Standing). view_of x.state) c.new.ensures) c.in_ok-plan.ensures.query
          (answerable c.args.world.now.state c.args.query c.keeps.ensures c.requires)).rises;
    }
