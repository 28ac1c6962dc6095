use Rattle.std.specs.Prelude.{IsTrue}
use Rattle.ecs_id.specs.Id.{plain}
use Rattle.ecs_model.specs.BuiltIns.{acyclic}
use Rattle.ecs_model.specs.World.{holds}
use Rattle.test_queries.proofs.searches.has_no_cycle.Goals as goal

pub returns : goal.returns
returns c = λ t.
    let held : IsTrue (holds c.args.world.now.state c.args.relationship (plain acyclic)) = rw (c.has.ensures, c.plain.ensures) at t in
    c.keeps.ensures.traits.no_cycle c.args.relationship held
