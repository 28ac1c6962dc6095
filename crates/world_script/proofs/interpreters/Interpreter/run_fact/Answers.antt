use Rattle.std.proofs.Common.{Ok, subst}
use Rattle.ecs_model.specs.References.{seen_id, seen_reference}
use Rattle.ecs_observe.specs.Commands.{FindsBoth}
use Rattle.ecs_world.specs.Standing.{Standing as World}
use Rattle.world_script.proofs.Orders.{IfOk-deed_unfound}
use Rattle.world_script.proofs.interpreters.Interpreter.run_fact.Goals as goal

pub returns-in-Err : goal.returns-in-Err
returns-in-Err g c =
    let i = c.args.self.now in
    IfOk-deed_unfound c.refuse_in_world.result i.session i.number i.output.items c.refuse_in_world.new.output.items
    c.args.deed c.world.result.now (seen_reference c.args.fact.entity) (seen_id c.args.fact.id) i.values.items c.in-Err.refusal c.requires.none_wait c.world.ensures c.in-Err.ensures c.refuse_in_world.ensures

pub returns-in-Ok : goal.returns-in-Ok
returns-in-Ok g c =
    let entity = seen_reference c.args.fact.entity in
    let id = seen_id c.args.fact.id in
    let P : World → Type 0 = λ w. FindsBoth w.state entity id (Ok c.in-Ok.both) in
    c.do_found.ensures entity id (subst P c.world.ensures c.in-Ok.ensures)
