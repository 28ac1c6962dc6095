use Rattle.std.proofs.Common.{sym}
use Rattle.ecs_model.specs.References.{seen_reference}
use Rattle.world_script.proofs.Orders.{IsDone-shown, IfOk-unshown}
use Rattle.world_script.proofs.interpreters.Interpreter.run_show.Goals as goal

pub returns-in-Err : goal.returns-in-Err
returns-in-Err g c =
    IfOk-unshown c.refuse_in_world.result c.args.self.now.session c.args.self.now.number c.args.self.now.output.items c.refuse_in_world.new.output.items
    c.world-world.result.now (seen_reference c.args.entity) c.in-Err.refusal c.world-world.ensures (sym c.in-Err.ensures.value) c.refuse_in_world.ensures

pub returns-in_ok-show_entity-in-Ok : goal.returns-in_ok-show_entity-in-Ok
returns-in_ok-show_entity-in-Ok g c =
    IsDone-shown c.args.self.now.session c.args.self.now.number _ _ c.world-world.result.now (seen_reference c.args.entity) c.in-Ok.found c.world-world.ensures (sym c.in-Ok.ensures.value) c.in_ok-show_entity-in-Ok.ensures
