use Rattle.std.proofs.Common.{sym}
use Rattle.ecs_model.specs.References.{seen_reference}
use Rattle.ecs_observe.specs.Answers.{none_born}
use Rattle.world_script.proofs.Orders.{IfOk-delete, IfOk-delete_unfound, tells_done}
use Rattle.world_script.proofs.interpreters.Interpreter.run_delete.Goals as goal

pub returns-in-Err : goal.returns-in-Err
returns-in-Err g c =
    IfOk-delete_unfound c.refuse_in_world.result c.args.self.now.session c.args.self.now.number c.args.self.now.output.items c.refuse_in_world.new.output.items
    c.world.result.now (seen_reference c.args.entity) c.in-Err.refusal c.requires.none_wait c.world.ensures (sym c.in-Err.ensures.value) c.refuse_in_world.ensures

pub returns-in-Ok : goal.returns-in-Ok
returns-in-Ok g c =
    IfOk-delete c.tell_answer.result c.args.self.now.session c.delete-answer.new.self c.tell_answer.new.self.session c.args.self.now.number c.args.self.now.output.items c.tell_answer.new.self.output.items
    (none_born c.delete-answer.result) c.world.result.now (seen_reference c.args.entity) c.in-Ok.found c.world.ensures (sym c.in-Ok.ensures.value) c.delete-answer.ensures.answers (tells_done c.tell_answer.result c.delete-answer.result c.args.self.now.number _ _ c.args.self.now.output.items c.tell_answer.new.self.output.items c.tell_answer.ensures)
