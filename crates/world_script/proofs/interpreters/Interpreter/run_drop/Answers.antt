use Rattle.ecs_observe.specs.Answers.{none_born}
use Rattle.world_script.proofs.Orders.{IfOk-drop, tells_done}
use Rattle.world_script.proofs.interpreters.Interpreter.run_drop.Goals as goal

pub returns : goal.returns
returns g c =
    IfOk-drop c.tell_answer.result c.args.self.now.session c.drop_stored-answer.new.self c.tell_answer.new.self.session c.args.self.now.number c.args.self.now.output.items c.tell_answer.new.self.output.items
    (none_born c.drop_stored-answer.result) c.args.name.now c.drop_stored-answer.ensures.answers (tells_done c.tell_answer.result c.drop_stored-answer.result c.args.self.now.number _ _ c.args.self.now.output.items c.tell_answer.new.self.output.items c.tell_answer.ensures)
