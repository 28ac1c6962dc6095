use Rattle.std.proofs.Common.{refl}
use Rattle.ecs_observe.specs.Answers.{none_born}
use Rattle.world_script.proofs.Orders.{IfOk-remove, tells_done}
use Rattle.world_script.proofs.interpreters.Interpreter.remove_found.Goals as goal

pub returns : goal.returns
returns g c = λ r i found.
    IfOk-remove c.tell_answer.result c.args.self.now.session c.remove-answer.new.self c.tell_answer.new.self.session c.args.self.now.number c.args.self.now.output.items c.tell_answer.new.self.output.items
    (none_born c.remove-answer.result) c.args.self.now.session.world r i (c.args.entity, c.args.id) refl found c.remove-answer.ensures.answers (tells_done c.tell_answer.result c.remove-answer.result c.args.self.now.number _ _ c.args.self.now.output.items c.tell_answer.new.self.output.items c.tell_answer.ensures)
