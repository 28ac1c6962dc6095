use Rattle.std.proofs.Common.{refl}
use Rattle.ecs_observe.specs.Answers.{none_born}
use Rattle.world_script.proofs.Orders.{IfOk-add, tells_done}
use Rattle.world_script.proofs.interpreters.Interpreter.add_found.Goals as goal

pub returns : goal.returns
returns g c = λ r i found.
    IfOk-add c.tell_answer.result c.args.self.now.session c.add-answer.new.self c.tell_answer.new.self.session c.args.self.now.number c.args.self.now.output.items c.tell_answer.new.self.output.items
    (none_born c.add-answer.result) c.args.self.now.session.world r i (c.args.entity, c.args.id) refl found c.add-answer.ensures.answers (tells_done c.tell_answer.result c.add-answer.result c.args.self.now.number _ _ c.args.self.now.output.items c.tell_answer.new.self.output.items c.tell_answer.ensures)
