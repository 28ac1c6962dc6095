use Rattle.std.proofs.Common.{refl}
use Rattle.ecs_observe.specs.Answers.{none_born}
use Rattle.world_script.proofs.Orders.{IfOk-set, tells_done}
use Rattle.world_script.proofs.interpreters.Interpreter.set_found.Goals as goal

pub returns : goal.returns
returns g c = λ r i found.
    IfOk-set c.tell_answer.result c.args.self.now.session c.set-answer.new.self c.tell_answer.new.self.session c.args.self.now.number c.args.self.now.output.items c.tell_answer.new.self.output.items
    (none_born c.set-answer.result) c.args.self.now.session.world r i c.args.self.now.values.items (c.args.entity, c.args.id) refl found (rw c.as_slice.ensures.value at c.set-answer.ensures.answers) (tells_done c.tell_answer.result c.set-answer.result c.args.self.now.number _ _ c.args.self.now.output.items c.tell_answer.new.self.output.items c.tell_answer.ensures)
