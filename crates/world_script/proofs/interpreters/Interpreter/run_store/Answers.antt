use Rattle.ecs_observe.specs.Answers.{none_born}
use Rattle.world_script.proofs.Orders.{IfOk-store, tells_done}
use Rattle.world_script.proofs.interpreters.Interpreter.run_store.Goals as goal

pub returns : goal.returns
returns g c =
    IfOk-store c.tell_answer.result c.args.self.now.session c.store-answer.new.self c.tell_answer.new.self.session c.args.self.now.number c.args.self.now.output.items c.tell_answer.new.self.output.items
    (none_born c.store-answer.result) c.args.kind c.args.name.now c.args.text.now c.store-answer.ensures.answers (tells_done c.tell_answer.result c.store-answer.result c.args.self.now.number _ _ c.args.self.now.output.items c.tell_answer.new.self.output.items c.tell_answer.ensures)
