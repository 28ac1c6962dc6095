use Rattle.ecs_observe.specs.Answers.{born}
use Rattle.world_script.proofs.Orders.{IfOk-new}
use Rattle.world_script.proofs.interpreters.Interpreter.run_new.Goals as goal

pub returns : goal.returns
returns g c =
    IfOk-new c.tell_born.result c.args.self.now.session c.fresh-answer.new.self c.tell_born.new.self.session c.args.self.now.number c.args.self.now.output.items c.tell_born.new.self.output.items
    (born c.fresh-answer.result) c.fresh-answer.ensures.answers c.tell_born.ensures
