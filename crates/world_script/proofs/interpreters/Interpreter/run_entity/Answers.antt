use Rattle.ecs_observe.specs.Answers.{born}
use Rattle.world_script.proofs.Orders.{IfOk-entity, tells_born}
use Rattle.world_script.proofs.interpreters.Interpreter.run_entity.Goals as goal

pub returns : goal.returns
returns g c =
    IfOk-entity c.tell_answer.result c.args.self.now.session c.entity-answer.new.self c.tell_answer.new.self.session c.args.self.now.number c.args.self.now.output.items c.tell_answer.new.self.output.items
    (born c.entity-answer.result) c.args.name.now c.entity-answer.ensures.answers (tells_born c.tell_answer.result c.entity-answer.result c.args.self.now.number _ _ c.args.self.now.output.items c.tell_answer.new.self.output.items c.tell_answer.ensures)
