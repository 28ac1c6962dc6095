use Rattle.ecs_model.specs.Orders.{MakeEntity}
use Rattle.ecs_model.specs.Script.{CarryOut, one_word}
use Rattle.ecs_model.specs.Text.{words}
use Rattle.ecs_model.specs.stored.Session.{InWorld}
use Rattle.world_script.proofs.ReadLines.{does_bad}
use Rattle.world_script.proofs.interpreters.Interpreter.run_entity_line.Goals as goal

pub returns-in-None : goal.returns-in-None
returns-in-None g c =
    does_bad c.refuse.result c.args.self.now.session c.args.self.now.number c.args.self.now.output.items c.refuse.new.output.items
    (one_word (λ n. CarryOut (InWorld (MakeEntity n))) (words c.args.rest.now)) (c.in-None.ensures (λ n. CarryOut (InWorld (MakeEntity n)))) c.refuse.ensures
