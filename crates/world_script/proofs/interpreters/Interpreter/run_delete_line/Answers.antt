use Rattle.ecs_model.specs.Orders.{DeleteOne}
use Rattle.ecs_model.specs.Script.{CarryOut, entity_line}
use Rattle.ecs_model.specs.stored.Session.{InWorld}
use Rattle.ecs_model.specs.References.{seen_reference}
use Rattle.world_script.proofs.ReadLines.{does_bad, does_same}
use Rattle.world_script.proofs.interpreters.Interpreter.run_delete_line.Goals as goal

pub returns-in-Some : goal.returns-in-Some
returns-in-Some g c =
    does_same c.run_delete.result c.args.self.now.session c.run_delete.new.self.session c.args.self.now.number c.args.self.now.output.items c.run_delete.new.self.output.items
    (entity_line (λ r. CarryOut (InWorld (DeleteOne r))) c.args.rest.now) (CarryOut (InWorld (DeleteOne (seen_reference c.in-Some.entity))))
    (c.in-Some.ensures (λ r. CarryOut (InWorld (DeleteOne r)))) c.run_delete.ensures

pub returns-in-None : goal.returns-in-None
returns-in-None g c =
    does_bad c.refuse.result c.args.self.now.session c.args.self.now.number c.args.self.now.output.items c.refuse.new.output.items
    (entity_line (λ r. CarryOut (InWorld (DeleteOne r))) c.args.rest.now) (c.in-None.ensures (λ r. CarryOut (InWorld (DeleteOne r)))) c.refuse.ensures
