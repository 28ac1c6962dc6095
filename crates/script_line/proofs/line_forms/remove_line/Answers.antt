use Rattle.std.proofs.Common.{sym}
use Rattle.ecs_model.specs.Orders.{RemoveFrom}
use Rattle.ecs_model.specs.Script.{CarryOut}
use Rattle.ecs_model.specs.stored.Session.{InWorld}
use Rattle.script_line.proofs.line_forms.remove_line.Goals as goal

pub returns-in-Some : goal.returns-in-Some
returns-in-Some g c = λ _. sym (c.in-Some.ensures (λ r i. CarryOut (InWorld (RemoveFrom r i))))

pub returns-in-None : goal.returns-in-None
returns-in-None g c = λ _. sym (c.in-None.ensures (λ r i. CarryOut (InWorld (RemoveFrom r i))))
