-- A line of more or less than one word is bad.
use Rattle.ecs_model.specs.Script.{AskKept, one_word}
use Rattle.ecs_model.specs.Text.{words}
use Rattle.world_script.proofs.ReadLines.{does_bad}
use Rattle.world_script.proofs.SentFronts.{does_as}
use Rattle.world_script.proofs.interpreters.Interpreter.run_rows_line.Goals as goal

pub returns-in-None : goal.returns-in-None
returns-in-None g c =
    does_as c.refuse.result _ c.unsent.ensures
    (does_bad c.refuse.result c.args.self.now.session c.args.self.now.number c.args.self.now.output.items c.refuse.new.output.items
    (one_word AskKept (words c.args.rest.now)) (c.in-None.ensures AskKept) c.refuse.ensures)
