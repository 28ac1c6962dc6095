-- A line about a fact sends nothing.
use Rattle.world_script.proofs.SentFronts.{does_as}
use Rattle.world_script.proofs.interpreters.Interpreter.run_opened.Goals as goal

pub returns-in-Some : goal.returns-in-Some
returns-in-Some g c = rw c.in-Some.ensures (does_as c.run_fact_line.result _ c.unsent.ensures c.run_fact_line.ensures)
