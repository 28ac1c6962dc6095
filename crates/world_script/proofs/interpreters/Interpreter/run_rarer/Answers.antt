-- Where memory is refused nothing is sent.
use Rattle.world_script.proofs.SentFronts.{does_memory}
use Rattle.world_script.proofs.interpreters.Interpreter.run_rarer.Goals as goal

pub returns-in_err-form : goal.returns-in_err-form
returns-in_err-form g c = does_memory _ c.from_residual.ensures.1
