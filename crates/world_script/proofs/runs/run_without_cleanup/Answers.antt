use Rattle.world_script.proofs.Faults.{WroteFront-none}
use Rattle.world_script.proofs.RunSteps.{IsRunning-start}
use Rattle.world_script.proofs.runs.run_without_cleanup.Goals as goal

pub returns-in_err-runner-clause-memory : goal.returns-in_err-runner-clause-memory
returns-in_err-runner-clause-memory g c = λ _. WroteFront-none _ _

pub run_script-done-requires-clause-running : goal.run_script-done-requires-clause-running
run_script-done-requires-clause-running g c =
    let new = c.in_ok-runner.ensures in
    IsRunning-start _ _ c.in_ok-runner.runner.lines _ c.in_ok-runner.runner.interpreter.summary _ new.lines new.first.session new.first.summary new.first.output

pub run_script-done-requires-clause-none_wait : goal.run_script-done-requires-clause-none_wait
run_script-done-requires-clause-none_wait g c = c.in_ok-runner.ensures.first.none_wait
