use Rattle.std.proofs.Common.{◌≡◌, ap, sym}
use Rattle.std.specs.Prelude.{Err}
use Rattle.world_script.proofs.AnswerWays.{FaultyAt-same, err_is}
use Rattle.world_script.proofs.Faults.{WroteFront-none}
use Rattle.world_script.proofs.RunSteps.{IsRunning-start}
use Rattle.world_script.proofs.runs.run.Goals as goal

pub returns-in_err-runner-clause-memory : goal.returns-in_err-runner-clause-memory
returns-in_err-runner-clause-memory g c = λ _. WroteFront-none _ _

pub run_script-requires-clause-running : goal.run_script-requires-clause-running
run_script-requires-clause-running g c =
    let new = c.in_ok-runner.ensures in
    IsRunning-start _ _ c.in_ok-runner.runner.lines _ c.in_ok-runner.runner.interpreter.summary _ new.lines new.first.session new.first.summary new.first.output

pub run_script-requires-clause-none_wait : goal.run_script-requires-clause-none_wait
run_script-requires-clause-none_wait g c = c.in_ok-runner.ensures.first.none_wait

pub returns-in_err-run_script-clause-read : goal.returns-in_err-run_script-clause-read
returns-in_err-run_script-clause-read g c = λ is.
    c.in_err-run_script.ensures.read (ap (λ x. Err x) (sym (err_is (λ x. x ≡ c.in_err-run_script.field-0.0) _ _ c.from_residual-in_err-run_script.ensures.1 is)))

pub returns-in_err-run_script-clause-too_long : goal.returns-in_err-run_script-clause-too_long
returns-in_err-run_script-clause-too_long g c = λ is.
    c.in_err-run_script.ensures.too_long (ap (λ x. Err x) (sym (err_is (λ x. x ≡ c.in_err-run_script.field-0.0) _ _ c.from_residual-in_err-run_script.ensures.1 is)))

pub returns-in_err-run_script-clause-memory : goal.returns-in_err-run_script-clause-memory
returns-in_err-run_script-clause-memory g c = λ is.
    c.in_err-run_script.ensures.memory (ap (λ x. Err x) (sym (err_is (λ x. x ≡ c.in_err-run_script.field-0.0) _ _ c.from_residual-in_err-run_script.ensures.1 is)))

pub returns-in_err-run_script-clause-write : goal.returns-in_err-run_script-clause-write
returns-in_err-run_script-clause-write g c = λ is.
    c.in_err-run_script.ensures.write (ap (λ x. Err x) (sym (err_is (λ x. x ≡ c.in_err-run_script.field-0.0) _ _ c.from_residual-in_err-run_script.ensures.1 is)))

pub returns-in_err-run_script-clause-reads : goal.returns-in_err-run_script-clause-reads
returns-in_err-run_script-clause-reads g c =
    FaultyAt-same _ _ _ _ c.run_script.result _ c.in_err-run_script.was c.from_residual-in_err-run_script.ensures.1 c.run_script.ensures.reads

pub returns-in_err-run_script-clause-writes : goal.returns-in_err-run_script-clause-writes
returns-in_err-run_script-clause-writes g c =
    FaultyAt-same _ _ _ _ c.run_script.result _ c.in_err-run_script.was c.from_residual-in_err-run_script.ensures.1 c.run_script.ensures.writes
