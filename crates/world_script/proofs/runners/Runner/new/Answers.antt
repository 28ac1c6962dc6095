-- In a new session no events wait.
use Rattle.world_script.proofs.WaitingEvents.{none_waits-first}
use Rattle.world_script.proofs.runners.Runner.new.Goals as goal

pub returns-clause-first : goal.returns-clause-first
returns-clause-first g c =
    let new = c.in_ok-interpreter.ensures in
    record { session = new.session; none_wait = none_waits-first _ new.session; summary = new.summary; output = new.output }
