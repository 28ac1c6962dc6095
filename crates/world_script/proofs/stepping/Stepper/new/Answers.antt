-- In a new session no events wait.
use Rattle.std.proofs.Common.{◌≤◌, sym, subst, arith}
use Rattle.world_script.specs.declared.lines.Summary.{Summary}
use Rattle.world_script.proofs.WaitingEvents.{none_waits-first}
use Rattle.world_script.proofs.stepping.Stepper.new.Goals as goal

pub invariant_of-result : goal.invariant_of-result
invariant_of-result g c = λ _.
    let new = c.in_ok-interpreter.ensures in
    record {
      none_wait = none_waits-first _ new.session;
      few = subst (λ (n : Summary). n.refused ≤ n.lines) (sym new.summary) (omega arith);
      unprinted = new.output;
    }
