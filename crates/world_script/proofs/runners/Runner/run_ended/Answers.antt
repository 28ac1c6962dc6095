use Rattle.std.proofs.Common.{◌∙◌}
use Rattle.std.proofs.lemmas.Result.{on_err_weaker}
use Rattle.world_script.proofs.AnswerWays.{FaultyAt-ok, FaultyAt-same, on_err_anyway, on_ok_two}
use Rattle.world_script.proofs.Faults.{TakesFront-none, WroteFront-at}
use Rattle.world_script.proofs.RunSteps.{IsRunning-front, IsRunning-line, IsRunning-written, few-line, room-line}
use Rattle.world_query.proofs.SentTexts.{calm_still}
use Rattle.world_script.proofs.SentFronts.{FaultyAt-send, IsRunning-sent, WroteFront-line, send_fault}
use Rattle.world_script.proofs.runners.Runner.run_ended.Goals as goal

pub returns-in_err-take_line-clause-front : goal.returns-in_err-take_line-clause-front
returns-in_err-take_line-clause-front g c = λ told left old so.
    let at = c.loop-self.invariant.running told left old so in
    on_err_anyway c.from_residual.result (WroteFront-at _ _ _ _ _ c.loop-self.self.lines _ _ _ at (TakesFront-none _ _))

pub returns-in_err-run_next-clause-front : goal.returns-in_err-run_next-clause-front
returns-in_err-run_next-clause-front g c = λ told left old so.
    let taken = rw c.if-branch.true at c.in_ok-take_line.ensures.taken in
    let stops = rw c.line.ensures at c.in_err-run_next.ensures.stops in
    let at = c.loop-self.invariant.running told left old so in
    on_err_anyway c.from_residual-in_err-run_next.result (WroteFront-line _ _ _ _ _ c.loop-self.self.lines c.take_line.new.self _ _ _ taken c.take_line.ensures.read at stops)

pub returns-in_err-run_next-clause-fault : goal.returns-in_err-run_next-clause-fault
returns-in_err-run_next-clause-fault g c = send_fault c.in_err-run_next.field-0.0 _ c.from_residual-in_err-run_next.ensures.1

pub returns-in_err-run_next-clause-writes : goal.returns-in_err-run_next-clause-writes
returns-in_err-run_next-clause-writes g c =
    FaultyAt-send c.in_err-run_next.field-0.0 _ _ _ c.run_next.result _ c.loop-self.invariant.writes c.in_err-run_next.was c.from_residual-in_err-run_next.ensures.1 c.run_next.ensures.writes

pub loop-self-preserved-in-Continue-branch-3 : goal.loop-self-preserved-in-Continue-branch-3
loop-self-preserved-in-Continue-branch-3 g c =
    let taken = rw c.if-branch.true at c.in_ok-take_line.ensures.taken in
    let run = rw c.line.ensures at c.in_ok-run_next.ensures.ran in
    let wrote = c.in_ok-write_out.ensures in
    record {
      running = λ told left old so.
          let at = c.loop-self.invariant.running told left old so in
          IsRunning-written _ _ _ _ _ c.take_line.new.self _ _ _ _ wrote.ok wrote.empty
          (IsRunning-sent _ _ _ _ _ c.take_line.new.self _ _ _ _ run.1 (IsRunning-line _ _ _ _ c.loop-self.self.lines c.take_line.new.self _ _ _ _ _ _ taken c.take_line.ensures.read run.2 at));
      none_wait = c.in_ok-run_next.ensures.none_wait;
      room = room-line c.loop-self.self.lines c.take_line.new.self _ _ _ _ _ _ taken run.2 c.loop-self.invariant.room;
      few = few-line _ _ _ _ _ _ run.2 c.loop-self.invariant.few;
      read = c.take_line.ensures.read ∙ c.loop-self.invariant.read;
      writes = λ calm. FaultyAt-ok _ _ _ _ wrote.writes (calm_still _ _ _ c.in_ok-run_next.ensures.writes (c.loop-self.invariant.writes calm));
    }

pub returns-in_err-write_out-clause-front : goal.returns-in_err-write_out-clause-front
returns-in_err-write_out-clause-front g c = λ told left old so.
    let taken = rw c.if-branch.true at c.in_ok-take_line.ensures.taken in
    let run = rw c.line.ensures at c.in_ok-run_next.ensures.ran in
    let at = c.loop-self.invariant.running told left old so in
    let line = IsRunning-sent _ _ _ _ _ c.take_line.new.self _ _ _ _ run.1 (IsRunning-line _ _ _ _ c.loop-self.self.lines c.take_line.new.self _ _ _ _ _ _ taken c.take_line.ensures.read run.2 at) in
    on_err_anyway c.from_residual-in_err-write_out.result (WroteFront-at _ _ _ _ _ c.take_line.new.self _ _ _ line c.in_err-write_out.ensures.front)

pub returns-in_err-write_out-clause-writes : goal.returns-in_err-write_out-clause-writes
returns-in_err-write_out-clause-writes g c = λ calm.
    FaultyAt-same _ _ _ _ c.write_out.result _ c.in_err-write_out.was c.from_residual-in_err-write_out.ensures.1 c.write_out.ensures.writes
    (calm_still _ _ _ c.in_ok-run_next.ensures.writes (c.loop-self.invariant.writes calm))

pub loop-self-preserved : goal.loop-self-preserved
loop-self-preserved g c =
    let taken = rw c.if-branch.true at c.in_ok-take_line.ensures.taken in
    let run = rw c.line.ensures at c.in_ok-run_next.ensures.ran in
    record {
      running = λ told left old so.
          let at = c.loop-self.invariant.running told left old so in
          IsRunning-sent _ _ _ _ _ c.take_line.new.self _ _ _ _ run.1 (IsRunning-line _ _ _ _ c.loop-self.self.lines c.take_line.new.self _ _ _ _ _ _ taken c.take_line.ensures.read run.2 at);
      none_wait = c.in_ok-run_next.ensures.none_wait;
      room = room-line c.loop-self.self.lines c.take_line.new.self _ _ _ _ _ _ taken run.2 c.loop-self.invariant.room;
      few = few-line _ _ _ _ _ _ run.2 c.loop-self.invariant.few;
      read = c.take_line.ensures.read ∙ c.loop-self.invariant.read;
      writes = λ calm. calm_still _ _ _ c.in_ok-run_next.ensures.writes (c.loop-self.invariant.writes calm);
    }

pub returns-clause-ran : goal.returns-clause-ran
returns-clause-ran g c = λ told left old so.
    let taken = rw c.if-branch.false at c.in_ok-take_line.ensures.taken in
    let at = c.loop-self.invariant.running told left old so in
    let front = IsRunning-front _ _ _ _ c.loop-self.self.lines c.take_line.new.self _ _ _ taken c.take_line.ensures.read at in
    on_ok_two c.write_out-2.result (λ wrote none. IsRunning-written _ _ _ _ _ c.take_line.new.self _ _ _ _ wrote none front) c.write_out-2.ensures.ok c.write_out-2.ensures.empty

pub returns-clause-front : goal.returns-clause-front
returns-clause-front g c = λ told left old so.
    let taken = rw c.if-branch.false at c.in_ok-take_line.ensures.taken in
    let at = c.loop-self.invariant.running told left old so in
    let front = IsRunning-front _ _ _ _ c.loop-self.self.lines c.take_line.new.self _ _ _ taken c.take_line.ensures.read at in
    on_err_weaker c.write_out-2.result (λ wrote. WroteFront-at _ _ _ _ _ c.take_line.new.self _ _ _ front wrote) c.write_out-2.ensures.front
