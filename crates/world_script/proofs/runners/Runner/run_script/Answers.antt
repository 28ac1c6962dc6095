use Rattle.std.proofs.Common.{◌≡◌, ap, inl, inr}
use Rattle.std.specs.Prelude.{Err, Ok}
use Rattle.std.proofs.lemmas.Result.{on_ok_weaker}
use Rattle.world_script.specs.Running.{run_error}
use Rattle.world_script.proofs.AnswerWays.{FaultyAt-ok, err_is, fill_read, fill_too_long, on_err_at}
use Rattle.world_script.proofs.RunEnds.{IsCount-ended, IsOutput-ended}
use Rattle.world_script.proofs.Faults.{TakesFront-none, WroteFront-at, WroteFull-at, WroteToEnd-at, WroteWhole-at}
use Rattle.world_script.proofs.RunSteps.{IsRunning-filled}
use Rattle.world_script.proofs.SentFronts.{FaultyAt-send, send_not_read, send_not_too_long}
use Rattle.world_query.proofs.SentTexts.{calm_still}
use Rattle.world_script.proofs.runners.Runner.run_script.Goals as goal

pub returns-in_err-has_more-clause-read : goal.returns-in_err-has_more-clause-read
returns-in_err-has_more-clause-read g c = λ is.
    let ran = c.in_ok-run_ended.ensures.ran _ _ _ c.loop-has_more.invariant.running in
    let error = fill_read _ (err_is (λ x. x ≡ run_error c.in_err-has_more.field-0.0) _ _ c.from_residual-in_err-has_more.ensures.1 is) in
    WroteWhole-at _ _ _ _ _ c.run_ended.new.self.lines _ _ _ c.in_ok-run_ended.ensures.taken c.in_ok-run_ended.ensures.written
    (c.in_err-has_more.ensures.stopped (ap (λ x. Err x) error)) ran

pub returns-in_err-has_more-clause-too_long : goal.returns-in_err-has_more-clause-too_long
returns-in_err-has_more-clause-too_long g c = λ is.
    let ran = c.in_ok-run_ended.ensures.ran _ _ _ c.loop-has_more.invariant.running in
    let error = fill_too_long _ (err_is (λ x. x ≡ run_error c.in_err-has_more.field-0.0) _ _ c.from_residual-in_err-has_more.ensures.1 is) in
    let full = c.in_err-has_more.ensures.too_long (ap (λ x. Err x) error) in
    WroteFull-at _ _ _ _ _ c.run_ended.new.self.lines _ _ _ c.in_ok-run_ended.ensures.taken c.in_ok-run_ended.ensures.written full.0 full.1 ran

pub loop-has_more-preserved : goal.loop-has_more-preserved
loop-has_more-preserved g c =
    let ran = c.in_ok-run_ended.ensures.ran _ _ _ c.loop-has_more.invariant.running in
    let filled = c.in_ok-has_more.ensures in
    record {
      running =
          IsRunning-filled _ _ _ _ _ c.run_ended.new.self.lines c.fill.new.self _ _ _ c.in_ok-run_ended.ensures.taken filled.bytes filled.front
          filled.counted filled.few ran;
      none_wait = c.in_ok-run_ended.ensures.none_wait;
      taken = λ none. (filled.end (ap (λ x. Ok x) none)).0;
      written = λ none. c.in_ok-run_ended.ensures.written;
      at_end = λ none. (filled.end (ap (λ x. Ok x) none)).1;
      reads = λ calm. filled.calm (c.loop-has_more.invariant.reads calm);
      writes = λ calm. FaultyAt-ok _ _ _ _ c.in_ok-run_ended.ensures.writes (c.loop-has_more.invariant.writes calm);
    }

pub returns-in_err-run_last-clause-memory : goal.returns-in_err-run_last-clause-memory
returns-in_err-run_last-clause-memory g c = λ _.
    rw c.run_last.ensures.kept (WroteFront-at _ _ _ _ _ c.loop-has_more.self.lines _ _ _ c.loop-has_more.invariant.running (TakesFront-none _ _))

pub returns-in_err-run_last-clause-write : goal.returns-in_err-run_last-clause-write
returns-in_err-run_last-clause-write g c = λ _.
    inl (rw c.run_last.ensures.kept (WroteFront-at _ _ _ _ _ c.loop-has_more.self.lines _ _ _ c.loop-has_more.invariant.running (TakesFront-none _ _)))

pub returns-in_err-run_last-clause-read : goal.returns-in_err-run_last-clause-read
returns-in_err-run_last-clause-read g c = λ is. absurd (send_not_read c.in_err-run_last.field-0.0 _ c.from_residual-in_err-run_last.ensures.1 is)

pub returns-in_err-run_last-clause-too_long : goal.returns-in_err-run_last-clause-too_long
returns-in_err-run_last-clause-too_long g c = λ is. absurd (send_not_too_long c.in_err-run_last.field-0.0 _ c.from_residual-in_err-run_last.ensures.1 is)

pub returns-in_err-run_last-clause-reads : goal.returns-in_err-run_last-clause-reads
returns-in_err-run_last-clause-reads g c = λ calm. (
  λ is. absurd (send_not_read c.in_err-run_last.field-0.0 _ c.from_residual-in_err-run_last.ensures.1 is),
  λ _. c.loop-has_more.invariant.reads calm,
)

pub returns-in_err-run_last-clause-writes : goal.returns-in_err-run_last-clause-writes
returns-in_err-run_last-clause-writes g c =
    FaultyAt-send c.in_err-run_last.field-0.0 _ _ _ c.run_last.result _ c.loop-has_more.invariant.writes c.in_err-run_last.was c.from_residual-in_err-run_last.ensures.1 c.run_last.ensures.writes

pub returns-clause-output : goal.returns-clause-output
returns-clause-output g c =
    let end = c.loop-has_more.invariant.at_end c.loop-has_more-test.false in
    let ended = c.in_ok-run_last.ensures.ended _ _ _ c.loop-has_more.invariant.running in
    on_ok_weaker c.write_out.result (λ wrote. IsOutput-ended _ _ _ _ _ c.run_last.new.self.interpreter.summary _ end ended wrote) c.write_out.ensures.ok

pub returns-clause-count : goal.returns-clause-count
returns-clause-count g c =
    let end = c.loop-has_more.invariant.at_end c.loop-has_more-test.false in
    let ended = c.in_ok-run_last.ensures.ended _ _ _ c.loop-has_more.invariant.running in
    on_ok_weaker c.write_out.result (λ _. IsCount-ended _ _ _ _ c.run_last.new.self.interpreter.summary _ end ended) c.write_out.ensures.ok

pub returns-clause-write : goal.returns-clause-write
returns-clause-write g c = λ is.
    let end = c.loop-has_more.invariant.at_end c.loop-has_more-test.false in
    let ended = c.in_ok-run_last.ensures.ended _ _ _ c.loop-has_more.invariant.running in
    inr (WroteToEnd-at _ _ _ _ _ c.run_last.new.self.interpreter.summary _ end ended (on_err_at _ _ _ is c.write_out.ensures.front))

pub returns-clause-writes : goal.returns-clause-writes
returns-clause-writes g c = λ calm. c.write_out.ensures.writes (calm_still _ _ _ c.in_ok-run_last.ensures.writes (c.loop-has_more.invariant.writes calm))
