-- The line is counted, and what was sent of it stays sent.
use Rattle.std.proofs.Common.{arith}
use Rattle.std.proofs.lemmas.Grind.{common_steps}
use Rattle.world_query.proofs.SentTexts.{calm_ok, calm_still, fails_same}
use Rattle.world_script.proofs.AnswerWays.{on_err_anyway}
use Rattle.world_script.proofs.interpreters.Interpreter.run_next.Goals as goal

pub returns-then-is_refused-clause-ran : goal.returns-then-is_refused-clause-ran
returns-then-is_refused-clause-ran g c =
    let does = c.in_ok-is_refused.ensures.does.does in (
      does.0,
      does.1,
      record {
        session_left = does.2.session_left;
        printed = does.2.printed;
        counted = grind (arith, common_steps, does.2.answered);
      },
    )

pub returns-then-is_refused-clause-writes : goal.returns-then-is_refused-clause-writes
returns-then-is_refused-clause-writes g c = calm_ok _ _ _ (λ calm. calm_still _ _ _ c.in_ok-is_refused.ensures.does.writes calm)

pub returns-then-is_refused-clause-kept : goal.returns-then-is_refused-clause-kept
returns-then-is_refused-clause-kept g c = c.run_line.ensures.does.kept

pub returns-else-is_refused-clause-ran : goal.returns-else-is_refused-clause-ran
returns-else-is_refused-clause-ran g c =
    let does = c.in_ok-is_refused.ensures.does.does in (
      does.0,
      does.1,
      record {
        session_left = does.2.session_left;
        printed = does.2.printed;
        counted = grind (arith, common_steps, does.2.answered);
      },
    )

pub returns-else-is_refused-clause-writes : goal.returns-else-is_refused-clause-writes
returns-else-is_refused-clause-writes g c = calm_ok _ _ _ (λ calm. calm_still _ _ _ c.in_ok-is_refused.ensures.does.writes calm)

pub returns-else-is_refused-clause-kept : goal.returns-else-is_refused-clause-kept
returns-else-is_refused-clause-kept g c = c.run_line.ensures.does.kept

pub returns-in_err-is_refused-clause-stops : goal.returns-in_err-is_refused-clause-stops
returns-in_err-is_refused-clause-stops g c = on_err_anyway _ c.in_err-is_refused.ensures.does.does

pub returns-in_err-is_refused-clause-writes : goal.returns-in_err-is_refused-clause-writes
returns-in_err-is_refused-clause-writes g c =
    fails_same c.in_err-is_refused.field-0.0 _ _ _ c.run_line.result _ (λ calm. calm) c.in_err-is_refused.was c.from_residual.ensures.1 c.run_line.ensures.does.writes

pub returns-in_err-is_refused-clause-kept : goal.returns-in_err-is_refused-clause-kept
returns-in_err-is_refused-clause-kept g c = c.run_line.ensures.does.kept
