use Rattle.std.proofs.Common.{ap, ◌∙◌}
use Rattle.std.proofs.lemmas.Result.{IfOk-from_err}
use Rattle.ecs_model.specs.stored.Watches.{missing_from}
use Rattle.watch_stored.specs.Moves.{rows_then}
use Rattle.watch_stored.specs.Parts.{kept_set}
use Rattle.watch_stored.proofs.moves.rows_by_all.Goals as goal

pub returns-clause-moves : goal.returns-clause-moves
unfolding kept_set
returns-clause-moves g c = record {
  left = c.from_vec.ensures ∙ c.in_ok-left.ensures ∙ ap (missing_from (rows_then c.args.question.now)) c.in_ok-these.ensures.rows;
  entered = c.from_vec-2.ensures ∙ c.in_ok-entered.ensures ∙ ap (λ es. missing_from es (rows_then c.args.question.now)) c.in_ok-these.ensures.rows;
  these = c.in_ok-these.ensures.rows;
}

pub returns-in_err-entered-clause-moves : goal.returns-in_err-entered-clause-moves
returns-in_err-entered-clause-moves g c = IfOk-from_err c.from_residual-in_err-entered.result _ c.from_residual-in_err-entered.ensures.0
