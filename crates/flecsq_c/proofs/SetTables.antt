-- The status of values that are set says what was done.
use Rattle.std.proofs.Common.{◌≡◌, ℕ, List, length, ℤ, Option, None, Some, Result, Ok, Err, sym, ◌∙◌, ap, subst, true≢false}
use Rattle.std.specs.Prelude.{IfNone, IsSome, MatchResult, OnErr, OnOk}
use Rattle.ecs_id.specs.Id.{Id}
use Rattle.ecs_id.specs.declared.TableKey.{TableKey}
use Rattle.ecs_observe.specs.declared.errors.SetColumnError.{SetColumnError}
use Rattle.world_script.specs.Commanding.{SetsColumn, column_error}
use Rattle.world_script.specs.Stepping.{StepperState}
use Rattle.flecsq_c.specs.Statuses.{column_status}
use Rattle.flecsq_c.specs.Tables.{SetsTable}

pub table_set : {T : Type 0} (k : TableKey) (i : Id) (bytes : List ℕ) (old new : StepperState) (status : ℤ) (answer : Result T SetColumnError)
    → OnOk answer (SetsColumn k i bytes old new)
    → MatchResult answer (λ _. column_error old k i (length bytes) ≡ None) (λ error. column_error old k i (length bytes) ≡ Some error)
    → OnErr answer (new ≡ old)
    → MatchResult answer (λ _. status ≡ column_status None) (λ error. status ≡ column_status (Some error))
    → SetsTable k i bytes old new status
table_set k i bytes old new status (Ok x) set judged same told = record {
  told = told ∙ ap column_status (sym judged);
  set = subst (λ o. IfNone o (SetsColumn k i bytes old new)) (sym judged) set;
  unchanged = λ some. absurd (true≢false (sym (subst IsSome judged some)));
}
table_set k i bytes old new status (Err error) set judged same told = record {
  told = told ∙ ap column_status (sym judged);
  set = subst (λ o. IfNone o (SetsColumn k i bytes old new)) (sym judged) tt;
  unchanged = λ some. same;
}
