-- What is known of an answer, from what else is known of it.
use Rattle.std.proofs.Common.{◌≡◌, ◌==◌, ℕ, false, refl, sym, ◌∙◌, ap, subst}
use Rattle.std.proofs.lemmas.Bool.{eqb-false}
use Rattle.std.specs.Prelude.{Result, Ok, Err, IsErrAnd, OnErr, OnOk}
pub use Rattle.ecs_print.proofs.Stops.{on_err_anyway}
use Rattle.script_streams.specs.declared.streams.Calls.{Calls}
use Rattle.script_streams.specs.Streams.{IsCalm}
use Rattle.world_script.specs.declared.errors.RunError.{RunError}
use Rattle.script_streams.specs.declared.lines.FillError.{FillError}
use Rattle.script_streams.specs.declared.lines.FillError.TheVariants as fill
use Rattle.world_script.specs.declared.errors.RunError.TheVariants as run
use Rattle.world_script.specs.Running.{run_error}
use Rattle.world_script.specs.Whole.{FaultyAt}

-- from two facts of a value
pub on_ok_two : {T E P Q R : Type 0} (r : Result T E) → (P → Q → R) → OnOk r P → OnOk r Q → OnOk r R
on_ok_two (Ok x) f p q = f p q
on_ok_two (Err e) f p q = tt

-- calls stay calm where no fault is answered
pub FaultyAt-ok : {T : Type 0} (error : RunError) (old new : Calls) (answer : T) → FaultyAt error old (Ok answer) new → IsCalm old → IsCalm new
FaultyAt-ok error old new answer told calm =
    let P : Result _ RunError → Type 0 = λ r. OnErr r ⊥ in
    (told calm).1 (λ e. subst P e tt)

-- ---- faults that differ

abbrev pub place : RunError → ℕ
place run.Read = 0
place run.Write = 1
place run.Memory = 2
place run.TooLong = 3

pub apart : (a b : RunError) → (place a == place b) ≡ false → ¬ (a ≡ b)
apart a b differ e = eqb-false _ _ differ (ap place e)

-- what holds of the error of an answer holds of this one
pub err_is : {T : Type 0} (P : RunError → Type 0) (r : Result T RunError) (e : RunError) → IsErrAnd r P → r ≡ Err e → P e
err_is P r e told is = let Q : Result _ RunError → Type 0 = λ q. IsErrAnd q P in subst Q is told

pub fill_read : (e : FillError) → run.Read ≡ run_error e → e ≡ fill.Read
fill_read fill.Read is = refl
fill_read fill.TooLong is = absurd (apart run.Read run.TooLong refl is)

pub fill_too_long : (e : FillError) → run.TooLong ≡ run_error e → e ≡ fill.TooLong
fill_too_long fill.Read is = absurd (apart run.TooLong run.Read refl is)
fill_too_long fill.TooLong is = refl

-- what holds of an error, where one is answered
pub on_err_at : {T E : Type 0} (P : Type 0) (r : Result T E) (e : E) → r ≡ Err e → OnErr r P → P
on_err_at P r e is told = let Q : Result _ _ → Type 0 = λ q. OnErr q P in subst Q is told

-- the calls say the same of an answer that passes an error on
pub FaultyAt-same : {T U : Type 0} (error e : RunError) (old new : Calls) (given : Result T RunError) (r : Result U RunError) → given ≡ Err e → IsErrAnd r (λ x. x ≡ e)
    → FaultyAt error old given new → FaultyAt error old r new
FaultyAt-same error e old new given (Ok x) was passed told = absurd passed
FaultyAt-same error e old new given (Err d) was passed told = λ calm. (
  λ is. (told calm).0 (was ∙ ap (λ x. Err x) (sym passed ∙ err_is (λ x. d ≡ x) (Err d) error refl is)),
  λ other. (told calm).1 (λ is. other (ap (λ x. Err x) (passed ∙ err_is (λ x. e ≡ x) (Err e) error refl (sym was ∙ is)))),
)
