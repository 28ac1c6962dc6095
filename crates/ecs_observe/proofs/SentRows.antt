-- What is sent of a kept query's rows, and how the calls of the writer stand after it.
use Rattle.std.proofs.Common.{◌≡◌, ℕ, List, length, refl, sym, subst}
use Rattle.std.specs.Prelude.{IsErrAnd, Option, Some, [], Result, Ok, Err, max, ⊤}
use Rattle.ecs_model.specs.World.{WorldState}
use Rattle.ecs_model.specs.declared.faults.SessionRefusal.{SessionRefusal}
use Rattle.ecs_model.specs.declared.watches.StoredKind.TheVariants.{Kept}
use Rattle.ecs_model.specs.rows.Text.{rows_text}
use Rattle.ecs_model.specs.stored.Session.{SessionState}
use Rattle.script_streams.specs.declared.streams.Calls.{Calls}
use Rattle.world_query.specs.Lines.{lines_of_rows}
use Rattle.world_query.specs.Sent.{FailsAtWrite, HoldsAtFault, IsMemory, StopsSending}
use Rattle.world_query.specs.declared.sending.SendError.{SendError}
use Rattle.world_query.specs.declared.sending.SendError.TheVariants as send
use Rattle.world_query.proofs.SentTexts.{calm_still, stops_unsent}
use Rattle.ecs_observe.specs.Answers.{AnswersRows, FailsAtSend, SendsKept, SendsRows}
use Rattle.ecs_observe.specs.declared.errors.SendRowsError.{SendRowsError}
use Rattle.ecs_observe.specs.declared.errors.SendRowsError.TheVariants as rows
use Rattle.ecs_observe.specs.declared.errors.SessionError.TheVariants.{Refused, Memory}
use Rattle.watch_stored.specs.declared.stored.StoredQuery.{StoredQuery}

-- ---- answers that differ

abbrev IsWrite : SendRowsError → Type 0
IsWrite (rows.Refused reason) = ⊥
IsWrite (rows.Unsent send.Memory) = ⊥
IsWrite (rows.Unsent send.Write) = ⊤

-- the answer of a call whose write did not fail
other : {T : Type 0} (r : Result T SendRowsError) → ¬ IsErrAnd r IsWrite → ¬ (r ≡ Err (rows.Unsent send.Write))
other r none is = let P : Result _ SendRowsError → Type 0 = λ g. IsErrAnd g IsWrite in none (subst P (sym is) tt)

pub memory_apart : {T : Type 0} (r : Result T SendError) → r ≡ Err send.Memory → ¬ (r ≡ Err send.Write)
memory_apart r memory write = let P : Result _ SendError → Type 0 = λ g. IsErrAnd g IsMemory in subst P write (subst P (sym memory) tt)

-- ---- the calls of the writer

-- nothing is sent for a name that no kept query has
pub refused_calm : (T : Type 0) (calls : Calls) (reason : SessionRefusal) → FailsAtSend {T = T} calls (Err (rows.Refused reason)) calls
refused_calm T calls reason = λ calm. (λ is. absurd (other {T = T} (Err (rows.Refused reason)) (λ none. none) is), λ _. calm)

pub sent_calm : {T U : Type 0} (old new : Calls) (x : T) (y : U) → FailsAtWrite old (Ok x) new → FailsAtSend old (Ok y) new
sent_calm old new x y told = λ calm. (λ is. absurd (other (Ok y) (λ none. none) is), λ _. calm_still old new x told calm)

-- an error of sending that is passed on says the same
fails_as : {T : Type 0} (U : Type 0) (e : SendError) (old new : Calls) (given : Result T SendError) → given ≡ Err e → FailsAtWrite old given new → FailsAtSend {T = U} old (Err (rows.Unsent e)) new
fails_as U send.Memory old new given was told = λ calm. (
  λ is. absurd (other {T = U} (Err (rows.Unsent send.Memory)) (λ none. none) is),
  λ _. (told calm).1 (memory_apart given was),
)
fails_as U send.Write old new given was told = λ calm. (λ _. (told calm).0 was, λ none. absurd (none refl))

pub fails_unsent : {T U : Type 0} (e : SendError) (old new : Calls) (given : Result T SendError) (r : Result U SendRowsError) → given ≡ Err e → IsErrAnd r (λ x. x ≡ rows.Unsent e)
    → FailsAtWrite old given new → FailsAtSend old r new
fails_unsent {T} {U} e old new given (Ok x) was passed told = absurd passed
fails_unsent {T} {U} e old new given (Err x) was passed told = let P : SendRowsError → Type 0 = λ x. FailsAtSend {T = U} old (Err x) new in subst P (sym passed) (fails_as U e old new given was told)

-- ---- the rows

module _ {A : Type 0} (most : ℕ) where
  stopped : (T U : Type 0) (e : SendError) (q : StoredQuery A) (w : WorldState) (o p : Option (List ℕ)) (before after : List ℕ) → q.kind ≡ Kept → StopsSending (IsMemory e) o p before after (rows_text w (q.plan).query)
      → HoldsAtFault {T = T} (max most (length before)) (lines_of_rows w (q.plan).query) (Err e) after → SendsRows {A = A} {T = U} most (Err (rows.Unsent e)) q w o p before after
  stopped T U send.Memory q w o p before after kind stops holds = (kind, stops)
  stopped T U send.Write q w o p before after kind stops holds = (kind, stops, holds)

  pub sends_stopped : {T U : Type 0} (e : SendError) (given : Result T SendError) (r : Result U SendRowsError) (q : StoredQuery A) (w : WorldState) (o p : Option (List ℕ)) (before after : List ℕ) → given ≡ Err e
      → IsErrAnd r (λ x. x ≡ rows.Unsent e) → q.kind ≡ Kept → StopsSending (IsMemory e) o p before after (rows_text w (q.plan).query)
      → HoldsAtFault (max most (length before)) (lines_of_rows w (q.plan).query) given after → SendsRows most r q w o p before after
  sends_stopped {T} {U} e given (Ok x) q w o p before after was passed kind stops holds = absurd passed
  sends_stopped {T} {U} e given (Err x) q w o p before after was passed kind stops holds =
      let P : SendRowsError → Type 0 = λ x. SendsRows {A = A} {T = U} most (Err x) q w o p before after in
      let Q : Result T SendError → Type 0 = λ g. HoldsAtFault (max most (length before)) (lines_of_rows w (q.plan).query) g after in
      subst P (sym passed) (stopped T U e q w o p before after kind stops (subst Q was holds))

-- where nothing can be sent: a name that no kept query has, and a prefix of the rows
module _ (most : ℕ) (s : SessionState) (name before after : List ℕ) where
  pub refused_nowhere : (reason : SessionRefusal) → SendsKept {T = Option ℕ} most (Err (rows.Refused reason)) s name (Some []) (Some []) before after → AnswersRows {T = Option ℕ} (Err (Refused reason)) s name before after
  refused_nowhere reason so = (so.0, so.1)

  pub stopped_nowhere : (e : SendError) → SendsKept {T = Option ℕ} most (Err (rows.Unsent e)) s name (Some []) (Some []) before after → AnswersRows {T = Option ℕ} (Err Memory) s name before after
  stopped_nowhere send.Memory so = (so.0, so.1, stops_unsent before after _ so.2)
  stopped_nowhere send.Write so = (so.0, so.1, stops_unsent before after _ so.2)
