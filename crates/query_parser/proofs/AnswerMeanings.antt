-- What an answer means.
use Rattle.std.proofs.Common.{◌≡◌, refl, Result, Ok, Err, subst}
use Rattle.query_model.specs.declared.Span.{Span}
use Rattle.query_model.specs.declared.faults.Fault.{Fault}
use Rattle.query_model.specs.declared.faults.FaultKind.{FaultKind}
use Rattle.query_model.specs.declared.faults.QueryFault.{QueryFault}
use Rattle.query_model.specs.Faults.{as_fault}
use Rattle.query_parser.specs.Lexed.{Answers, AnswersBy}

-- a fault of a kind, by its place
fault_is_meant : {A : Type 0} (kind : FaultKind) (Q : Span → Type 0) (read : Result A Span) (f : Fault) → as_fault kind read ≡ Err f → ((s : Span) → read ≡ Err s → Q s) → (f.kind ≡ kind) × Q f.span
fault_is_meant kind Q (Ok a) f e faulty = cc
fault_is_meant kind Q (Err s) f e faulty =
    let P : Fault → Type 0 = λ g. (g.kind ≡ kind) × Q g.span in
    let same : record { kind = kind; span = s } ≡ f = cc in
    subst P same (refl, faulty s refl)

-- an answer is meant where what is read is meant
pub answer_is_meant : {T A : Type 0} (kind : FaultKind) (view : T → A) (P : A → Type 0) (Q : Span → Type 0) (r : Result T QueryFault) (read : Result A Span) → Answers kind view r read → ((a : A) → read ≡ Ok a → P a) → ((s : Span) → read ≡ Err s → Q s) → AnswersBy kind (λ t. P (view t)) Q r
answer_is_meant kind view P Q (Ok t) read e given faulty = given (view t) e
answer_is_meant kind view P Q (Err (QueryFault.Fault f)) read e given faulty = fault_is_meant kind Q read f e faulty
answer_is_meant kind view P Q (Err QueryFault.Memory) read e given faulty = tt
