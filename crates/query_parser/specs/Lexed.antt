-- What the lexer answers.
use Rattle.std.specs.Prelude.{◌≡◌, ⊤, ℕ, ◌+◌, List, [], ◌∷◌, length, drop, Option, Some, None, Result, Ok, Err}
use Rattle.std.specs.List.{prefix_len}
use Rattle.query_model.specs.declared.Span.{Span}
use Rattle.query_model.specs.declared.faults.FaultKind.{FaultKind}
use Rattle.query_model.specs.declared.faults.QueryFault.{QueryFault}
use Rattle.query_model.specs.declared.faults.QueryFault.TheVariants.{Fault, Memory}
use Rattle.query_model.specs.Faults.{as_fault}
use Rattle.query_model.specs.Text.{is_query_blank}
use Rattle.query_model.specs.Tokens.{Sign, Token, token, End, spelled, sign_at, first_char}

-- a call gave what is read, and else its fault; where memory is refused, it may say so in place of either
abbrev pub Answers : {T A : Type 0} → FaultKind → (T → A) → Result T QueryFault → Result A Span → Type 0
Answers kind view (Ok t) read = read ≡ Ok (view t)
Answers kind view (Err (Fault f)) read = as_fault kind read ≡ Err f
Answers kind view (Err Memory) read = ⊤

-- a call gave what is meant, and else a fault that is meant; where memory is refused, it may say so in place of either
abbrev pub AnswersBy : {T : Type 0} → FaultKind → (T → Type 0) → (Span → Type 0) → Result T QueryFault → Type 0
AnswersBy kind IsMeant IsFaulty (Ok t) = IsMeant t
AnswersBy kind IsMeant IsFaulty (Err (Fault f)) = (f.kind ≡ kind) × IsFaulty f.span
AnswersBy kind IsMeant IsFaulty (Err Memory) = ⊤

-- a sign where it stands, or the fault of the character there
abbrev pub placed : ℕ → List ℕ → Option Sign → Result Token Span
placed at text None = Err (first_char at text)
placed at text (Some s) = Ok (token s (record { start = at; end = at + length (spelled s) }))

-- the token at the beginning of a text that begins at a place without blanks
abbrev pub token_of : ℕ → List ℕ → Result Token Span
token_of at [] = Ok (token End (record { start = at; end = at }))
token_of at (b ∷ bs) = placed at (b ∷ bs) (sign_at (b ∷ bs))

-- the token that follows a place in the text, after blanks
abbrev pub next_of : List ℕ → ℕ → Result Token Span
next_of text from = let start = from + prefix_len is_query_blank (drop from text) in token_of start (drop start text)
