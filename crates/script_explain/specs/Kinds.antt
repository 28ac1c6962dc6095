-- The kinds of refusals, as they are printed.
use Rattle.std.specs.Prelude.{◌≡◌, ℕ, Bool, true, ◌||◌, List, [], ◌∷◌, bytes_eq, codes}
use Rattle.std.specs.List.{list_any}
use Rattle.query_model.specs.declared.faults.FaultKind.{FaultKind}
use Rattle.ecs_model.specs.declared.faults.Refusal.{Refusal}
use Rattle.ecs_model.specs.declared.faults.SchemaFault.{SchemaFault}
use Rattle.ecs_model.specs.Print.{fault_word}
use Rattle.ecs_model.specs.Refusal.{refusal_text, schema_fault_text}

-- whether a word is one of these
abbrev pub is_among : List (List ℕ) → List ℕ → Bool
is_among kinds word = list_any (λ k. bytes_eq word k) kinds

-- of commands on the world
abbrev pub world_kinds : List (List ℕ)
world_kinds =
    codes "Dead" ∷ codes "UnknownName" ∷ codes "BadName" ∷ codes "NameTaken" ∷ codes "BuiltIn" ∷ codes "NoData" ∷ codes "Count" ∷ codes "Range"
    ∷ codes "TraitFixed" ∷ codes "InUse" ∷ codes "Cycle" ∷ codes "TooManyIds" ∷ codes "Panic" ∷ codes "Full" ∷ []

-- of lines, fields and stored queries
abbrev pub line_kinds : List (List ℕ)
line_kinds =
    codes "LineTooLong" ∷ codes "TooManyFields" ∷ codes "NoFields" ∷ codes "BadField" ∷ codes "EventsPending" ∷ codes "UnknownQuery"
    ∷ codes "QueryTaken" ∷ codes "TooManyStored" ∷ []

-- of the texts of queries, but for the one that commands have too
abbrev pub query_kinds : List (List ℕ)
query_kinds =
    codes "Lex" ∷ codes "Syntax" ∷ codes "NotTraversable" ∷ codes "UnboundVariable" ∷ codes "WildcardSource" ∷ codes "WildcardEquality"
    ∷ codes "TooManyTerms" ∷ codes "TooManyVariables" ∷ codes "TooDeep" ∷ codes "NoThis" ∷ codes "NotOneTerm" ∷ codes "CascadePlace" ∷ []

-- whether a kind has a sentence
abbrev pub is_explained : List ℕ → Bool
is_explained kind = is_among world_kinds kind || is_among line_kinds kind || is_among query_kinds kind

-- each word of a refusal, of faulty fields and of a query's fault is a kind that has one
abbrev pub EachKindIsExplained : Type 0
EachKindIsExplained =
    ((r : Refusal) → is_explained (refusal_text r) ≡ true)
    × ((f : SchemaFault) → is_explained (schema_fault_text f) ≡ true)
    × ((k : FaultKind) → is_explained (fault_word k) ≡ true)
