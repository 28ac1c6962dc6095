-- How entities, ids, values, fields and rows print.
use Rattle.std.specs.Prelude.{ℕ, List, [], ◌∷◌, ◌++◌, map, ℤ, codes, decimal, Option, Some, flat_map}
use Rattle.std.specs.Fmt.{signed_decimal}
use Rattle.std.specs.List.{zip, join_with_byte}
use Rattle.std.specs.Option.{option_map_or}
use Rattle.ecs_id.specs.declared.EntityId.{EntityId}
use Rattle.ecs_id.specs.Id.{Id, plain, pair}
use Rattle.query_model.specs.declared.faults.Fault.{Fault}
use Rattle.query_model.specs.declared.faults.FaultKind.{FaultKind}
use Rattle.query_model.specs.declared.faults.FaultKind.TheVariants.{Lex, Syntax, UnknownName, NotTraversable, UnboundVariable, WildcardSource, WildcardEquality, TooManyTerms, TooManyVariables, TooDeep, NoThis, NotOneTerm, CascadePlace}
use Rattle.ecs_model.specs.World.{WorldState, name_of, entity_at}
use Rattle.ecs_model.specs.rows.Rows.{Field, Unset, Shown, Row}

-- the word of a kind of fault
abbrev pub fault_word : FaultKind → List ℕ
fault_word Lex = codes "Lex"
fault_word Syntax = codes "Syntax"
fault_word UnknownName = codes "UnknownName"
fault_word NotTraversable = codes "NotTraversable"
fault_word UnboundVariable = codes "UnboundVariable"
fault_word WildcardSource = codes "WildcardSource"
fault_word WildcardEquality = codes "WildcardEquality"
fault_word TooManyTerms = codes "TooManyTerms"
fault_word TooManyVariables = codes "TooManyVariables"
fault_word TooDeep = codes "TooDeep"
fault_word NoThis = codes "NoThis"
fault_word NotOneTerm = codes "NotOneTerm"
fault_word CascadePlace = codes "CascadePlace"

-- `KIND a..b`
abbrev pub fault_text : Fault → List ℕ
fault_text f = fault_word f.kind ++ codes " " ++ decimal (f.span).start ++ codes ".." ++ decimal (f.span).end

-- `#index.generation`
abbrev pub handle_text : EntityId → List ℕ
handle_text e = codes "#" ++ decimal e.index ++ codes "." ++ decimal e.generation

-- integers with commas between
abbrev pub values_text : List ℤ → List ℕ
values_text vs = join_with_byte 44 (map signed_decimal vs)

-- `=` and the values, if there is a value that isn't empty
abbrev pub value_text : Option (List ℤ) → List ℕ
value_text (Some (v ∷ vs)) = codes "=" ++ values_text (v ∷ vs)
value_text _ = []

module _ (w : WorldState) where
  -- the name, or the handle where there is none
  abbrev pub entity_text : EntityId → List ℕ
  entity_text e = option_map_or (λ n. n) (name_of w e.index) (handle_text e)

  -- the live entity at an index
  abbrev pub index_text : ℕ → List ℕ
  index_text i = option_map_or entity_text (entity_at w i) []

  -- a pair as `(R,T)`
  abbrev pub id_text : Id → List ℕ
  id_text (plain c) = index_text c
  id_text (pair r t) = codes "(" ++ index_text r ++ codes "," ++ index_text t ++ codes ")"

  -- ` [ID@E=v,v]`, without a value ` [ID@E]`, and ` [-]` where it is unset
  abbrev pub field_text : Field → List ℕ
  field_text Unset = codes " [-]"
  field_text (Shown e i v) = codes " [" ++ id_text i ++ codes "@" ++ index_text e ++ value_text v ++ codes "]"

  -- ` $v=E`
  abbrev pub binding_text : List ℕ × ℕ → List ℕ
  binding_text b = codes " $" ++ b.0 ++ codes "=" ++ index_text b.1

  -- a row, under the names of the visible variables
  abbrev pub row_text : List (List ℕ) → Row → List ℕ
  row_text names r = codes "row" ++ flat_map binding_text (zip names r.bindings) ++ flat_map field_text r.fields ++ codes "\n"
