-- A variable that isn't bound may as well be reported at its first occurrence alone.
use Rattle.std.specs.Prelude.{◌≡◌, ℕ, ◌≤◌, List, [], ◌∷◌, ◌++◌, flat_map, Option, if◌then◌else◌}
use Rattle.std.specs.List.{list_any}
use Rattle.query_model.specs.declared.faults.Fault.{Fault}
use Rattle.query_model.specs.Faults.{least_from}
use Rattle.query_model.specs.Syntax.{Part}
use Rattle.query_model.specs.Scope.{Occurrence, occurrences, sightings}
use Rattle.query_model.specs.Numbers.{Variable, same_variable, variable_of}
use Rattle.query_model.specs.Check.{unbound}
use Rattle.query_model.specs.Tokens.{Token, IsSpelledBy}
use Rattle.query_model.specs.Grammar.{IsQuery}

-- the faults of variables that aren't bound and are not among those seen before, each at its first occurrence
abbrev pub unbound_first : List Part → List Variable → List Occurrence → List Fault
unbound_first ps seen [] = []
unbound_first ps seen (o ∷ os) =
    (if list_any (same_variable (variable_of (sightings ps) o)) seen then [] else unbound ps o) ++ unbound_first ps (seen ++ variable_of (sightings ps) o ∷ []) os

-- occurrences in the order of the text
abbrev pub Ascends : ℕ → List Occurrence → Type 0
Ascends low [] = Unit {0}
Ascends low (o ∷ os) = (low ≤ (o.span).start) × Ascends (o.span).start os

-- the least fault is the same
abbrev pub FirstSuffices : Type 0
FirstSuffices = (ps : List Part) (found : Option Fault) → Ascends 0 (occurrences ps) → least_from found (flat_map (unbound ps) (occurrences ps)) ≡ least_from found (unbound_first ps [] (occurrences ps))

-- the variables of a query stand in the order of its text
abbrev pub VariablesAscend : Type 0
VariablesAscend = (text : List ℕ) (ts : List Token) (ps : List Part) → IsSpelledBy text ts → IsQuery ts ps → Ascends 0 (occurrences ps)

-- so for each query that a text spells the least fault is the same
abbrev pub FirstSufficesInTexts : Type 0
FirstSufficesInTexts = (text : List ℕ) (ts : List Token) (ps : List Part) (found : Option Fault) → IsSpelledBy text ts → IsQuery ts ps
    → least_from found (flat_map (unbound ps) (occurrences ps)) ≡ least_from found (unbound_first ps [] (occurrences ps))
