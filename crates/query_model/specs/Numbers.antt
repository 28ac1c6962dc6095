-- The variables of a query by number.
use Rattle.std.specs.Prelude.{ℕ, ◌+◌, ◌==◌, Bool, true, false, not, ◌&&◌, ◌||◌, List, [], ◌∷◌, ◌++◌, map, filter, fold, bytes_eq, is_none, if◌then◌else◌}
use Rattle.std.specs.List.{list_any}
use Rattle.query_model.specs.Syntax.{Part, term}
use Rattle.query_model.specs.Scope.{Occurrence, Sighting, occurrences, owner, sightings, this}

-- a variable: its name, and the level to which it belongs
abbrev pub Variable : Type 0
Variable = List ℕ × ℕ

abbrev pub same_variable : Variable → Variable → Bool
same_variable v u = bytes_eq v.0 u.0 && v.1 == u.1

abbrev pub variable_of : List Sighting → Occurrence → Variable
variable_of all o = (o.name, owner all o.name o.path)

-- whether a part is a term that names no source, and so asks of `$this`
abbrev pub understands_this : Part → Bool
understands_this (term role t) = is_none t.source
understands_this p = false

abbrev pub is_this : Sighting → Bool
is_this s = bytes_eq s.name this

-- whether `$this` occurs: it is written, or a term names no source
abbrev pub has_this : List Part → Bool
has_this ps = list_any is_this (sightings ps) || list_any understands_this ps

-- a variable after others, unless it is one of them
abbrev pub add_new : List Variable → Variable → List Variable
add_new vs v = if list_any (same_variable v) vs then vs else vs ++ v ∷ []

-- whether a variable belongs to the whole query, or to a group
abbrev pub is_whole : Bool → Variable → Bool
is_whole true v = v.1 == 0
is_whole false v = not (v.1 == 0)

-- the variables in the order of their numbers: `$this`, the others of the whole query, and then those of groups, each by first appearance
abbrev pub variables_among : Bool → List Variable → List Variable
variables_among has_this vs = fold add_new (fold add_new (if has_this then (this, 0) ∷ [] else []) (filter (is_whole true) vs)) (filter (is_whole false) vs)

abbrev pub variables : List Part → List Variable
variables ps = variables_among (has_this ps) (map (variable_of (sightings ps)) (occurrences ps))

-- the place of a variable among others, of which the first has the number n
abbrev pub number_from : ℕ → Variable → List Variable → ℕ
number_from n v [] = 0
number_from n v (u ∷ us) = if same_variable v u then n else number_from (n + 1) v us

-- the numbers of a level's own variables
abbrev pub numbers_from : ℕ → ℕ → List Variable → List ℕ
numbers_from n level [] = []
numbers_from n level (v ∷ vs) = if v.1 == level then n ∷ numbers_from (n + 1) level vs else numbers_from (n + 1) level vs
