-- The check of a query's syntax: its faults, the least of which is reported.
use Rattle.std.specs.Prelude.{ℕ, Bool, not, ◌||◌, List, [], ◌∷◌, ◌++◌, map, flat_map, length, drop, take, nat_lt, bytes_eq, Option, is_none, if◌then◌else◌}
use Rattle.std.specs.List.{list_any}
use Rattle.std.specs.Option.{option_map_or}
use Rattle.ecs_id.specs.declared.EntityId.{EntityId}
use Rattle.query_model.specs.declared.Span.{Span}
use Rattle.query_model.specs.declared.faults.Fault.{Fault}
use Rattle.query_model.specs.declared.faults.FaultKind.{FaultKind}
use Rattle.query_model.specs.declared.faults.FaultKind.TheVariants.{UnknownName, NotTraversable, UnboundVariable, WildcardSource, WildcardEquality, TooManyTerms, TooManyVariables, TooDeep, CascadePlace}
use Rattle.query_model.specs.declared.query.Position.{Position}
use Rattle.query_model.specs.declared.query.Position.TheVariants.{Source, Risen, Right}
use Rattle.query_model.specs.Faults.{fault_at}
use Rattle.query_model.specs.Syntax.{Spoken, Word, Any, AnyOnce, Part, term, opened, equality}
use Rattle.query_model.specs.Levels.{Path, placed_parts}
use Rattle.query_model.specs.Uses.{Use, uses_of}
use Rattle.query_model.specs.Cascades.{Cascading, cascades, misplaced}
use Rattle.query_model.specs.Scope.{Occurrence, Sighting, is_bound, occurrences, owner, sightings, this}

-- what the check asks of a world: the entity of a name, whether an entity is alive, and what the traits at an index are
pub record Known : Type 0 where
  pub named : List ℕ → Option EntityId
  pub alive : EntityId → Bool
  pub traversable : ℕ → Bool
  pub transitive : ℕ → Bool
  pub reflexive : ℕ → Bool
  -- whether instances inherit its facts from their bases
  pub inherited : ℕ → Bool

abbrev pub when : Bool → Fault → List Fault
when b f = if b then f ∷ [] else []

-- a word that names no entity
abbrev pub unknown_word : Known → Spoken → Span → List Fault
unknown_word k (Word n) s = when (is_none (k.named n)) (fault_at UnknownName s)
unknown_word k w s = []

-- an entity after `up` or `cascade` that can't be traversed
abbrev pub not_traversable : Known → Spoken → Span → List Fault
not_traversable k (Word n) s = option_map_or (λ e. when (not (k.traversable e.index)) (fault_at NotTraversable s)) (k.named n) []
not_traversable k w s = []

-- a wildcard
abbrev pub wildcard : FaultKind → Spoken → Span → List Fault
wildcard kind Any s = fault_at kind s ∷ []
wildcard kind AnyOnce s = fault_at kind s ∷ []
wildcard kind w s = []

-- the faults that a reference may have for what it is to its part
abbrev pub faults_of_position : Known → Position → Spoken → Span → List Fault
faults_of_position k Risen w s = not_traversable k w s
faults_of_position k Source w s = wildcard WildcardSource w s
faults_of_position k Right w s = wildcard WildcardEquality w s
faults_of_position k position w s = []

abbrev pub faults_of_use : Known → Use → List Fault
faults_of_use k u = unknown_word k (u.reference).spoken (u.reference).span ++ faults_of_position k u.position (u.reference).spoken (u.reference).span

-- a group inside four groups, at its `{`: it stands itself in one of the levels of its path
abbrev pub too_deep : Path → Part → List Fault
too_deep path (opened s) = when (nat_lt 4 (length path)) (fault_at TooDeep s)
too_deep path p = []

abbrev pub too_deep_part : Path × Part → List Fault
too_deep_part p = too_deep p.0 p.1

-- what is counted as a term, by its span: terms, alternatives, and equalities from their first to their last token
abbrev pub counted_spans : Part → List Span
counted_spans (term role t) = t.span ∷ []
counted_spans (equality v same r) = record { start = (v.span).start; end = (r.span).end } ∷ []
counted_spans p = []

-- the item at a place of a list, if there is one
abbrev pub item_at : {A : Type 0} → ℕ → List A → List A
item_at n xs = take 1 (drop n xs)

-- the first sighting of each name that is not among those seen before
abbrev pub new_names : List (List ℕ) → List Sighting → List Sighting
new_names seen [] = []
new_names seen (s ∷ ss) = if list_any (bytes_eq s.name) seen then new_names seen ss else s ∷ new_names (seen ++ s.name ∷ []) ss

-- a variable besides `$this` that isn't bound. Each of its occurrences is faulty, so the least fault is at its first
abbrev pub unbound : List Part → Occurrence → List Fault
unbound ps o =
    when (not (bytes_eq o.name this || is_bound ps o.name (owner (sightings ps) o.name o.path))) (fault_at UnboundVariable o.span)

abbrev pub cascade_fault : Cascading → List Fault
cascade_fault c = fault_at CascadePlace c.span ∷ []

-- how many terms and equalities a query may have
abbrev pub most_terms : ℕ
most_terms = 64

-- how many names of variables besides `$this`
abbrev pub most_names : ℕ
most_names = 32

-- all faults
unfoldable pub faults : Known → List Part → List Fault
faults k ps =
    flat_map (faults_of_use k) (flat_map uses_of ps)
    ++ flat_map too_deep_part (placed_parts ps)
    ++ map (fault_at TooManyTerms) (item_at most_terms (flat_map counted_spans ps))
    ++ map (λ s. fault_at TooManyVariables s.span) (item_at most_names (new_names (this ∷ []) (sightings ps)))
    ++ flat_map (unbound ps) (occurrences ps)
    ++ flat_map cascade_fault (misplaced (cascades ps))
