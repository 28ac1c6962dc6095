-- The variables of a query: where they occur, to which level each belongs, and which are bound.
use Rattle.std.specs.Prelude.{ℕ, ◌==◌, Bool, true, false, ◌&&◌, ◌||◌, List, [], ◌∷◌, map, fold, flat_map, codes, bytes_eq, Option, Some, None, if◌then◌else◌}
use Rattle.std.specs.List.{list_any, list_all}
use Rattle.query_model.specs.declared.Span.{Span}
use Rattle.query_model.specs.declared.syntax.Role.TheVariants.{And, Not}
use Rattle.query_model.specs.Syntax.{Spoken, Word, Var, Reference, TermSyntax, Part, term, equality}
use Rattle.query_model.specs.Levels.{Path, level_of, placed_parts, with_alternatives}
use Rattle.query_model.specs.Uses.{Use, uses_of}

-- a variable where it stands
pub record Occurrence : Type 0 where
  pub name : List ℕ
  pub path : Path
  pub span : Span

abbrev pub spoken_at : Path → Spoken → Span → List Occurrence
spoken_at path (Var v) s = record { name = v; path = path; span = s } ∷ []
spoken_at path w s = []

abbrev pub occurrence_of : Path → Use → List Occurrence
occurrence_of path u = spoken_at path (u.reference).spoken (u.reference).span

abbrev pub occurrences_of : Path × Part → List Occurrence
occurrences_of p = flat_map (occurrence_of p.0) (uses_of p.1)

-- the variables of a query in the order of the text
abbrev pub occurrences : List Part → List Occurrence
occurrences ps = flat_map occurrences_of (placed_parts ps)

-- an occurrence with its innermost level alone
pub record Sighting : Type 0 where
  pub name : List ℕ
  pub level : ℕ
  pub span : Span

abbrev pub sighting : Occurrence → Sighting
sighting o = record { name = o.name; level = level_of o.path; span = o.span }

abbrev pub sightings : List Part → List Sighting
sightings ps = map sighting (occurrences ps)

-- the name of the variable that stands for each answer
abbrev pub this : List ℕ
this = codes "this"

-- whether a name occurs directly in a level
abbrev pub is_sighting_of : List ℕ → ℕ → Sighting → Bool
is_sighting_of name level s = s.level == level && bytes_eq s.name name

abbrev pub occurs_in : List Sighting → List ℕ → ℕ → Bool
occurs_in all name level = list_any (is_sighting_of name level) all

-- the outermost level of a path that passes a test, 0 where none does
abbrev pub outermost : (ℕ → Bool) → Path → ℕ
outermost test path = fold (λ found l. if test l then l else found) 0 path

-- the outermost level on the way from a path to the whole query in which a name occurs directly; `$this` belongs to the whole query
abbrev pub owner : List Sighting → List ℕ → Path → ℕ
owner all name path = if bytes_eq name this then 0 else (if occurs_in all name 0 then 0 else outermost (occurs_in all name) path)

-- whether a reference is this variable, or a word
abbrev pub speaks : List ℕ → Spoken → Bool
speaks n (Var v) = bytes_eq v n
speaks n w = false

abbrev pub is_variable : List ℕ → Reference → Bool
is_variable n r = speaks n r.spoken

abbrev pub is_word_spoken : Spoken → Bool
is_word_spoken (Word n) = true
is_word_spoken w = false

abbrev pub is_word : Reference → Bool
is_word r = is_word_spoken r.spoken

abbrev pub is_variable_if_written : List ℕ → Option Reference → Bool
is_variable_if_written n None = false
is_variable_if_written n (Some r) = is_variable n r

-- whether a term names a variable
abbrev pub names_variable : List ℕ → TermSyntax → Bool
names_variable n t = is_variable n t.component || is_variable_if_written n t.source || is_variable_if_written n t.target

-- whether a part binds a variable of its level: an And term with every alternative to it, the term of a Not, or `==` with a name
abbrev pub binds : List ℕ → List TermSyntax → Part → Bool
binds n others (term And t) = names_variable n t && list_all (names_variable n) others
binds n others (term Not t) = names_variable n t
binds n others (equality v true r) = is_variable n v && is_word r
binds n others p = false

abbrev pub binds_in : List ℕ → ℕ → (Path × Part) × List TermSyntax → Bool
binds_in n level p = level_of (p.0).0 == level && binds n p.1 (p.0).1

abbrev pub is_bound : List Part → List ℕ → ℕ → Bool
is_bound ps n level = list_any (binds_in n level) (with_alternatives (placed_parts ps))
