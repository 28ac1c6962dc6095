-- Where the word `cascade` stands in a query.
use Rattle.std.specs.Prelude.{ℕ, Bool, true, not, ◌||◌, List, [], ◌∷◌, ◌++◌, flat_map, length, nat_lt, Option, None, Some, if◌then◌else◌}
use Rattle.query_model.specs.declared.Span.{Span}
use Rattle.query_model.specs.Levels.{Path, placed_parts}
use Rattle.query_model.specs.Scope.{is_variable, this}
use Rattle.query_model.specs.Syntax.{Reference, Cascade, Rise, up, Part, term}
use Rattle.query_model.specs.Uses.{rise_of}

-- a term with `cascade`: in how many levels besides the whole query it stands, its source and the relationship after
-- the word, if they are written, and the word's place
pub record Cascading : Type 0 where
  pub levels : ℕ
  pub source : Option Reference
  pub along : Option Reference
  pub span : Span

abbrev pub cascading_by : ℕ → Option Reference → Rise → List Cascading
cascading_by levels source (up (Cascade s) along) = record { levels = levels; source = source; along = along; span = s } ∷ []
cascading_by levels source rise = []

abbrev pub cascading_in : ℕ → Part → List Cascading
cascading_in levels (term role t) = cascading_by levels t.source (rise_of t.flags)
cascading_in levels p = []

abbrev pub cascading_part : Path × Part → List Cascading
cascading_part p = cascading_in (length p.0) p.1

-- the terms with `cascade` in the order of the text
abbrev pub cascades : List Part → List Cascading
cascades ps = flat_map cascading_part (placed_parts ps)

-- whether a source is `$this`, written or understood
abbrev pub is_this_source : Option Reference → Bool
is_this_source None = true
is_this_source (Some r) = is_variable this r

-- whether it stands in a group or is a Not term, or has another source than `$this`
abbrev pub is_misplaced : Cascading → Bool
is_misplaced c = nat_lt 0 c.levels || not (is_this_source c.source)

-- the misplaced ones: the first, if it is so, and each after it
abbrev pub misplaced : List Cascading → List Cascading
misplaced [] = []
misplaced (c ∷ cs) = (if is_misplaced c then c ∷ [] else []) ++ cs
