-- Which of the entities that a command touched leave the rows of a local query, and which enter them.
use Rattle.std.specs.Prelude.{ℕ, Bool, false, not, ◌&&◌, List, Option, Some, None}
use Rattle.ecs_id.specs.Id.{Id}
use Rattle.query_model.specs.Query.{Query}
use Rattle.query_local.specs.Judging.{judged}
use Rattle.query_local.specs.Touched.{Touch}

-- whether an entity is `$this` of a row where it lives with these ids, or doesn't live
abbrev pub is_matched : Query → ℕ → Option (List Id) → Bool
is_matched q e None = false
is_matched q e (Some ids) = judged q e ids

abbrev pub leaves : Query → Touch → Bool
leaves q t = is_matched q t.index t.before && not (is_matched q t.index t.after)

abbrev pub enters : Query → Touch → Bool
enters q t = is_matched q t.index t.after && not (is_matched q t.index t.before)
