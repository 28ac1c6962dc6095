-- What a query says of an entity.
use Rattle.std.specs.Prelude.{◌≡◌, Bool, IsTrue, Result, Ok, Err}
use Rattle.ecs_id.specs.declared.EntityId.{EntityId}
use Rattle.ecs_model.specs.World.{WorldState, is_alive}
use Rattle.ecs_model.specs.rows.View.{view_of}
use Rattle.query_model.specs.Query.{Query}
use Rattle.world_rows.specs.Matching.{DeniesMatch, is_in_rows}
use Rattle.world_rows.specs.declared.matcher.MatchError.{MatchError}

-- whether an entity is `$this` of a row, or why it isn't told
abbrev pub TellsMatch : WorldState → Query → EntityId → Result Bool MatchError → Type 0
TellsMatch w q e (Ok is) = IsTrue (is_alive w e) × (is ≡ is_in_rows (view_of w) q e.index)
TellsMatch w q e (Err error) = DeniesMatch w e error
