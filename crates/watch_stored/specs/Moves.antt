-- What is known of the candidates of a monitor, and which entities are found to have left or entered its rows.
use Rattle.std.specs.Prelude.{◌≡◌, ◌==◌, ◌&&◌, ◌++◌, ℕ, Bool, List, [], None, filter, is_none, not}
use Rattle.std.specs.List.{list_any}
use Rattle.ecs_model.specs.steps.Outcomes.{Changed}
use Rattle.ecs_model.specs.World.{WorldState}
use Rattle.ecs_model.specs.rows.View.{view_of}
use Rattle.ecs_model.specs.stored.Watches.{matching, missing_from}
use Rattle.entity_set.specs.Members.{Entities}
use Rattle.query_meaning.specs.Standing.{IsCurrentIn}
use Rattle.query_model.specs.Query.{Query}
use Rattle.watch_stored.specs.Parts.{kept_rows}
use Rattle.watch_stored.specs.declared.moves.Question.{Question}
use Rattle.watch_stored.specs.declared.moves.RowsAfter.{RowsAfter}
use Rattle.watch_touched.specs.Before.{view_before}
use Rattle.watch_touched.specs.Moving.{AreAllMoved, told_by_ids}

abbrev pub is_among : List ℕ → ℕ → Bool
is_among es e = list_any (λ x. x == e) es

-- whether an entity of the rows before isn't in the rows now, and whether an entity is in them now and wasn't before
abbrev pub leaves : List ℕ → List ℕ → ℕ → Bool
leaves before now e = is_among before e && not (is_among now e)

abbrev pub enters : List ℕ → List ℕ → ℕ → Bool
enters before now e = is_among now e && not (is_among before e)

-- whether an entity's ids don't decide whether it is in the rows
abbrev pub is_untold : Query → WorldState → ℕ → Bool
is_untold q w e = is_none (told_by_ids q w e)

-- no entity has left or entered, and there is no new set
pub record AreNoMoves {A : Type 0} (rows : RowsAfter A) : Type 0 where
  pub left : rows.left.items ≡ []
  pub entered : rows.entered.items ≡ []
  pub these : rows.these ≡ None

-- some command led to this world, the monitor had these rows before it, and `moving` contains each entity that left or
-- entered them
abbrev pub IsTold : Query → WorldState → List ℕ → List ℕ → Type 0
IsTold q w before moving = (changed : Changed) × (before ≡ matching (view_before w changed) q) × AreAllMoved q w changed moving

-- a query that is searched in a world is current in it
abbrev pub CanBeAsked : {A : Type 0} → Question A → Type 0
CanBeAsked q = IsCurrentIn q.world.now.state (q.query.now.plan).query

-- the entities of its rows as of its last events, and those of now
abbrev pub rows_then : {A : Type 0} → Question A → List ℕ
rows_then q = q.query.now.these.items

abbrev pub rows_now : {A : Type 0} → Question A → List ℕ
rows_now q = matching (view_of q.world.now.state) (q.query.now.plan).query

-- of the candidates, those that have left the rows and those that have entered them are appended
pub record AddsMoves {A : Type 0} (q : Question A) (moving : List ℕ) (before after : RowsAfter A) : Type 0 where
  pub left : after.left.items ≡ before.left.items ++ filter (leaves (rows_then q) (rows_now q)) moving
  pub entered : after.entered.items ≡ before.entered.items ++ filter (enters (rows_then q) (rows_now q)) moving
  pub these : after.these ≡ before.these

-- these are the entities that left and entered from the rows before to those of now, and the kept set becomes those of
-- now
pub record AreMovesTo {A : Type 0} (before : Entities) (now : List ℕ) (rows : RowsAfter A) : Type 0 where
  pub left : rows.left.items ≡ missing_from before.items now
  pub entered : rows.entered.items ≡ missing_from now before.items
  pub these : (kept_rows rows before).items ≡ now
