-- Moves that are prepared one after another and carried out together, and entities that are deleted one after another.
use Rattle.std.specs.Prelude.{◌≡◌, ◌≤◌, ◌+◌, ℕ, ◌&&◌, ◌==◌, not, true, Bool, List, [], ◌∷◌, ◌++◌, Some, unwrap_or, IsTrue}
use Rattle.std.specs.List.{list_all}
use Rattle.ecs_id.specs.declared.EntityId.{EntityId}
use Rattle.ecs_id.specs.declared.TableKey.{TableKey}
use Rattle.ecs_archetypes.specs.declared.plans.EntityMove.{EntityMove}
use Rattle.ecs_archetypes.specs.Holdings.{Holdings, held_at, is_settled, with_cells, without_entity}
use Rattle.ecs_archetypes.specs.Housing.{Housing, holdings_of}
use Rattle.ecs_archetypes.specs.Tables.{one_in}
use Rattle.ecs_model.specs.World.{is_built_in}
use Rattle.table_store.specs.Rows.{carried}
use Rattle.table_store.specs.Store.{Store, Shape, room_at, shape_at}

-- whether no two of the entities have one index
abbrev pub are_apart : List EntityId → Bool
are_apart [] = true
are_apart (e ∷ es) = list_all (λ d. not (d.index == e.index)) es && are_apart es

-- whether each of the entities can be deleted after the ones before it
abbrev pub are_deletable : Holdings → List EntityId → Bool
are_deletable h es = list_all (λ e. is_settled h e && not (is_built_in e.index)) es && are_apart es

-- the holdings without each of the entities
abbrev pub without_each : List EntityId → Holdings → Holdings
without_each [] h = h
without_each (e ∷ es) h = without_each es (without_entity h e.index)

-- how many of the moves lead to a table
abbrev pub moves_to : TableKey → List EntityMove → ℕ
moves_to q [] = 0
moves_to q (m ∷ ms) = one_in m.to q + moves_to q ms

-- each entity stands somewhere, and each table has room for all moves that lead to it
pub record AreReady (h : Housing) (moves : List EntityMove) : Type 0 where
  pub settled : IsTrue (list_all (λ m. is_settled (holdings_of h) m.entity) moves)
  pub room : (q : TableKey) → moves_to q moves ≤ room_at h.tables q

-- the holdings after an entity has moved to a table of this shape: it keeps the values of the ids there, and the others are zeros
abbrev pub with_moved : Holdings → EntityId → Shape → Holdings
with_moved h e f = with_cells h e.index (carried f (held_at h e.index))

-- the shape of the table under a key
abbrev pub shape_in : Store → TableKey → Shape
shape_in s k = unwrap_or (shape_at s k) []

-- the holdings after each move
abbrev pub with_all_moved : Store → List EntityMove → Holdings → Holdings
with_all_moved s [] h = h
with_all_moved s (m ∷ ms) h = with_all_moved s ms (with_moved h m.entity (shape_in s m.to))

-- one more move is planned, to a table of this shape
pub record IsPlanned (s : Store) (old : List EntityMove) (e : EntityId) (f : Shape) (new : List EntityMove) : Type 0 where
  pub from : TableKey
  pub to : TableKey
  pub shape : shape_at s to ≡ Some f
  pub moves : new ≡ old ++ record { entity = e; from = from; to = to } ∷ []
