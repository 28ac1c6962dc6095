-- The values of an id that all entities of a table get at once.
use Rattle.std.specs.Prelude.{◌≡◌, ℕ, ◌+◌, ◌*◌, ◌-◌, ◌^◌, ◌==◌, Bool, not, ◌||◌, nat_lt, List, [], ◌∷◌, take, drop, length, Option, Some, None, option_map, is_some, is_none, Ok}
use Rattle.std.specs.List.{find, list_any}
use Rattle.std.specs.Option.{option_map_or}
use Rattle.ecs_id.specs.declared.EntityId.{EntityId}
use Rattle.ecs_id.specs.declared.TableKey.{TableKey}
use Rattle.ecs_id.specs.Id.{Id, first_of}
use Rattle.ecs_model.specs.BuiltIns.{with_trait}
use Rattle.ecs_model.specs.Bytes.{size_of, values_in}
use Rattle.ecs_model.specs.Links.{is_held, target_under}
use Rattle.ecs_model.specs.Schema.{Schema}
use Rattle.ecs_model.specs.World.{WorldState, ids_of, type_of_id}
use Rattle.ecs_model.specs.steps.Step.{SetValue, step}
use Rattle.ecs_table.specs.Archetype.{Archetype}
use Rattle.rel_traits.specs.Simple.{is_unmirrored}
use Rattle.table_store.specs.Store.{table_at}
use Rattle.ecs_world.specs.Standing.{Standing}
use Rattle.ecs_world.specs.State.{byte_count, no_change}
use Rattle.ecs_world.specs.declared.columns.ColumnFault.{ColumnFault}
use Rattle.ecs_world.specs.declared.columns.ColumnFault.TheVariants.{Gone, NotHeld, NoData, Brings, Size, Full}

-- one `set` of each of these entities in turn, to the values that the bytes are, leads from a world to another: each is
-- accepted, and has changed its value alone
abbrev pub AreSet : Id → Schema → List EntityId → List ℕ → WorldState → WorldState → Type 0
AreSet i fs [] bytes w v = v ≡ w
AreSet i fs (e ∷ es) bytes w v =
    (u : WorldState) × (step w (SetValue e i (values_in fs (take (size_of fs) bytes))) ≡ Ok (u, record no_change { written = (e.index, i) ∷ [] })) × AreSet i fs es (drop (size_of fs) bytes) u v

-- and so of the entities of the table under a key, by row
abbrev pub IsColumnSet : Standing → TableKey → Id → List ℕ → WorldState → Type 0
IsColumnSet w k i bytes v = (t : Archetype) × (fs : Schema) × (table_at w.tables k ≡ Some t) × (type_of_id w.state i ≡ Some fs) × AreSet i fs t.entities bytes w.state v

-- whether a `set` of a fact that is held may bring others: by With, or as its mirror
abbrev pub may_bring : (ℕ → List Id) → Id → Bool
may_bring ids i = list_any (λ j. is_some (target_under with_trait j)) (ids (first_of i)) || not (is_unmirrored ids i)

-- the faults of so many bytes for the rows of a table, in the order in which they are judged
abbrev pub column_faults : WorldState → Archetype → Id → ℕ → List (Bool × ColumnFault)
column_faults w t i n =
    (not (is_held t.ids i), NotHeld)
    ∷ (is_none (type_of_id w i), NoData)
    ∷ (may_bring (ids_of w) i, Brings)
    ∷ (not (n == length t.entities * byte_count (type_of_id w i)), Size)
    ∷ (nat_lt (2 ^ 64 - 1) (w.accepted + length t.entities), Full)
    ∷ []

-- the first that applies
abbrev pub first_fault : List (Bool × ColumnFault) → Option ColumnFault
first_fault faults = option_map (λ p. p.1) (find (λ p. p.0) faults)

-- the fault of so many bytes for the table under a key
abbrev pub column_fault : Standing → TableKey → Id → ℕ → Option ColumnFault
column_fault w k i n = option_map_or (λ t. first_fault (column_faults w.state t i n)) (table_at w.tables k) (Some Gone)
