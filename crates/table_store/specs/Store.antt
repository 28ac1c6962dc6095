-- What a contract sees of a store: the table under each key.
use Rattle.std.specs.Prelude.{◌≡◌, ℕ, ◌-◌, ◌^◌, ◌<◌, ◌≤◌, List, map, Option, Some, None, option_map, option_and_then, unwrap_or, if◌then◌else◌, IsTrue, IsSome, IfSome, nat_le, slice_get, not}
use Rattle.std.specs.List.{find, filter, list_all}
use Rattle.std.specs.FinMap.{put, is_sorted}
use Rattle.std.specs.FinMap as finite
use Rattle.ecs_id.specs.TableKeys.{table_eq}
use Rattle.ecs_id.specs.declared.TableKey.{TableKey}
use Rattle.ecs_id.specs.Id.{Id, id_cmp, id_eq}
use Rattle.ecs_table.specs.Archetype.{Archetype, empty_table, with_moved, without_row}
pub use Rattle.ecs_table.specs.Archetype.{Shape, byte_size, shape_of}

-- the tables that stand, each under its key, and the greatest serial that a table was given
pub record Store : Type 0 where
  pub tables : List (TableKey × Archetype)
  pub last : ℕ

-- the table under a key, if one stands there
unfoldable pub table_at : Store → TableKey → Option Archetype
table_at s k = option_map (λ e. e.1) (find (λ e. table_eq k e.0) s.tables)

-- the ids of the table under a key
abbrev pub ids_at : Store → TableKey → Option (List Id)
ids_at s k = option_map (λ t. t.ids) (table_at s k)

-- what a list of ids has beside an id
abbrev pub find_in : {X : Type 0} → Id → List (Id × X) → Option X
find_in i entries = finite.find id_cmp i entries

-- what stands under each key, after what this makes of one of the tables
abbrev pub changed_at : Store → TableKey → (Archetype → Archetype) → TableKey → Option Archetype
changed_at s k change q = if table_eq q k then option_map change (table_at s q) else table_at s q

-- what stands under each key, after a row of the table s under one has moved to the table under another
abbrev pub moved_at : Store → TableKey → TableKey → Archetype → ℕ → TableKey → Option Archetype
moved_at st from to s row q = if table_eq q to then option_map (λ t. with_moved t s row) (table_at st q) else changed_at st from (λ t. without_row t row) q

-- what stands under each key, where this table is made unless its key is taken
abbrev pub made_at : Store → TableKey → Archetype → TableKey → Option Archetype
made_at s k t q = if table_eq q k then Some (unwrap_or (table_at s q) t) else table_at s q

-- what stands under each key, without one of them
abbrev pub released_at : Store → TableKey → TableKey → Option Archetype
released_at s k q = if table_eq q k then None else table_at s q

-- how many more rows fit in the table under a key
abbrev pub room_at : Store → TableKey → ℕ
room_at s k = unwrap_or (option_map (λ t. t.room) (table_at s k)) 0

-- the shape of the table under a key
abbrev pub shape_at : Store → TableKey → Option Shape
shape_at s k = option_map shape_of (table_at s k)

-- how many bytes a value of an id has in the table under a key, 0 for a tag
abbrev pub size_in : Store → TableKey → Id → Option ℕ
size_in s k i = option_and_then (find_in i) (shape_at s k)

-- the shapes with this one under a key
abbrev pub shaped_at : Store → TableKey → Shape → TableKey → Option Shape
shaped_at s k f q = if table_eq q k then Some f else shape_at s q

-- an empty table of this shape
abbrev pub shaped : Shape → Archetype
shaped f = empty_table (map (λ c. c.0) f) (map (λ c. c.1) f)

-- a shape with one more id, and with one less
abbrev pub with_id : Shape → Id → ℕ → Shape
with_id f i n = put id_cmp i n f

abbrev pub without_id : Shape → Id → Shape
without_id f i = filter (λ c. not (id_eq c.0 i)) f

-- every table of the store that has the id has values of this size of it
abbrev pub HasSize : Store → Id → ℕ → Type 0
HasSize s i n = (k : TableKey) (f : Shape) → shape_at s k ≡ Some f → IfSome (find_in i f) (λ m. m ≡ n)

-- what each store has
pub record IsStore (s : Store) : Type 0 where
  -- no two tables have the same ids
  pub one_each : (k q : TableKey) → IsSome (table_at s k) → ids_at s k ≡ ids_at s q → k ≡ q
  -- the ids of a table strictly rise
  pub ascend : (k : TableKey) → IfSome (shape_at s k) (λ f. IsTrue (is_sorted id_cmp f))
  -- values have at most 64 bytes
  pub small : (k : TableKey) → IfSome (shape_at s k) (λ f. IsTrue (list_all (λ c. nat_le c.1 64) f))
  -- an id has one size in all tables
  pub one_size : (k q : TableKey) (f g : Shape) (i : Id) (m n : ℕ) → shape_at s k ≡ Some f → shape_at s q ≡ Some g → find_in i f ≡ Some m → find_in i g ≡ Some n → m ≡ n
  -- serials begin at 1, and each was given once
  pub serials : (k : TableKey) → IsSome (table_at s k) → (1 ≤ k.serial) × (k.serial ≤ s.last)
  pub given_once : (k q : TableKey) → IsSome (table_at s k) → IsSome (table_at s q) → k.serial ≡ q.serial → k ≡ q
  -- slots are numbered from 0, and there are at most 4,294,967,295
  pub numbered : (k : TableKey) → IsSome (table_at s k) → k.slot < 2 ^ 32 - 1
  -- each table that is listed is found under its key
  pub listed : (j : ℕ) → IfSome (slice_get s.tables j) (λ e. table_at s e.0 ≡ Some e.1)
