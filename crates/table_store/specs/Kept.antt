-- The fields of a store: slots of tables, the slot of the table of each list of ids, and the keys by serial.
use Rattle.std.specs.Prelude.{◌≡◌, Bool, false, ◌↔◌, ℕ, suc, ◌+◌, ◌*◌, ◌≤◌, ◌==◌, cond, if◌then◌else◌, List, [], ◌∷◌, Option, Some, None, IsSome, IsNone, IfSome, is_some, length, map, ◌⊎◌, IfOk, OnErr, Result, max, ◌<◌, slice_index_or, slice_set, option_map, true, nat_lt}
use Rattle.std.specs.List.{Contains}
use Rattle.std.specs.List.Sorted.{IsStrictlySortedBy}
use Rattle.std.specs.Ordering.{nat_cmp}
use Rattle.std.specs.declared.vec.Vec.{Vec}
use Rattle.indexmap.specs.IndexMap as hashed
use Rattle.slab.specs.Slab as slots
use Rattle.slab.specs.Slab.{Slab}
use Rattle.ecs_id.specs.Id.{Id, id_eq}
use Rattle.ecs_id.specs.declared.TableKey.{TableKey}
use Rattle.ecs_table.specs.Archetype.{Archetype, IsSound}
use Rattle.table_store.specs.declared.edges.Edges.{Edges}
use Rattle.table_store.specs.declared.edges.Edges.TheVariants.{Empty, Few, Many, One}
use Rattle.table_store.specs.declared.edges.Several.{Several}
use Rattle.table_store.specs.declared.slot_marks.SlotMarks.{SlotMarks}
use Rattle.table_store.specs.declared.store.TableSlot.{TableSlot}
pub use Rattle.table_store.specs.ByIds.{Held}
use Rattle.table_store.specs.ByIds.{HasSlot, ids_hash}
pub use Rattle.table_store.specs.declared.by_ids.ByIds.{ByIds}
use Rattle.table_store.specs.Store.{Store, Shape, IsStore, ids_at, table_at, shape_at, shape_of, shaped, shaped_at, made_at, with_id, without_id}
use Rattle.table_store.specs.Rows.{IsStored, row_at}
use Rattle.ecs_id.specs.declared.Place.{Place}

-- the tables of slots, the first of which has this number
abbrev pub tables_from : {Y : Type 0} → ℕ → List (Option (Held Y)) → List (TableKey × Archetype)
tables_from n [] = []
tables_from n (None ∷ slots) = tables_from (suc n) slots
tables_from n (Some x ∷ slots) = (record { slot = n; serial = x.value.serial }, x.value.table) ∷ tables_from (suc n) slots

-- what is seen of the fields
abbrev pub store_of : {Y : Type 0} → Slab (Held Y) → ℕ → Store
store_of tables last = record { tables = tables_from 0 tables.slots; last = last }

-- the table in a slot, if it has this serial
abbrev pub standing : {Y : Type 0} → Option (Held Y) → ℕ → Option Archetype
standing None serial = None
standing (Some x) serial = if serial == x.value.serial then Some x.value.table else None

-- whether a table stands under the key
abbrev pub is_held : {Y : Type 0} → Slab (Held Y) → TableKey → Bool
is_held tables k = is_some (standing (slots.get tables k.slot) k.serial)

-- whether a slot has a table with rows
abbrev pub is_filled : {Y : Type 0} → Option (Held Y) → Bool
is_filled None = false
is_filled (Some x) = nat_lt 0 (length x.value.table.entities)

-- each slot with a table has a mark, and marks say in which slots are rows
pub record AreMarked {Y : Type 0} (tables : Slab (Held Y)) (filled : List Bool) : Type 0 where
  pub within : (n : ℕ) → IsSome (slots.get tables n) → n < length filled
  pub told : (n : ℕ) → slice_index_or filled n false ≡ is_filled (slots.get tables n)

-- the serial of the table in a slot
abbrev pub serial_at : {Y : Type 0} → Slab (Held Y) → ℕ → Option ℕ
serial_at tables n = option_map (λ x. x.value.serial) (slots.get tables n)

-- the second serial follows the first
abbrev pub Follows : Option ℕ → Option ℕ → Type 0
Follows None o = ⊥
Follows (Some m) None = ⊥
Follows (Some m) (Some n) = n ≡ m + 1

-- a slot with a table has a bit, and the next one too; where a bit is set, the table in the slot has the serial that
-- follows that of the table in the slot before
pub record AreInTurn {Y : Type 0} (tables : Slab (Held Y)) (in_turn : List Bool) : Type 0 where
  pub within : (n : ℕ) → IsSome (serial_at tables n) → n + 1 < length in_turn
  pub follow : (n m : ℕ) → m ≡ n + 1 → slice_index_or in_turn m false ≡ true → Follows (serial_at tables n) (serial_at tables m)

-- a slot has all marks that a table there is to have
pub record HasMarks {Y : Type 0} (marks : SlotMarks Y) (n : ℕ) : Type 0 where
  pub filled : n < length marks.filled
  pub in_turn : n + 1 < length marks.in_turn

-- bits may have come, which are clear, and each other one is as it was
pub record IsLonger (old new : List Bool) : Type 0 where
  pub longer : length old ≤ length new
  pub same : (n : ℕ) → slice_index_or new n false ≡ slice_index_or old n false

-- the same of both kinds of marks
pub record HaveGrown {Y : Type 0} (old new : SlotMarks Y) : Type 0 where
  pub filled : IsLonger old.filled new.filled
  pub in_turn : IsLonger old.in_turn new.in_turn

-- the bits where a table has come under the key: that of its slot may be set where its serial follows that before
abbrev pub IsTurnNoted : {Y : Type 0} → Slab (Held Y) → TableKey → List Bool → List Bool → Type 0
IsTurnNoted tables key old new = (new ≡ old) ⊎ ((new ≡ slice_set old key.slot true) × ((n : ℕ) → key.slot ≡ n + 1 → Follows (serial_at tables n) (Some key.serial)))

-- where the first of some edges for an id leads, if there is one
unfoldable pub edge_in : List (Id × TableKey) → Id → Option TableKey
edge_in [] i = None
edge_in (e ∷ edges) i = cond (id_eq e.0 i) (Some e.1) (edge_in edges i)

-- the first key if it is there, or else the other
abbrev pub first_told : Option TableKey → Option TableKey → Option TableKey
first_told (Some k) o = Some k
first_told None o = o

-- where one of more than a few edges leads: the few are asked before those that are hashed
abbrev pub one_of_several : {Y : Type 0} → Several Y → Id → Option TableKey
one_of_several edges i = first_told (edge_in edges.few.items i) (hashed.get id_eq edges.others i)

-- where the edge for an id leads, if there is one
abbrev pub edge_of : {Y : Type 0} → Edges Y → Id → Option TableKey
edge_of Empty i = None
edge_of (One e) i = cond (id_eq e.0 i) (Some e.1) None
edge_of (Few few) i = edge_in few.items i
edge_of (Many several) i = one_of_several several.value i

abbrev pub HasNoEdge : {Y : Type 0} → Edges Y → Type 0
HasNoEdge edges = (i : Id) → edge_of edges i ≡ None

-- under the key, if a table stands there yet, is one with the id more
abbrev pub IsMore : Store → Shape → Id → TableKey → Type 0
IsMore s f i k = (k.serial ≤ s.last) × IfSome (shape_at s k) (λ g. (n : ℕ) × (g ≡ with_id f i n))

-- under the key, if a table stands there yet, is the one with the id less
abbrev pub IsLess : Store → Shape → Id → TableKey → Type 0
IsLess s f i k = (k.serial ≤ s.last) × IfSome (shape_at s k) (λ g. g ≡ without_id f i)

-- what each slot has
pub record IsSlot {Y : Type 0} (s : Store) (x : TableSlot Y) : Type 0 where
  pub sound : IsSound x.table
  pub more : (i : Id) (k : TableKey) → edge_of x.more i ≡ Some k → IsMore s (shape_of x.table) i k
  pub less : (i : Id) (k : TableKey) → edge_of x.less i ≡ Some k → IsLess s (shape_of x.table) i k

-- the slot of each table is found by the hash of its ids
abbrev pub IsIndex : {Y : Type 0} → Store → ByIds Y → Type 0
IsIndex s by_ids = (ids : List Id) (k : TableKey) → ids_at s k ≡ Some ids → HasSlot by_ids (ids_hash by_ids.hashing ids) k.slot

-- the keys have those of all tables that stand, by rising serial
pub record IsOrder (s : Store) (keys : List TableKey) : Type 0 where
  pub has : (k : TableKey) → IsSome (table_at s k) → Contains keys k
  pub given : (k : TableKey) → Contains keys k → k.serial ≤ s.last
  -- those of released tables are at most one more than tables stand
  pub few : length keys ≤ 2 * length s.tables + 1
  pub rising : IsStrictlySortedBy nat_cmp (map (λ k. k.serial) keys)

pub record IsKept {Y : Type 0} (tables : Slab (Held Y)) (by_ids : ByIds Y) (by_serial : Vec TableKey Y) (last : ℕ) : Type 0 where
  pub store : IsStore (store_of tables last)
  pub slots : (n : ℕ) → IfSome (slots.get tables n) (λ x. IsSlot (store_of tables last) x.value)
  pub index : IsIndex (store_of tables last) by_ids
  pub order : IsOrder (store_of tables last) by_serial.items

-- a table of this shape is found or made under the key
pub record IsMade (s : Store) (f : Shape) (key : TableKey) (n : Store) : Type 0 where
  pub made : (q : TableKey) → table_at n q ≡ made_at s key (shaped f) q
  pub shapes : (q : TableKey) → shape_at n q ≡ shaped_at s key f q
  pub newest : IsNone (table_at s key) ↔ (s.last < key.serial)
  pub last : n.last ≡ max s.last key.serial
  pub rows : (p : Place) → row_at n p ≡ row_at s p

-- a table of this shape is found or made, or the store is as it was
pub record IsPut {E : Type 0} (s : Store) (f : Shape) (r : Result TableKey E) (n : Store) : Type 0 where
  pub ok : IfOk r (λ key. IsMade s f key n)
  pub err : OnErr r (n ≡ s)
  pub whole : IsStored n

-- the shape with one more id, where a size of it is given, or with one less
abbrev pub stepped : Shape → Id → Option ℕ → Shape
stepped f i None = without_id f i
stepped f i (Some n) = with_id f i n

-- the edges of a slot to tables with one more id, or with one less
abbrev pub edges_of : {Y : Type 0} → TableSlot Y → Option ℕ → Edges Y
edges_of x None = x.less
edges_of x (Some n) = x.more

-- each edge is one that was, or leads there for the id
abbrev pub IsEdgePut : Id → TableKey → (Id → Option TableKey) → (Id → Option TableKey) → Type 0
IsEdgePut id to old new = (i : Id) (k : TableKey) → new i ≡ Some k → (old i ≡ Some k) ⊎ ((i ≡ id) × (k ≡ to))

-- the edges are those that were, or one of them is written
abbrev pub IsWritten : {Y : Type 0} → Id → TableKey → Edges Y → Edges Y → Type 0
IsWritten id to old new = IsEdgePut id to (edge_of old) (edge_of new)
