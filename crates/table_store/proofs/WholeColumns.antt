-- The values of one id are written in all rows of a table.
use Rattle.std.proofs.Common.{◌≡◌, ℕ, ◌*◌, Bool, true, false, if◌then◌else◌, List, Option, Some, None, IfSome, length, take, drop, option_map, option_and_then, refl, sym, ap, subst, ◌∙◌}
use Rattle.std.specs.FinMap.{find, is_sorted}
use Rattle.slab.specs.Slab as slots
use Rattle.slab.specs.Slab.{Slab, with_value}
use Rattle.ecs_id.specs.Id.{Id, id_cmp}
use Rattle.ecs_id.specs.declared.Place.{Place}
use Rattle.ecs_id.specs.declared.TableKey.{TableKey}
use Rattle.ecs_table.specs.Archetype.{Archetype, IsSound, size_of, with_cell as with_bytes, with_column}
use Rattle.ecs_table.proofs.Rows.{size_from_shape}
use Rattle.ecs_table.proofs.TableIds.{cells_rise, with_cell_put}
use Rattle.ecs_table.proofs.WholeColumns.{row_of_column}
use Rattle.table_store.specs.declared.store.TableSlot.{TableSlot}
use Rattle.table_store.specs.Kept.{Held, store_of}
use Rattle.table_store.specs.Rows.{AreValues, Row, row_at, row_of, with_cell, with_column_at}
use Rattle.ecs_id.specs.TableKeys.{table_eq}
use Rattle.table_store.specs.Store.{Store, find_in, shape_of, size_in, table_at}
use Rattle.table_store.proofs.Changes.{rows_here, written_row}
use Rattle.table_store.proofs.RowCalls.{cell_there, cells_in_row}
use Rattle.table_store.proofs.Slots.{none_is_some, same_key}

-- the table whose rows are written
pub table_of_values : (s : Store) (k : TableKey) (i : Id) (bytes : List ℕ) → AreValues s k i bytes
    → (t : Archetype) × (table_at s k ≡ Some t) × (n : ℕ) × (size_in s k i ≡ Some n) × (find id_cmp i (shape_of t) ≡ Some n) × (size_of t i ≡ Some n) × (length bytes ≡ length t.entities * n)
table_of_values s k i bytes (n, size, some, long) = by (table_at s k) refl size
  where
    by : (o : Option Archetype) → table_at s k ≡ o → option_and_then (find_in i) (option_map shape_of o) ≡ Some n
        → (t : Archetype) × (table_at s k ≡ Some t) × (m : ℕ) × (size_in s k i ≡ Some m) × (find id_cmp i (shape_of t) ≡ Some m) × (size_of t i ≡ Some m) × (length bytes ≡ length t.entities * m)
    by None at h = absurd (none_is_some n h)
    by (Some t) at h = (t, at, n, size, h, size_from_shape t i n some h, long ∙ ap (λ r. r * n) (rows_here s k t at))

pub sized_for : (t : Archetype) (i : Id) (n : ℕ) (bytes : List ℕ) → size_of t i ≡ Some n → length bytes ≡ length t.entities * n → IfSome (size_of t i) (λ m. length bytes ≡ length t.entities * m)
sized_for t i n bytes size long = subst (λ o. IfSome o (λ m. length bytes ≡ length t.entities * m)) (sym size) long

-- each row of the table has its value
pub rows_set : (t : Archetype) (i : Id) (n : ℕ) (bytes : List ℕ) → IsSound t → size_of t i ≡ Some n → find id_cmp i (shape_of t) ≡ Some n → is_sorted id_cmp (shape_of t) ≡ true
    → (m : ℕ) → row_of (with_column t i bytes) m ≡ option_map (λ v. with_cell v i (take n (drop (m * n) bytes))) (row_of t m)
rows_set t i n bytes sound size known rise m = row_of_column t i bytes sound n size m ∙ by (row_of t m) refl
  where
    value : List ℕ
    value = take n (drop (m * n) bytes)

    by : (o : Option Row) → row_of t m ≡ o → option_map {U = Row} (λ v. (v.0, with_bytes i (take n (drop (m * n) bytes)) v.1)) o ≡ option_map {U = Row} (λ v. with_cell v i (take n (drop (m * n) bytes))) o
    by None e = refl
    by (Some v) e =
        let cells = cells_in_row t m v e in let old = cell_there t m i n known in
        ap (λ b. Some (v.0, b)) (with_cell_put i (take n (drop (m * n) bytes)) old.0 v.1 (ap (is_sorted id_cmp) cells ∙ cells_rise t m ∙ rise) (ap (find id_cmp i) cells ∙ old.1))

-- and so it is seen through the store
module _ {Y : Type 0} (tables : Slab (Held Y)) (last : ℕ) (s : Store) (view : store_of tables last ≡ s) (k : TableKey) (t : Archetype) (at : table_at s k ≡ Some t)
    (x : Held Y) (is : slots.get tables k.slot ≡ Some x) (d : TableSlot Y) (lent : d ≡ x.value) (table : Archetype) (f : Archetype → Archetype) (own : table ≡ f d.table) where
  pub written_column : (i : Id) (n : ℕ) (bytes : List ℕ) → ((m : ℕ) → row_of (f t) m ≡ option_map (λ v. with_cell v i (take n (drop (m * n) bytes))) (row_of t m))
      → (p : Place) → row_at (store_of (with_value tables k.slot (record x { value = record d { table = table } })) last) p ≡ with_column_at (row_at s) k i n bytes p
  unfolding row_at
  written_column i n bytes rows p = written_row tables last s view k t at x is d lent table f own p ∙ by (table_eq p.table k) refl
    where
      by : (b : Bool) → table_eq p.table k ≡ b
          → (if b then row_of (f t) p.row else row_at s p) ≡ (if b then option_map (λ v. with_cell v i (take n (drop (p.row * n) bytes))) (row_at s p) else row_at s p)
      by true e = rows p.row ∙ ap (option_map (λ v. with_cell v i (take n (drop (p.row * n) bytes)))) (sym (ap (option_and_then (λ w. row_of w p.row)) (ap (table_at s) (same_key p.table k e) ∙ at)))
      by false e = refl
