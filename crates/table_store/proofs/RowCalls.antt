-- The rows of a store before and after a call that changes the rows of one of its tables.
use Rattle.std.proofs.Common.{◌≡◌, ℕ, suc, zero, ◌-◌, ◌<◌, ◌==◌, ◌&&◌, Bool, true, false, cond, if◌then◌else◌, List, [], ◌∷◌, Option, Some, None, IsSome, IfSome, is_some, length, map, option_map, option_and_then, unwrap_or, slice_get, Result, Ok, Err, OnOk, OnErr, refl, sym, ap, subst, ◌∙◌, true≢false, arith}
use Rattle.std.proofs.lemmas.Bool.Decides.{Decides-eqb}
use Rattle.std.specs.declared.vec.Vec.{Vec}
use Rattle.slab.specs.Slab as slots
use Rattle.slab.specs.Slab.{Slab, Updates, with_value}
use Rattle.std.specs.FinMap.{find}
use Rattle.ecs_id.specs.Id.{Id, id_cmp}
use Rattle.ecs_id.specs.declared.EntityId.{EntityId}
use Rattle.ecs_id.specs.declared.Place.{Place}
use Rattle.ecs_id.specs.declared.TableKey.{TableKey}
use Rattle.std.specs.FinMap.{is_sorted, put}
use Rattle.std.specs.List.{list_any}
use Rattle.ecs_id.specs.Id.{id_eq}
use Rattle.ecs_table.specs.Archetype.{Archetype, IsSound, cells_of, moved_into, size_of, value_of, with_cell as with_bytes, with_value as with_value_of, without_row}
use Rattle.ecs_table.proofs.Rows.{found_in_row, moved_into_row, not_in_shape, row_of_removed, row_of_set}
use Rattle.ecs_table.proofs.TableIds.{cells_rise, with_cell_put}
use Rattle.ecs_id.specs.TableKeys.{table_eq}
use Rattle.table_store.specs.Store.{Store, shape_at, shape_of, table_at}
use Rattle.table_store.specs.Rows.{Row, filler, gap_filled, removed_rows, row_at, row_of, same_place, with_cell, without_row_at}
use Rattle.table_store.specs.Kept.{ByIds, Held, store_of, IsKept, IsSlot}
use Rattle.table_store.proofs.Slots.{key_eq_true, none_is_some, one_some, same_key}
use Rattle.table_store.proofs.Changes.{row_here, rows_here, shape_here, table_here}

-- a table that stands is sound
pub sound_here : {Y : Type 0} (tables : Slab (Held Y)) (last : ℕ) (s : Store) (view : store_of tables last ≡ s) (k : TableKey) (t : Archetype) (at : table_at s k ≡ Some t) (x : Held Y) → slots.get tables k.slot ≡ Some x
    → (by_ids : ByIds Y) (by_serial : Vec TableKey Y) → IsKept tables by_ids by_serial last → IsSound t
sound_here tables last s view k t at x is by_ids by_serial kept =
    let slot : IsSlot (store_of tables last) x.value = subst (λ o. IfSome o (λ z. IsSlot (store_of tables last) z.value)) is (kept.slots k.slot) in
    subst IsSound (table_here tables last s view k t at x is) slot.sound

-- a table whose room may have grown
pub same_but_room : {T E : Type 0} (r : Result T E) (old new : Archetype) (n : ℕ) → OnOk r (new ≡ record old { room = n }) → OnErr r (new ≡ old) → new ≡ record old { room = new.room }
same_but_room (Ok v) old new n ok err = ok ∙ (λ i. record old { room = sym (ap (λ (t : Archetype). t.room) ok) i })
same_but_room (Err v) old new n ok err = err ∙ (λ i. record old { room = sym (ap (λ (t : Archetype). t.room) err) i })

pub if_ok : {T E : Type 0} (r : Result T E) (A B : Type 0) → (A → B) → OnOk r A → OnOk r B
if_ok (Ok v) A B f h = f h
if_ok (Err v) A B f h = tt

pub if_err : {T E : Type 0} (r : Result T E) (A B : Type 0) → (A → B) → OnErr r A → OnErr r B
if_err (Ok v) A B f h = tt
if_err (Err v) A B f h = f h

-- what a gap that is filled leaves at a place
gap_at : (rows : Place → Option Row) (last p q : Place) (o : Option Row) → gap_filled (without_row_at rows p) last p o q
    ≡ elim o [ None ↦ cond (same_place q p) None (rows q) | Some v ↦ cond (same_place q p) (Some v) (cond (same_place q last) None (cond (same_place q p) None (rows q))) ]
gap_at rows last p q None = refl
gap_at rows last p q (Some v) = refl

-- by tests of the key, of the last row, of the row that goes, and of whether these two are one
removed_by : (k a b c : Bool) (o r here : Option Row) → IsSome o → (k ≡ true → here ≡ r) → (c ≡ true → a ≡ b) → (c ≡ false → a ≡ true → b ≡ true → ⊥)
    → (if k then cond a None (cond b o r) else here)
    ≡ elim (cond c None o) [ None ↦ cond (k && b) None here | Some v ↦ cond (k && b) (Some v) (cond (k && a) None (cond (k && b) None here)) ]
removed_by k a b c None r here some is one two = absurd (true≢false (sym some))
removed_by true true true true (Some v) r here some is one two = refl
removed_by true true false true (Some v) r here some is one two = absurd (true≢false (one refl))
removed_by true false true true (Some v) r here some is one two = absurd (true≢false (sym (one refl)))
removed_by true false false true (Some v) r here some is one two = sym (is refl)
removed_by true true true false (Some v) r here some is one two = absurd (two refl refl refl)
removed_by true true false false (Some v) r here some is one two = refl
removed_by true false true false (Some v) r here some is one two = refl
removed_by true false false false (Some v) r here some is one two = sym (is refl)
removed_by false a b true (Some v) r here some is one two = refl
removed_by false a b false (Some v) r here some is one two = refl

row_stands : (t : Archetype) (r : ℕ) → r < length t.entities → IsSome (row_of t r)
row_stands t r lt = by t.entities r lt
  where
    by : (es : List EntityId) (m : ℕ) → m < length es → is_some (option_map {U = Row} (λ e. (e, map (λ i. (i, unwrap_or (value_of t r i) [])) t.ids)) (slice_get es m)) ≡ true
    by [] m h = absurd (omega (arith, h))
    by (e ∷ es) zero h = refl
    by (e ∷ es) (suc m) h = by es m (omega (arith, h))

same_test : (m a b : ℕ) → (a == b) ≡ true → (m == a) ≡ (m == b)
same_test m a b e = ap (λ n. m == n) ((Decides-eqb a b).0 e)

one_number : (m a b : ℕ) → (a == b) ≡ false → (m == a) ≡ true → (m == b) ≡ true → ⊥
one_number m a b e p q = true≢false (sym ((Decides-eqb a b).1 (sym ((Decides-eqb m a).0 p) ∙ (Decides-eqb m b).0 q)) ∙ e)

-- a row was taken from a table of the store
module _ (s : Store) (k : TableKey) (t : Archetype) (at : table_at s k ≡ Some t) (row : ℕ) (there : row < length t.entities) where
  abbrev here : Place
  here = record { table = k; row = row }

  final : ℕ
  final = length t.entities - 1

  -- the row that fills the gap
  pub filler_is : filler s here ≡ cond (length t.entities - 1 == row) None (row_of t (length t.entities - 1))
  filler_is = (λ i. cond (key_eq_true k k refl i && (rows_here s k t at i - 1) == row) None (row_at s (record { table = k; row = rows_here s k t at i - 1 })))
      ∙ ap (cond (length t.entities - 1 == row) None) (row_here s k t at (length t.entities - 1))

  pub filled_is : moved_into t row ≡ option_map (λ r. r.0) (filler s here)
  filled_is = moved_into_row t row there ∙ by (length t.entities - 1 == row) ∙ ap (option_map (λ r. r.0)) (sym filler_is)
    where
      by : (b : Bool) → cond b None (option_map {U = EntityId} (λ v. v.0) (row_of t (length t.entities - 1))) ≡ option_map {U = EntityId} (λ r. r.0) (cond b None (row_of t (length t.entities - 1)))
      by true = refl
      by false = refl

  same_row_here : (q : Place) → table_eq q.table k ≡ true → row_at s q ≡ row_of t q.row
  unfolding row_at
  same_row_here q b = ap (λ x. option_and_then (λ v. row_of v q.row) (table_at s x)) (same_key q.table k b) ∙ ap (option_and_then (λ v. row_of v q.row)) at

  -- what each place holds after it
  pub removed_is : IsSound t → (new : Store) → ((q : Place) → row_at new q ≡ (if table_eq q.table k then row_of (without_row t row) q.row else row_at s q)) → (q : Place) → row_at new q ≡ removed_rows s here q
  removed_is sound new changed q =
      let n = length t.entities in
      changed q
      ∙ ap (λ o. if table_eq q.table k then o else row_at s q) (row_of_removed t row q.row there sound)
      ∙ removed_by (table_eq q.table k) (q.row == n - 1) (q.row == row) (n - 1 == row) (row_of t (n - 1)) (row_of t q.row) (row_at s q)
      (row_stands t (n - 1) (omega (arith, there))) (same_row_here q) (same_test q.row (n - 1) row) (one_number q.row (n - 1) row)
      ∙ ap (λ o. elim o [ None ↦ cond (same_place q here) None (row_at s q) | Some v ↦ cond (same_place q here) (Some v) (cond (same_place q (record { table = k; row = n - 1 })) None (cond (same_place q here) None (row_at s q))) ]) (sym filler_is)
      ∙ sym (gap_at (row_at s) (record { table = k; row = n - 1 }) here q (filler s here))
      ∙ ap (λ m. gap_filled (without_row_at (row_at s) here) (record { table = k; row = m - 1 }) here (filler s here) q) (sym (rows_here s k t at))

-- the ids of a table rise
pub ids_rise : {Y : Type 0} (tables : Slab (Held Y)) (last : ℕ) (s : Store) (view : store_of tables last ≡ s) (k : TableKey) (t : Archetype) (at : table_at s k ≡ Some t)
    → (by_ids : ByIds Y) (by_serial : Vec TableKey Y) → IsKept tables by_ids by_serial last → is_sorted id_cmp (shape_of t) ≡ true
ids_rise tables last s view k t at by_ids by_serial kept = subst (λ o. IfSome o (λ f. is_sorted id_cmp f ≡ true)) (ap (λ w. shape_at w k) view ∙ shape_here s k t at) (kept.store.ascend k)

pub cells_in_row : (t : Archetype) (r : ℕ) (v : Row) → row_of t r ≡ Some v → v.1 ≡ cells_of t r
cells_in_row t r v e = by (slice_get t.entities r) e
  where
    by : (o : Option EntityId) → option_map {U = Row} (λ x. (x, cells_of t r)) o ≡ Some v → v.1 ≡ cells_of t r
    by None h = absurd (none_is_some v h)
    by (Some x) h = ap (λ (w : Row). w.1) (sym (one_some (x, cells_of t r) v h))

-- the cell of an id that a table has
pub cell_there : (t : Archetype) (r : ℕ) (i : Id) (n : ℕ) → find id_cmp i (shape_of t) ≡ Some n → (old : List ℕ) × (find id_cmp i (cells_of t r) ≡ Some old)
cell_there t r i n e = by (list_any (id_eq i) t.ids) refl
  where
    by : (b : Bool) → list_any (id_eq i) t.ids ≡ b → (old : List ℕ) × (find id_cmp i (cells_of t r) ≡ Some old)
    by true h = (unwrap_or (value_of t r i) [], found_in_row t r i h)
    by false h = absurd (none_is_some n (sym (not_in_shape t i h) ∙ e))

-- one row has another value of an id
pub row_set : (s : Store) (k : TableKey) (t : Archetype) (at : table_at s k ≡ Some t) (row : ℕ) → row < length t.entities → (i : Id) (bytes : List ℕ) → IsSound t → size_of t i ≡ Some (length bytes)
    → find id_cmp i (shape_of t) ≡ Some (length bytes) → is_sorted id_cmp (shape_of t) ≡ true → (v : Row) → row_at s (record { table = k; row = row }) ≡ Some v
    → (m : ℕ) → row_of (with_value_of t row i bytes) m ≡ cond (m == row) (Some (with_cell v i bytes)) (row_of t m)
row_set s k t at row there i bytes sound sized known rise v is m = row_of_set t row m i bytes there sound sized ∙ by (m == row) refl
  where
    own : row_of t row ≡ Some v
    own = sym (row_here s k t at row) ∙ is

    written : with_bytes i bytes v.1 ≡ put id_cmp i bytes v.1
    written = let cells = cells_in_row t row v own in let old = cell_there t row i (length bytes) known in
        with_cell_put i bytes old.0 v.1 (ap (is_sorted id_cmp) cells ∙ cells_rise t row ∙ rise) (ap (find id_cmp i) cells ∙ old.1)

    by : (b : Bool) → (m == row) ≡ b → cond b (option_map (λ w. (w.0, with_bytes i bytes w.1)) (row_of t m)) (row_of t m) ≡ cond b (Some (with_cell v i bytes)) (row_of t m)
    by true e = ap (λ r. option_map {U = Row} (λ w. (w.0, with_bytes i bytes w.1)) (row_of t r)) ((Decides-eqb m row).0 e) ∙ ap (option_map {U = Row} (λ w. (w.0, with_bytes i bytes w.1))) own ∙ ap (λ b. Some (v.0, b)) written
    by false e = refl
