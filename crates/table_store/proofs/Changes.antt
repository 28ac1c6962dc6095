-- A store before and after one of its tables changes.
use Rattle.std.proofs.Common.{◌≡◌, ℕ, ◌<◌, ◌==◌, ◌&&◌, Bool, true, false, cond, if◌then◌else◌, Option, Some, None, IsSome, IfSome, length, option_map, option_and_then, unwrap_or, refl, sym, ap, subst, ◌∙◌, true≢false, arith}
use Rattle.std.proofs.lemmas.Bool.Decides.{Decides-eqb}
use Rattle.std.specs.declared.vec.Vec.{Vec}
use Rattle.slab.specs.Slab as slots
use Rattle.slab.specs.Slab.{Slab, Updates, with_value}
use Rattle.slab.proofs.SlabLemmas.{Updates-with_value}
use Rattle.ecs_id.specs.declared.Place.{Place}
use Rattle.ecs_id.specs.declared.TableKey.{TableKey}
use Rattle.ecs_table.specs.Archetype.{Archetype, IsSound}
use Rattle.table_store.specs.declared.store.TableSlot.{TableSlot}
use Rattle.ecs_id.specs.TableKeys.{table_eq}
use Rattle.table_store.specs.Store.{Store, table_at, shape_at, shape_of, changed_at, room_at}
use Rattle.table_store.specs.Rows.{Row, row_at, row_of, rows_in, IsStored, with_row_at}
use Rattle.table_store.specs.Kept.{ByIds, Held, store_of, standing, IsKept, IsSlot}
use Rattle.table_store.specs.ByIds.{HasSlot, ids_hash}
use Rattle.table_store.proofs.Slots.{table_at-slots, table_at-changed, same_key, key_eq_true, listed_in, none_is_some, one_some, same_seen}
use Rattle.table_store.proofs.TableCounts.{still_as_many}
use Rattle.table_store.proofs.StoreLemmas.{IsStore-shapes, IsSlot-shapes, IsOrder-shapes, same_ids, stored}

-- what a bound on a table's numbers says of its key
pub with_room : (o : Option Archetype) → 0 < unwrap_or (option_map (λ t. t.room) o) 0 → (t : Archetype) × (o ≡ Some t) × (0 < t.room)
with_room None h = absurd (omega (arith, h))
with_room (Some t) h = (t, refl, h)

pub with_rows : (o : Option Archetype) (r : ℕ) → r < unwrap_or (option_map (λ t. length t.entities) o) 0 → (t : Archetype) × (o ≡ Some t) × (r < length t.entities)
with_rows None r h = absurd (omega (arith, h))
with_rows (Some t) r h = (t, refl, h)

pub there : {X : Type 0} (o : Option X) → IsSome o → (t : X) × (o ≡ Some t)
there None h = absurd (true≢false (sym h))
there (Some t) h = (t, refl)

slot_here : {Y : Type 0} (o : Option (Held Y)) (serial : ℕ) (t : Archetype) → standing o serial ≡ Some t → (x : Held Y) × (o ≡ Some x) × (x.value.serial ≡ serial) × (x.value.table ≡ t)
slot_here None serial t e = absurd (none_is_some t e)
slot_here (Some x) serial t e = by (serial == x.value.serial) refl e
  where
    by : (b : Bool) → (serial == x.value.serial) ≡ b → (if b then Some x.value.table else None) ≡ Some t → (y : Held _) × (Some x ≡ Some y) × (y.value.serial ≡ serial) × (y.value.table ≡ t)
    by true b h = (x, refl, sym ((Decides-eqb serial x.value.serial).0 b), one_some _ _ h)
    by false b h = absurd (none_is_some t h)

-- the slot of a key whose table stands
module _ {Y : Type 0} (tables : Slab (Held Y)) (last : ℕ) (s : Store) (view : store_of tables last ≡ s) (k : TableKey) (t : Archetype) (at : table_at s k ≡ Some t) where
  pub the_slot : (x : Held Y) × (slots.get tables k.slot ≡ Some x) × (x.value.serial ≡ k.serial) × (x.value.table ≡ t)
  the_slot = slot_here (slots.get tables k.slot) k.serial t (sym (table_at-slots tables last k) ∙ ap (λ v. table_at v k) view ∙ at)

  pub contains : IsSome (slots.get tables k.slot)
  contains = subst IsSome (sym the_slot.1) refl

  pub serial_here : (x : Held Y) → slots.get tables k.slot ≡ Some x → x.value.serial ≡ k.serial
  serial_here x is = ap (λ v. v.value.serial) (one_some x the_slot.0 (sym is ∙ the_slot.1)) ∙ the_slot.2

  pub table_here : (x : Held Y) → slots.get tables k.slot ≡ Some x → x.value.table ≡ t
  table_here x is = ap (λ v. v.value.table) (one_some x the_slot.0 (sym is ∙ the_slot.1)) ∙ the_slot.3

  -- what is lent of the slot's box
  pub lent_here : (x : Held Y) → slots.get tables k.slot ≡ Some x → (d : TableSlot Y) → d ≡ x.value → d.table ≡ t
  lent_here x is d lent = ap (λ v. v.table) lent ∙ table_here x is

changed_shape : (f : Archetype → Archetype) (t : Archetype) (b : Bool) (o : Option Archetype) → (b ≡ true → o ≡ Some t) → shape_of (f t) ≡ shape_of t → option_map shape_of (if b then option_map f o else o) ≡ option_map shape_of o
changed_shape f t true o at e = ap (λ v. option_map shape_of (option_map f v)) (at refl) ∙ ap Some e ∙ sym (ap (option_map shape_of) (at refl))
changed_shape f t false o at e = refl

changed_row : (f : Archetype → Archetype) (t : Archetype) (r : ℕ) (b : Bool) (o : Option Archetype) → (b ≡ true → o ≡ Some t) → option_and_then (λ u. row_of u r) (if b then option_map f o else o) ≡ (if b then row_of (f t) r else option_and_then (λ u. row_of u r) o)
changed_row f t r true o at = ap (λ v. option_and_then (λ u. row_of u r) (option_map f v)) (at refl)
changed_row f t r false o at = refl

module _ {Y : Type 0} (tables new : Slab (Held Y)) (last : ℕ) (s : Store) (view : store_of tables last ≡ s) (k : TableKey) (t : Archetype) (at : table_at s k ≡ Some t)
    (x y : Held Y) (is : slots.get tables k.slot ≡ Some x) (u : Updates tables new k.slot (Some y)) (f : Archetype → Archetype) (made : y.value.table ≡ f x.value.table) (serial : y.value.serial ≡ x.value.serial) where
  pub changed : (q : TableKey) → table_at (store_of new last) q ≡ changed_at s k f q
  changed q =
      let mine = serial_here tables last s view k t at x is in
      subst (λ v. table_at (store_of new last) q ≡ changed_at v k f q) view (table_at-changed tables new last last k x y f is u mine (serial ∙ mine) made q)

  at_key : (q : TableKey) → table_eq q k ≡ true → table_at s q ≡ Some t
  at_key q b = ap (table_at s) (same_key q k b) ∙ at

  pub row_changed : (p : Place) → row_at (store_of new last) p ≡ (if table_eq p.table k then row_of (f t) p.row else row_at s p)
  unfolding row_at
  row_changed p = ap (option_and_then (λ v. row_of v p.row)) (changed p.table) ∙ changed_row f t p.row (table_eq p.table k) (table_at s p.table) (at_key p.table)

  module _ (same : shape_of (f t) ≡ shape_of t) where
    pub shapes : (q : TableKey) → shape_at (store_of new last) q ≡ shape_at s q
    shapes q = ap (option_map shape_of) (changed q) ∙ changed_shape f t (table_eq q k) (table_at s q) (at_key q) same

  module _ (by_ids : ByIds Y) (by_serial : Vec TableKey Y) (kept : IsKept tables by_ids by_serial last) (same : shape_of (f t) ≡ shape_of t) (sound : IsSound (f t))
      (more : y.value.more ≡ x.value.more) (less : y.value.less ≡ x.value.less) where
    abbrev n : Store
    n = store_of new last

    abbrev was : Store
    was = store_of tables last

    same_shapes : (q : TableKey) → shape_at n q ≡ shape_at was q
    same_shapes q = shapes same q ∙ ap (λ v. shape_at v q) (sym view)

    table_is : y.value.table ≡ f t
    table_is = made ∙ ap f (table_here tables last s view k t at x is)

    slot_kept : (m : ℕ) (b : Bool) → (m == k.slot) ≡ b → IfSome (slots.get new m) (λ z. IsSlot n z.value)
    slot_kept m true e =
        let old : IsSlot was x.value = subst (λ o. IfSome o (λ z. IsSlot was z.value)) is (kept.slots k.slot) in
        let here : slots.get new m ≡ Some y = ap (slots.get new) ((Decides-eqb m k.slot).0 e) ∙ u.changed in
        let shape_is : shape_of y.value.table ≡ shape_of x.value.table = ap shape_of table_is ∙ same ∙ ap shape_of (sym (table_here tables last s view k t at x is)) in
        subst (λ o. IfSome o (λ z. IsSlot n z.value)) (sym here) (IsSlot-shapes was n same_shapes refl x.value y.value (subst IsSound (sym table_is) sound) shape_is more less old)
    slot_kept m false e = subst (λ o. IfSome o (λ z. IsSlot n z.value)) (sym (u.others m (λ h. true≢false (sym ((Decides-eqb m k.slot).1 h) ∙ e)))) (other (slots.get tables m) (kept.slots m))
      where
        other : (o : Option (Held Y)) → IfSome o (λ z. IsSlot was z.value) → IfSome o (λ z. IsSlot n z.value)
        other None h = tt
        other (Some z) h = IsSlot-shapes was n same_shapes refl z.value z.value h.sound refl refl refl h

    pub IsKept-changed : IsKept new by_ids by_serial last
    IsKept-changed = record {
      store = IsStore-shapes was n same_shapes refl (listed_in new last) kept.store;
      slots = λ m. slot_kept m (m == k.slot) refl;
      index = λ ids q. subst (λ o. o ≡ Some ids → HasSlot by_ids (ids_hash by_ids.hashing ids) q.slot) (sym (same_ids was n same_shapes q)) (kept.index ids q);
      order = IsOrder-shapes was n same_shapes refl (still_as_many tables new last last k.slot x y is u) by_serial.items kept.order;
    }

-- a table's numbers and rows, seen through the store
module _ (s : Store) (k : TableKey) (t : Archetype) (at : table_at s k ≡ Some t) where
  pub rows_here : rows_in s k ≡ length t.entities
  rows_here = ap (λ o. unwrap_or (option_map (λ v. length v.entities) o) 0) at

  pub room_here : room_at s k ≡ t.room
  room_here = ap (λ o. unwrap_or (option_map (λ v. v.room) o) 0) at

  pub row_here : (r : ℕ) → row_at s (record { table = k; row = r }) ≡ row_of t r
  unfolding row_at
  row_here r = ap (option_and_then (λ v. row_of v r)) at

  pub shape_here : shape_at s k ≡ Some (shape_of t)
  shape_here = ap (option_map shape_of) at

-- a table in its slot is written
module _ {Y : Type 0} (tables : Slab (Held Y)) (last : ℕ) (s : Store) (view : store_of tables last ≡ s) (k : TableKey) (t : Archetype) (at : table_at s k ≡ Some t)
    (x : Held Y) (is : slots.get tables k.slot ≡ Some x) (d : TableSlot Y) (lent : d ≡ x.value) (table : Archetype) (f : Archetype → Archetype) (own : table ≡ f d.table) where
  abbrev y : Held Y
  y = record x { value = record d { table = table } }

  made : table ≡ f x.value.table
  made = own ∙ ap (λ v. f v.table) lent

  serial : d.serial ≡ x.value.serial
  serial = ap (λ v. v.serial) lent

  abbrev new : Slab (Held Y)
  new = with_value tables k.slot y

  updates : Updates tables new k.slot (Some y)
  updates = Updates-with_value tables k.slot y (subst IsSome (sym is) refl)

  pub written : (q : TableKey) → table_at (store_of new last) q ≡ changed_at s k f q
  written = changed tables new last s view k t at x y is updates f made serial

  pub written_row : (p : Place) → row_at (store_of new last) p ≡ (if table_eq p.table k then row_of (f t) p.row else row_at s p)
  written_row = row_changed tables new last s view k t at x y is updates f made serial

  pub written_shapes : shape_of (f t) ≡ shape_of t → (q : TableKey) → shape_at (store_of new last) q ≡ shape_at s q
  written_shapes = shapes tables new last s view k t at x y is updates f made serial

  pub written_kept : (by_ids : ByIds Y) (by_serial : Vec TableKey Y) → IsKept tables by_ids by_serial last → shape_of (f t) ≡ shape_of t → IsSound (f t) → IsKept new by_ids by_serial last
  written_kept by_ids by_serial kept same sound = IsKept-changed tables new last s view k t at x y is updates f made serial by_ids by_serial kept same sound (ap (λ v. v.more) lent) (ap (λ v. v.less) lent)

  at_key_new : table_at (store_of new last) k ≡ Some (f t)
  at_key_new = written k ∙ ap (λ b. if b then option_map f (table_at s k) else table_at s k) (key_eq_true k k refl) ∙ ap (option_map f) at

  pub written_room : room_at (store_of new last) k ≡ (f t).room
  written_room = ap (λ o. unwrap_or (option_map (λ v. v.room) o) 0) at_key_new

  pub written_stored : (by_ids : ByIds Y) (by_serial : Vec TableKey Y) → IsKept tables by_ids by_serial last → shape_of (f t) ≡ shape_of t → IsSound (f t) → IsStored (store_of new last)
  written_stored by_ids by_serial kept same sound = stored new by_ids by_serial last (written_kept by_ids by_serial kept same sound) (store_of new last) refl

  -- nothing is seen, where the table stays
  pub written_same : table ≡ d.table → store_of new last ≡ s
  written_same e = same_seen tables last k.slot x y is serial (e ∙ ap (λ v. v.table) lent) ∙ view

  -- the rows stay, where those of the table do
  pub written_same_rows : ((r : ℕ) → row_of (f t) r ≡ row_of t r) → (p : Place) → row_at (store_of new last) p ≡ row_at s p
  unfolding row_at
  written_same_rows rows p = written_row p ∙ by (table_eq p.table k) refl
    where
      by : (b : Bool) → table_eq p.table k ≡ b → (if b then row_of (f t) p.row else row_at s p) ≡ row_at s p
      by true e = rows p.row ∙ sym (ap (option_and_then (λ v. row_of v p.row)) (ap (table_at s) (same_key p.table k e) ∙ at))
      by false e = refl

  -- one row is new, or written
  pub written_one_row : (r : ℕ) (v : Row) → ((m : ℕ) → row_of (f t) m ≡ cond (m == r) (Some v) (row_of t m)) → (p : Place) → row_at (store_of new last) p ≡ with_row_at (row_at s) (record { table = k; row = r }) v p
  unfolding row_at
  written_one_row r v rows p = written_row p ∙ by (table_eq p.table k) refl
    where
      by : (b : Bool) → table_eq p.table k ≡ b → (if b then row_of (f t) p.row else row_at s p) ≡ cond (b && p.row == r) (Some v) (row_at s p)
      by true e = rows p.row ∙ ap (cond (p.row == r) (Some v)) (sym (ap (option_and_then (λ w. row_of w p.row)) (ap (table_at s) (same_key p.table k e) ∙ at)))
      by false e = refl
