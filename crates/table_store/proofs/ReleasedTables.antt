-- A store before and after a table without rows is released.
use Rattle.std.proofs.Common.{◌≡◌, ◌≢◌, ◌⊎◌, ℕ, ◌+◌, ◌*◌, ◌≤◌, ◌==◌, Bool, true, false, if◌then◌else◌, List, Option, Some, None, IsSome, IfSome, IsTrue, is_some, length, nat_le, option_map, option_and_then, refl, sym, ap, subst, ◌∙◌, true≢false, arith, inl, inr}
use Rattle.std.proofs.lemmas.Bool.Decides.{Decides-eqb}
use Rattle.std.specs.List.{filter, list_all}
use Rattle.std.specs.FinMap.{is_sorted}
use Rattle.std.specs.declared.vec.Vec.{Vec}
use Rattle.slab.specs.Slab as slots
use Rattle.slab.specs.Slab.{Slab, Updates, slab_len}
use Rattle.ecs_id.specs.Id.{Id, id_cmp}
use Rattle.ecs_id.specs.declared.Place.{Place}
use Rattle.ecs_id.specs.declared.TableKey.{TableKey}
use Rattle.ecs_table.specs.Archetype.{Archetype}
use Rattle.ecs_table.proofs.Rows.{row_past}
use Rattle.table_store.specs.declared.store.TableSlot.{TableSlot}
use Rattle.ecs_id.specs.TableKeys.{table_eq}
use Rattle.table_store.specs.Store.{Store, Shape, IsStore, table_at, ids_at, shape_at, shape_of, with_id, without_id, released_at}
use Rattle.table_store.specs.Rows.{row_at, row_of, rows_in, IsStored}
use Rattle.table_store.specs.Kept.{ByIds, Held, store_of, is_held, standing, IsKept, IsSlot, IsIndex, IsOrder}
use Rattle.table_store.specs.ByIds.{HasSlot, ids_hash}
use Rattle.table_store.proofs.Slots.{table_at-released, table_at-slots, same_key, key_eq_true, listed_in, none_is_some}
use Rattle.table_store.proofs.StoreLemmas.{stored}
use Rattle.table_store.proofs.Changes.{rows_here}
use Rattle.table_store.proofs.TableCounts.{as_many}
use Rattle.table_store.proofs.Order.{order_forgotten}

-- where no table stands, none is released
gone : (s : Store) (k : TableKey) → table_at s k ≡ None → (q : TableKey) → table_at s q ≡ released_at s k q
gone s k none q = by (table_eq q k) refl
  where
    by : (b : Bool) → table_eq q k ≡ b → table_at s q ≡ (if b then None else table_at s q)
    by true e = ap (table_at s) (same_key q k e) ∙ none
    by false e = refl

no_table : (o : Option Archetype) → is_some o ≡ false → o ≡ None
no_table None h = refl
no_table (Some t) h = absurd (true≢false h)

pub not_standing : {Y : Type 0} (tables : Slab (Held Y)) (last : ℕ) (s : Store) → store_of tables last ≡ s → (k : TableKey) → is_some (standing (slots.get tables k.slot) k.serial) ≡ false → (q : TableKey) → table_at s q ≡ released_at s k q
not_standing tables last s view k h = gone s k (ap (λ v. table_at v k) (sym view) ∙ table_at-slots tables last k ∙ no_table (standing (slots.get tables k.slot) k.serial) h)

serial_of : {Y : Type 0} (x : Held Y) (serial : ℕ) → is_some (standing (Some x) serial) ≡ true → x.value.serial ≡ serial
serial_of x serial h = by (serial == x.value.serial) refl h
  where
    by : (b : Bool) → (serial == x.value.serial) ≡ b → is_some (if b then Some x.value.table else None) ≡ true → x.value.serial ≡ serial
    by true e h = sym ((Decides-eqb serial x.value.serial).0 e)
    by false e h = absurd (true≢false (sym h))

some_ids : (o : Option Archetype) → IsSome o → IsSome (option_map (λ t. t.ids) o)
some_ids None h = h
some_ids (Some t) h = refl

ids_some : (o : Option Archetype) (l : List Id) → option_map (λ t. t.ids) o ≡ Some l → IsSome o
ids_some None l h = absurd (none_is_some l h)
ids_some (Some t) l h = refl

module _ {Y : Type 0} (tables new : Slab (Held Y)) (by_ids named : ByIds Y) (by_serial dated : Vec TableKey Y) (last : ℕ) (kept : IsKept tables by_ids by_serial last)
    (k : TableKey) (x : Held Y) (is : slots.get tables k.slot ≡ Some x) (stands : is_some (standing (slots.get tables k.slot) k.serial) ≡ true) (u : Updates tables new k.slot None) where
  abbrev s : Store
  s = store_of tables last

  abbrev n : Store
  n = store_of new last

  serial : x.value.serial ≡ k.serial
  serial = serial_of x k.serial (subst (λ o. is_some (standing o k.serial) ≡ true) is stands)

  there : table_at s k ≡ Some x.value.table
  there = table_at-slots tables last k ∙ ap (λ o. standing o k.serial) is ∙ ap (λ b. if b then Some x.value.table else None) ((Decides-eqb k.serial x.value.serial).1 (sym serial))

  ids_there : ids_at s k ≡ Some x.value.table.ids
  ids_there = ap (option_map (λ t. t.ids)) there

  taken : (q : TableKey) → table_at n q ≡ released_at s k q
  taken = table_at-released tables new last last k x is u serial

  abbrev Cases : TableKey → Type 0
  Cases q = ((q ≡ k) × (table_at n q ≡ None)) ⊎ ((q ≢ k) × (table_at n q ≡ table_at s q))

  cases : (q : TableKey) → Cases q
  cases q = by (table_eq q k) refl (taken q)
    where
      by : (b : Bool) → table_eq q k ≡ b → table_at n q ≡ (if b then None else table_at s q) → Cases q
      by true e m = inl (same_key q k e, m)
      by false e m = inr (λ h. true≢false (sym (key_eq_true q k h) ∙ e), m)

  seen : (q : TableKey) → q ≢ k → table_at n q ≡ table_at s q
  seen q d = elim (cases q) [ inl e ↦ absurd (d e.0) | inr e ↦ e.1 ]

  -- a table that stands yet stood
  stood : (q : TableKey) → IsSome (table_at n q) → (q ≢ k) × IsSome (table_at s q)
  stood q h = elim (cases q) [ inl e ↦ absurd (true≢false (sym (subst IsSome e.1 h))) | inr e ↦ (e.0, subst IsSome e.1 h) ]

  shape_stood : (q : TableKey) (g : Shape) → shape_at n q ≡ Some g → shape_at s q ≡ Some g
  shape_stood q g e = elim (cases q) [ inl h ↦ absurd (none_is_some g (sym (ap (option_map shape_of) h.1) ∙ e)) | inr h ↦ sym (ap (option_map shape_of) h.1) ∙ e ]

  ids_stood : (q : TableKey) (l : List Id) → ids_at n q ≡ Some l → (q ≢ k) × (ids_at s q ≡ Some l)
  ids_stood q l e = elim (cases q) [ inl h ↦ absurd (none_is_some l (sym (ap (option_map (λ t. t.ids)) h.1) ∙ e)) | inr h ↦ (h.0, sym (ap (option_map (λ t. t.ids)) h.1) ∙ e) ]

  -- what holds of the shape under a key still holds of what is left
  of_shape : (q : TableKey) (P : Shape → Type 0) → IfSome (shape_at s q) P → IfSome (shape_at n q) P
  of_shape q P h = elim (cases q) [ inl e ↦ subst (λ o. IfSome (option_map shape_of o) P) (sym e.1) tt | inr e ↦ subst (λ o. IfSome (option_map shape_of o) P) (sym e.1) h ]

  one : (q r : TableKey) → IsSome (table_at n q) → ids_at n q ≡ ids_at n r → q ≡ r
  one q r h e = let was = stood q h in elim (cases r) [
    | inl b ↦ absurd (true≢false (sym (subst IsSome (e ∙ ap (option_map (λ t. t.ids)) b.1) (some_ids (table_at n q) h))))
    | inr b ↦ kept.store.one_each q r was.1 (sym (ap (option_map (λ t. t.ids)) (seen q was.0)) ∙ e ∙ ap (option_map (λ t. t.ids)) b.1)
  ]

  store_left : IsStore n
  store_left = record {
    one_each = one;
    ascend = λ q. of_shape q (λ f. IsTrue (is_sorted id_cmp f)) (kept.store.ascend q);
    small = λ q. of_shape q (λ f. IsTrue (list_all (λ c. nat_le c.1 64) f)) (kept.store.small q);
    one_size = λ q r f g i a b e h. kept.store.one_size q r f g i a b (shape_stood q f e) (shape_stood r g h);
    serials = λ q h. kept.store.serials q (stood q h).1;
    given_once = λ q r h j. kept.store.given_once q r (stood q h).1 (stood r j).1;
    numbered = λ q h. kept.store.numbered q (stood q h).1;
    listed = listed_in new last;
  }

  -- an edge may lead to the table that is gone
  slot_stays : (y : TableSlot Y) → IsSlot s y → IsSlot n y
  slot_stays y h = record {
    sound = h.sound;
    more = λ i q e. let m = h.more i q e in (m.0, of_shape q (λ g. (b : ℕ) × (g ≡ with_id (shape_of y.table) i b)) m.1);
    less = λ i q e. let m = h.less i q e in (m.0, of_shape q (λ g. g ≡ without_id (shape_of y.table) i) m.1);
  }

  other_slot : (o : Option (Held Y)) → IfSome o (λ z. IsSlot s z.value) → IfSome o (λ z. IsSlot n z.value)
  other_slot None h = tt
  other_slot (Some y) h = slot_stays y.value h

  slots_left : (m : ℕ) → IfSome (slots.get new m) (λ z. IsSlot n z.value)
  slots_left m = by (m == k.slot) refl
    where
      by : (b : Bool) → (m == k.slot) ≡ b → IfSome (slots.get new m) (λ z. IsSlot n z.value)
      by true e = subst (λ o. IfSome o (λ z. IsSlot n z.value)) (sym (ap (slots.get new) ((Decides-eqb m k.slot).0 e) ∙ u.changed)) tt
      by false e = subst (λ o. IfSome o (λ z. IsSlot n z.value)) (sym (u.others m (λ h. true≢false (sym ((Decides-eqb m k.slot).1 h) ∙ e)))) (other_slot (slots.get tables m) (kept.slots m))

  -- the index finds what it found, but for the slot of the table that went
  abbrev KeepsOtherSlots : Type 0
  KeepsOtherSlots = (hash other : ℕ) → other ≢ k.slot → HasSlot by_ids hash other → HasSlot named hash other

  slots_apart : (q : TableKey) → q ≢ k → IsSome (table_at s q) → q.slot ≢ k.slot
  slots_apart q apart there same =
      let held : is_some (standing (Some x) q.serial) ≡ true = subst (λ o. is_some (standing o q.serial) ≡ true) (ap (slots.get tables) same ∙ is) (subst (λ o. is_some o ≡ true) (table_at-slots tables last q) there) in
      let serials : q.serial ≡ k.serial = sym (serial_of x q.serial held) ∙ serial in
      apart (λ i. record { slot = same i; serial = serials i })

  index_left : KeepsOtherSlots → named.hashing ≡ by_ids.hashing → IsIndex n named
  index_left keeps same ids q e =
      let was = ids_stood q ids e in
      subst (λ z. HasSlot named (ids_hash z ids) q.slot) (sym same) (keeps (ids_hash by_ids.hashing ids) q.slot (slots_apart q was.0 (ids_some (table_at s q) ids was.1)) (kept.index ids q was.1))

  order_left : length dated.items ≤ 2 * slab_len new + 1 → (dated.items ≡ by_serial.items) ⊎ (dated.items ≡ filter (is_held new) by_serial.items) → IsOrder n dated.items
  order_left few = order_forgotten s n by_serial.items dated.items (is_held new) kept.order (λ q h. ((stood q h).1, subst (λ o. is_some o ≡ true) (table_at-slots new last q) h)) refl
      (subst (λ m. length dated.items ≤ 2 * m + 1) (sym (as_many new last)) few)

  rows_left : length x.value.table.entities ≡ 0 → (p : Place) → row_at n p ≡ row_at s p
  unfolding row_at
  rows_left empty p = elim (cases p.table) [
    | inl h ↦ ap (option_and_then (λ t. row_of t p.row)) h.1 ∙ sym (ap (option_and_then (λ t. row_of t p.row)) (ap (table_at s) h.0 ∙ there) ∙ row_past x.value.table p.row (omega (arith, empty)))
    | inr h ↦ ap (option_and_then (λ t. row_of t p.row)) h.1
  ]

  pub released_kept : KeepsOtherSlots → named.hashing ≡ by_ids.hashing → length dated.items ≤ 2 * slab_len new + 1 → (dated.items ≡ by_serial.items) ⊎ (dated.items ≡ filter (is_held new) by_serial.items) → IsKept new named dated last
  released_kept keeps same few o = record { store = store_left; slots = slots_left; index = index_left keeps same; order = order_left few o }

  pub released_stored : KeepsOtherSlots → named.hashing ≡ by_ids.hashing → length dated.items ≤ 2 * slab_len new + 1 → (dated.items ≡ by_serial.items) ⊎ (dated.items ≡ filter (is_held new) by_serial.items) → IsStored (store_of new last)
  released_stored keeps same few o = stored new named dated last (released_kept keeps same few o) (store_of new last) refl

  module _ (z : Store) (view : store_of tables last ≡ z) where
    pub released : (q : TableKey) → table_at (store_of new last) q ≡ released_at z k q
    released q = subst (λ w. table_at n q ≡ released_at w k q) view (taken q)

    pub released_empty : rows_in z k ≡ 0 → length x.value.table.entities ≡ 0
    released_empty = subst (λ w. rows_in w k ≡ 0 → length x.value.table.entities ≡ 0) view (λ e. sym (rows_here s k x.value.table there) ∙ e)

    pub released_rows : rows_in z k ≡ 0 → (p : Place) → row_at (store_of new last) p ≡ row_at z p
    released_rows = subst (λ w. rows_in w k ≡ 0 → (p : Place) → row_at n p ≡ row_at w p) view (λ e. rows_left (sym (rows_here s k x.value.table there) ∙ e))
