-- What holds of every store, carried over a change.
use Rattle.std.proofs.Common.{◌≡◌, ℕ, ◌≤◌, ◌==◌, Bool, true, false, if◌then◌else◌, List, [], ◌∷◌, Option, Some, None, IsSome, IfSome, map, option_map, option_and_then, slice_get, refl, sym, ap, subst, ◌∙◌, true≢false, arith, length}
use Rattle.std.proofs.lemmas.Bool.Decides.{Decides-eqb}
use Rattle.slab.specs.Slab as slots
use Rattle.slab.specs.Slab.{Slab, Updates}
use Rattle.ecs_id.specs.Id.{Id}
use Rattle.ecs_id.specs.declared.TableKey.{TableKey}
use Rattle.ecs_table.specs.Archetype.{Archetype, IsSound}
use Rattle.table_store.specs.declared.store.TableSlot.{TableSlot}
use Rattle.table_store.specs.Store.{Store, Shape, IsStore, table_at, ids_at, shape_at, shape_of, with_id, without_id, byte_size}
use Rattle.table_store.specs.Rows.{Row, row_at, row_of, HasRows, IsStored, shape_of_cells}
use Rattle.table_store.specs.Kept.{store_of, standing, Held, IsSlot, IsMore, IsLess, IsKept, IsOrder, edge_of}
use Rattle.table_store.proofs.Tables.{HasCells, has_cells}
use Rattle.table_store.proofs.Slots.{table_at-slots}

abbrev pub ids_of : Shape → List Id
ids_of f = map (λ c. c.0) f

pub ids_of_shape : (t : Archetype) (ids : List Id) → ids_of (map (λ i. (i, byte_size t i)) ids) ≡ ids
ids_of_shape t [] = refl
ids_of_shape t (i ∷ ids) = ap (λ l. i ∷ l) (ids_of_shape t ids)

-- the ids are those of the shape
pub ids_in_shape : (o : Option Archetype) → option_map (λ t. t.ids) o ≡ option_map ids_of (option_map shape_of o)
ids_in_shape None = refl
ids_in_shape (Some t) = ap Some (sym (ids_of_shape t t.ids))

some_shape : (o : Option Archetype) → IsSome o → IsSome (option_map shape_of o)
some_shape None h = h
some_shape (Some t) h = h

shape_some : (o : Option Archetype) → IsSome (option_map shape_of o) → IsSome o
shape_some None h = h
shape_some (Some t) h = h

-- a store with the same shapes
module _ (s n : Store) (shapes : (q : TableKey) → shape_at n q ≡ shape_at s q) where
  pub same_ids : (q : TableKey) → ids_at n q ≡ ids_at s q
  same_ids q = ids_in_shape (table_at n q) ∙ ap (option_map ids_of) (shapes q) ∙ sym (ids_in_shape (table_at s q))

  pub still : (q : TableKey) → IsSome (table_at n q) → IsSome (table_at s q)
  still q h = shape_some _ (subst IsSome (shapes q) (some_shape _ h))

  pub before : (q : TableKey) → IsSome (table_at s q) → IsSome (table_at n q)
  before q h = shape_some _ (subst IsSome (sym (shapes q)) (some_shape _ h))

  pub IsStore-shapes : n.last ≡ s.last → ((j : ℕ) → IfSome (slice_get n.tables j) (λ e. table_at n e.0 ≡ Some e.1)) → IsStore s → IsStore n
  IsStore-shapes last listed is = record {
    one_each = λ k q h e. is.one_each k q (still k h) (sym (same_ids k) ∙ e ∙ same_ids q);
    ascend = λ k. rw (shapes k) (is.ascend k);
    small = λ k. rw (shapes k) (is.small k);
    one_size = λ k q f g i a b p r. is.one_size k q f g i a b (sym (shapes k) ∙ p) (sym (shapes q) ∙ r);
    serials = λ k h. rw last (is.serials k (still k h));
    given_once = λ k q h j. is.given_once k q (still k h) (still q j);
    numbered = λ k h. is.numbered k (still k h);
    listed = listed;
  }

  module _ (last : n.last ≡ s.last) where
    more_at : (f g : Shape) → g ≡ f → (i : Id) (k : TableKey) → IsMore s f i k → IsMore n g i k
    more_at f g e i k h = subst (λ v. IsMore n v i k) (sym e) (subst (λ l. k.serial ≤ l) (sym last) h.0, subst (λ o. IfSome o (λ g. (m : ℕ) × (g ≡ with_id f i m))) (sym (shapes k)) h.1)

    less_at : (f g : Shape) → g ≡ f → (i : Id) (k : TableKey) → IsLess s f i k → IsLess n g i k
    less_at f g e i k h = subst (λ v. IsLess n v i k) (sym e) (subst (λ l. k.serial ≤ l) (sym last) h.0, subst (λ o. IfSome o (λ g. g ≡ without_id f i)) (sym (shapes k)) h.1)

  pub IsSlot-shapes : {Y : Type 0} → n.last ≡ s.last → (x y : TableSlot Y) → IsSound y.table → shape_of y.table ≡ shape_of x.table → y.more ≡ x.more → y.less ≡ x.less → IsSlot s x → IsSlot n y
  IsSlot-shapes last x y sound same more less is = record {
    sound = sound;
    more = λ i k h. more_at last (shape_of x.table) (shape_of y.table) same i k (is.more i k (subst (λ m. edge_of m i ≡ Some k) more h));
    less = λ i k h. less_at last (shape_of x.table) (shape_of y.table) same i k (is.less i k (subst (λ m. edge_of m i ≡ Some k) less h));
  }

  pub IsOrder-shapes : n.last ≡ s.last → length n.tables ≡ length s.tables → (keys : List TableKey) → IsOrder s keys → IsOrder n keys
  IsOrder-shapes last many keys is = record {
    has = λ k h. is.has k (still k h);
    given = λ k c. rw last (is.given k c);
    few = omega (arith, many, is.few);
    rising = is.rising;
  }

-- the rows of a table that has cells
rows_of_table : (o : Option Archetype) (r : ℕ) → IfSome o HasCells → IfSome (option_and_then (λ t. row_of t r) o) (λ v. option_map shape_of o ≡ Some (shape_of_cells v.1))
rows_of_table None r h = tt
rows_of_table (Some t) r h = by (row_of t r) (h r)
  where
    by : (v : Option Row) → IfSome v (λ v. shape_of t ≡ shape_of_cells v.1) → IfSome v (λ v. Some (shape_of t) ≡ Some (shape_of_cells v.1))
    by None e = tt
    by (Some v) e = ap Some e

cells_standing : {Y : Type 0} (s : Store) (o : Option (Held Y)) (serial : ℕ) → IfSome o (λ x. IsSlot s x.value) → IfSome (standing o serial) HasCells
cells_standing s None serial h = tt
cells_standing s (Some x) serial h = by (serial == x.value.serial)
  where
    by : (b : Bool) → IfSome (if b then Some x.value.table else None) HasCells
    by true = has_cells x.value.table h.sound
    by false = tt

module _ {Y : Type 0} (tables : Slab (Held Y)) (by_ids : _) (by_serial : _) (last : ℕ) (kept : IsKept {Y = Y} tables by_ids by_serial last) where
  pub HasRows-kept : HasRows (store_of tables last)
  unfolding row_at
  HasRows-kept p = rows_of_table (table_at (store_of tables last) p.table) p.row (subst (λ o. IfSome o HasCells) (sym (table_at-slots tables last p.table)) (cells_standing (store_of tables last) _ p.table.serial (kept.slots p.table.slot)))

  pub stored : (s : Store) → store_of tables last ≡ s → IsStored s
  stored s view = subst IsStored view (kept.store, HasRows-kept)

-- what is found in the slot of a key
module _ {Y : Type 0} (tables : Slab (Held Y)) (last : ℕ) (s : Store) (view : store_of tables last ≡ s) (k : TableKey) where
  at_key : (o : Option (Held Y)) → o ≡ slots.get tables k.slot → table_at s k ≡ standing o k.serial
  at_key o e = subst (λ v. table_at v k ≡ standing o k.serial) view (table_at-slots tables last k ∙ ap (λ x. standing x k.serial) (sym e))

  pub found : (x : Held Y) → Some x ≡ slots.get tables k.slot → (x.value.serial == k.serial) ≡ true → table_at s k ≡ Some x.value.table
  found x e b = at_key (Some x) e ∙ ap (λ t. if t then Some x.value.table else None) ((Decides-eqb k.serial x.value.serial).1 (sym ((Decides-eqb x.value.serial k.serial).0 b)))

  pub of_another : (x : Held Y) → Some x ≡ slots.get tables k.slot → (x.value.serial == k.serial) ≡ false → table_at s k ≡ None
  of_another x e b = at_key (Some x) e ∙ by (k.serial == x.value.serial) refl
    where
      by : (t : Bool) → (k.serial == x.value.serial) ≡ t → (if t then Some x.value.table else None) ≡ None
      by true h = absurd (true≢false (sym ((Decides-eqb x.value.serial k.serial).1 (sym ((Decides-eqb k.serial x.value.serial).0 h))) ∙ b))
      by false h = refl

  pub vacant : None ≡ slots.get tables k.slot → table_at s k ≡ None
  vacant e = at_key None e
