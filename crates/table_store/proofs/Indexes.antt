-- The index from lists of ids to slots: what is found there is a table of these ids, and each table is found.
use Rattle.std.proofs.Common.{◌≡◌, ◌==◌, ℕ, Bool, true, false, if◌then◌else◌, List, Option, Some, None, IfSome, is_some, option_map, refl, sym, ap, ◌∙◌, true≢false}
use Rattle.std.proofs.lemmas.Bool.Decides.{Decides-eqb}
use Rattle.std.proofs.lemmas.Slice.Eq.{slice_eq-Decides}
use Rattle.slab.specs.Slab as slots
use Rattle.slab.specs.Slab.{Slab}
use Rattle.ecs_id.specs.Id.{Id, id_decides}
use Rattle.ecs_id.specs.declared.TableKey.{TableKey}
use Rattle.table_store.specs.Store.{ids_at}
use Rattle.table_store.specs.ByIds.{Held, has_ids, holds_ids, ids_eq}
use Rattle.table_store.specs.Kept.{standing, store_of}
use Rattle.table_store.proofs.Slots.{none_is_some, one_some, table_at-slots}

ids_same : (xs ys : List Id) → ids_eq xs ys ≡ true → xs ≡ ys
ids_same xs ys e = (slice_eq-Decides id_decides xs ys (ids_eq xs ys) refl).0 e

ids_eq_true : (xs ys : List Id) → xs ≡ ys → ids_eq xs ys ≡ true
ids_eq_true xs ys e = (slice_eq-Decides id_decides xs ys (ids_eq xs ys) refl).1 e

module _ {Y : Type 0} where
  -- the ids of the table of a slot, if it has this serial
  abbrev ids_held : Option (Held Y) → ℕ → Option (List Id)
  ids_held o serial = option_map (λ t. t.ids) (standing o serial)

  here : (o : Option (Held Y)) (ids : List Id) (serial : ℕ) → holds_ids ids o ≡ true → IfSome o (λ x. serial ≡ x.value.serial) → ids_held o serial ≡ Some ids
  here None ids serial h e = absurd (true≢false (sym h))
  here (Some x) ids serial h e = ap (λ b. option_map (λ t. t.ids) (if b then Some x.value.table else None)) ((Decides-eqb serial x.value.serial).1 e) ∙ ap Some (ids_same x.value.table.ids ids h)

  held : (o : Option (Held Y)) (ids : List Id) (serial : ℕ) → ids_held o serial ≡ Some ids → holds_ids ids o ≡ true
  held None ids serial h = absurd (none_is_some ids h)
  held (Some x) ids serial h = by (serial == x.value.serial) h
    where
      by : (b : Bool) → option_map (λ t. t.ids) (if b then Some x.value.table else None) ≡ Some ids → ids_eq x.value.table.ids ids ≡ true
      by true e = ids_eq_true x.value.table.ids ids (one_some x.value.table.ids ids e)
      by false e = absurd (none_is_some ids e)

  pub some_held : (o : Option (Held Y)) (ids : List Id) → holds_ids ids o ≡ true → is_some o ≡ true
  some_held None ids h = h
  some_held (Some x) ids h = refl

  module _ (tables : Slab (Held Y)) (last : ℕ) where
    -- the table of a slot that has these ids, under the key of the slot
    pub ids_found : (k : TableKey) (ids : List Id) → has_ids tables ids k.slot ≡ true → IfSome (slots.get tables k.slot) (λ x. k.serial ≡ x.value.serial) → ids_at (store_of tables last) k ≡ Some ids
    ids_found k ids h e = ap (option_map (λ t. t.ids)) (table_at-slots tables last k) ∙ here (slots.get tables k.slot) ids k.serial h e

    -- the slot of a table has its ids
    pub slot_has_ids : (k : TableKey) (ids : List Id) → ids_at (store_of tables last) k ≡ Some ids → has_ids tables ids k.slot ≡ true
    slot_has_ids k ids e = held (slots.get tables k.slot) ids k.serial (sym (ap (option_map (λ t. t.ids)) (table_at-slots tables last k)) ∙ e)
