-- A store without tables.
use Rattle.std.proofs.Common.{◌≡◌, ℕ, suc, zero, Bool, false, List, [], Option, Some, None, IsSome, IfSome, is_some, option_map, slice_index_or, slice_get, refl, sym, ap, subst, ◌∙◌, true≢false, arith}
use Rattle.std.specs.List.Sorted.{IsStrictlySortedBy}
use Rattle.std.specs.declared.vec.Vec.{Vec}
use Rattle.slab.specs.Slab as slots
use Rattle.slab.specs.Slab.{Slab}
use Rattle.ecs_id.specs.declared.TableKey.{TableKey}
use Rattle.table_store.specs.Store.{Store, shape_at, table_at}
use Rattle.table_store.specs.Kept.{AreInTurn, AreMarked, ByIds, Held, is_filled, store_of, standing, tables_from, IsKept, IsOrder, IsSlot}
use Rattle.table_store.proofs.Slots.{none_is_some, table_at-slots}
use Rattle.table_store.proofs.TableCounts.{nothing_at}

get_nil : {X : Type 0} (n : ℕ) → slice_get {X = X} [] n ≡ None
get_nil zero = refl
get_nil (suc n) = refl

if_none : {X : Type 0} (o : Option X) (P : X → Type 0) → o ≡ None → IfSome o P
if_none None P e = tt
if_none (Some x) P e = absurd (none_is_some x (sym e))

-- a store at its beginning
module _ {Y : Type 0} (tables : Slab (Held Y)) (by_ids : ByIds Y) (by_serial : Vec TableKey Y) (no_slots : tables.slots ≡ []) (no_serials : by_serial.items ≡ []) where
  abbrev s : Store
  s = store_of tables 0

  vacant : (n : ℕ) → slots.get tables n ≡ None
  vacant n = ap (λ l. slice_index_or l n None) no_slots ∙ nothing_at n None

  none_at : (k : TableKey) → table_at s k ≡ None
  none_at k = table_at-slots tables 0 k ∙ ap (λ o. standing o k.serial) (vacant k.slot)

  absent : (k : TableKey) → IsSome (table_at s k) → ⊥
  absent k h = true≢false (sym (sym (ap is_some (none_at k)) ∙ h))

  no_shape : (k : TableKey) → shape_at s k ≡ None
  no_shape k = ap (Rattle.std.specs.Prelude.option_map Rattle.table_store.specs.Store.shape_of) (none_at k)

  no_keys : IsOrder s []
  unfolding IsStrictlySortedBy
  no_keys = record { has = λ k h. absurd (absent k h); given = λ k c. absurd (omega (arith, c.1)); few = omega arith; rising = tt }

  pub empty_marked : (filled : List Bool) → filled ≡ [] → AreMarked tables filled
  empty_marked filled none = record {
    within = λ n h. absurd (true≢false (sym (sym (ap is_some (vacant n)) ∙ h)));
    told = λ n. ap (λ l. slice_index_or l n false) none ∙ nothing_at n false ∙ ap is_filled (sym (vacant n));
  }

  pub empty_turns : (in_turn : List Bool) → in_turn ≡ [] → AreInTurn tables in_turn
  empty_turns in_turn none = record {
    within = λ n h. absurd (true≢false (sym (sym (ap (λ o. is_some (option_map (λ (x : Held Y). x.value.serial) o)) (vacant n)) ∙ h)));
    follow = λ n m next is. absurd (true≢false (sym is ∙ ap (λ l. slice_index_or l m false) none ∙ nothing_at m false));
  }

  pub empty_kept : IsKept tables by_ids by_serial 0
  empty_kept = record {
    store = record {
      one_each = λ k q h e. absurd (absent k h);
      ascend = λ k. if_none _ _ (no_shape k);
      small = λ k. if_none _ _ (no_shape k);
      one_size = λ k q f g i a b e h. absurd (none_is_some f (sym (no_shape k) ∙ e));
      serials = λ k h. absurd (absent k h);
      given_once = λ k q h j e. absurd (absent k h);
      numbered = λ k h. absurd (absent k h);
      listed = λ j. if_none _ _ (ap (λ l. slice_get (tables_from 0 l) j) no_slots ∙ get_nil j);
    };
    slots = λ n. subst (λ o. IfSome o (λ z. IsSlot s z.value)) (sym (vacant n)) tt;
    index = λ ids k h. absurd (none_is_some ids (sym (ap (Rattle.std.specs.Prelude.option_map (λ t. t.ids)) (none_at k)) ∙ h));
    order = subst (IsOrder s) (sym no_serials) no_keys;
  }
