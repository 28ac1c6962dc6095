-- Slots whose tables have serials one after another, before and after a call.
use Rattle.std.proofs.Common.{◌≡◌, ◌≢◌, ℕ, suc, zero, ◌+◌, ◌<◌, Bool, true, false, if◌then◌else◌, List, Option, Some, None, IsSome, is_some, length, set, slice_index_or, option_map, unwrap_or, inl, inr, refl, sym, ap, subst, ◌∙◌, true≢false, arith}
use Rattle.std.proofs.lemmas.Bool.{cases_eq}
use Rattle.std.proofs.lemmas.Bool.Decides.{Decides-eqb}
use Rattle.std.proofs.lemmas.Grind.{get_or-set_at}
use Rattle.std.proofs.lemmas.List.{get_or-set_other, length-set}
use Rattle.slab.specs.Slab as slots
use Rattle.slab.specs.Slab.{Slab, Updates, with_value}
use Rattle.slab.proofs.SlabLemmas.{Updates-with_value}
use Rattle.ecs_id.specs.declared.TableKey.{TableKey}
use Rattle.table_store.specs.Store.{Store, table_at}
use Rattle.table_store.specs.Kept.{AreInTurn, Follows, Held, IsLonger, IsTurnNoted, serial_at, standing, store_of}
use Rattle.table_store.proofs.Changes.{the_slot, there}
use Rattle.table_store.proofs.Slots.{table_at-slots}

no_follower : (o : Option ℕ) → Follows o None → ⊥
no_follower None h = h
no_follower (Some m) h = h

follower : (m : ℕ) (o : Option ℕ) → Follows (Some m) o → o ≡ Some (m + 1)
follower m None h = absurd h
follower m (Some n) h = ap Some h

abbrev serial_in : {Y : Type 0} → Option (Held Y) → Option ℕ
serial_in o = option_map (λ x. x.value.serial) o

-- the slots have the serials that they had
pub turns_alike : {Y : Type 0} (tables new : Slab (Held Y)) (in_turn : List Bool) → AreInTurn tables in_turn → ((n : ℕ) → serial_at new n ≡ serial_at tables n) → AreInTurn new in_turn
turns_alike tables new in_turn turns same = record {
  within = λ n h. turns.within n (subst IsSome (same n) h);
  follow = λ n m next is. subst (λ o. Follows o (serial_at new m)) (sym (same n)) (subst (Follows (serial_at tables n)) (sym (same m)) (turns.follow n m next is));
}

-- the bits are these
pub turns_as : {Y : Type 0} (tables : Slab (Held Y)) (was now : List Bool) → now ≡ was → AreInTurn tables was → AreInTurn tables now
turns_as tables was now same turns = subst (AreInTurn tables) (sym same) turns

-- one slot is another, of the same serial
pub turns_updated : {Y : Type 0} (tables new : Slab (Held Y)) (k : ℕ) (x y : Held Y) → slots.get tables k ≡ Some x → Updates tables new k (Some y) → y.value.serial ≡ x.value.serial → (in_turn : List Bool) → AreInTurn tables in_turn → AreInTurn new in_turn
turns_updated tables new k x y is u serial in_turn turns = turns_alike tables new in_turn turns (λ n.
    elim (cases_eq n k) [
      | inl same ↦ ap serial_in (ap (slots.get new) same ∙ u.changed) ∙ ap Some serial ∙ ap serial_in (sym (ap (slots.get tables) same ∙ is))
      | inr other ↦ ap serial_in (u.others n other)
    ])

pub turns_written : {Y : Type 0} (tables : Slab (Held Y)) (k : ℕ) (x : Held Y) → slots.get tables k ≡ Some x → (in_turn : List Bool) → AreInTurn tables in_turn → (y : Held Y) → y.value.serial ≡ x.value.serial → AreInTurn (with_value tables k y) in_turn
turns_written tables k x is in_turn turns y serial = turns_updated tables (with_value tables k y) k x y is (Updates-with_value tables k y (subst IsSome (sym is) refl)) serial in_turn turns

-- there is room for more, and more slots have a bit
pub turns_grown : {Y : Type 0} (tables grown : Slab (Held Y)) → grown.slots ≡ tables.slots → (in_turn bits : List Bool) → IsLonger in_turn bits → AreInTurn tables in_turn → AreInTurn grown bits
turns_grown tables grown alike in_turn bits longer turns = record {
  within = λ n h. let was = turns.within n (subst (λ l. IsSome (serial_in (slice_index_or l n None))) alike h) in let more = longer.longer in omega (arith, was, more);
  follow = λ n m next is. subst (λ l. Follows (serial_in (slice_index_or l n None)) (serial_in (slice_index_or l m None))) (sym alike) (turns.follow n m next (sym (longer.same m) ∙ is));
}

-- the slot of a table has its bit, and the next one too
pub released_room : {Y : Type 0} (tables : Slab (Held Y)) (k : ℕ) (x : Held Y) → slots.get tables k ≡ Some x → (in_turn : List Bool) → AreInTurn tables in_turn → k + 1 < length in_turn
released_room tables k x is in_turn turns = turns.within k (subst IsSome (sym (ap serial_in is)) refl)

-- a table is taken out
module _ {Y : Type 0} (tables new : Slab (Held Y)) (k : ℕ) (u : Updates tables new k None) (in_turn : List Bool) (turns : AreInTurn tables in_turn) (room : k + 1 < length in_turn) where
  abbrev once : List Bool
  once = set in_turn k false

  abbrev twice : List Bool
  twice = set once (k + 1) false

  stays : (n : ℕ) → n ≢ k → serial_at new n ≡ serial_at tables n
  stays n other = ap serial_in (u.others n other)

  not_here : (n m : ℕ) → m ≡ n + 1 → slice_index_or twice m false ≡ true → (n ≢ k) × (m ≢ k) × (slice_index_or in_turn m false ≡ true)
  not_here n m next is =
      let behind : m ≢ k + 1 = λ e. true≢false (sym is ∙ get_or-set_at once (k + 1) m false false e (subst (λ l. k + 1 < l) (sym (length-set in_turn k false)) room)) in
      let before : slice_index_or once m false ≡ true = sym (get_or-set_other once (k + 1) m false false behind) ∙ is in
      let here : m ≢ k = λ e. true≢false (sym before ∙ get_or-set_at in_turn k m false false e (omega (arith, room))) in
      ((λ e. behind (omega (arith, next, e))), here, sym (get_or-set_other in_turn k m false false here) ∙ before)

  pub turns_released : AreInTurn new twice
  turns_released = record {
    within = λ n h. elim (cases_eq n k) [
      | inl same ↦ absurd (true≢false (sym (subst IsSome (ap serial_in (ap (slots.get new) same ∙ u.changed)) h)))
      | inr other ↦ subst (λ l. n + 1 < l) (sym (length-set once (k + 1) false ∙ length-set in_turn k false)) (turns.within n (subst IsSome (stays n other) h))
    ];
    follow = λ n m next is.
        let told = not_here n m next is in
        subst (λ o. Follows o (serial_at new m)) (sym (stays n told.0)) (subst (Follows (serial_at tables n)) (sym (stays m told.1)) (turns.follow n m next told.2));
  }

-- a table comes into a slot that had none
module _ {Y : Type 0} (tables new : Slab (Held Y)) (k : ℕ) (y : Held Y) (free : slots.get tables k ≡ None) (u : Updates tables new k (Some y)) (in_turn : List Bool) (turns : AreInTurn tables in_turn) (room : k + 1 < length in_turn) where
  none_there : serial_at tables k ≡ None
  none_there = ap serial_in free

  follow_on : (n m : ℕ) → Follows (serial_at tables n) (serial_at tables m) → Follows (serial_at new n) (serial_at new m)
  follow_on n m was =
      let here : n ≢ k = λ e. subst (λ o. Follows o (serial_at tables m)) (ap (serial_at tables) e ∙ none_there) was in
      let there : m ≢ k = λ e. no_follower (serial_at tables n) (subst (Follows (serial_at tables n)) (ap (serial_at tables) e ∙ none_there) was) in
      subst (λ o. Follows o (serial_at new m)) (sym (ap serial_in (u.others n here))) (subst (Follows (serial_at tables n)) (sym (ap serial_in (u.others m there))) was)

  pub turns_made : AreInTurn new in_turn
  turns_made = record {
    within = λ n h. elim (cases_eq n k) [
      | inl same ↦ omega (arith, room, same)
      | inr other ↦ turns.within n (subst IsSome (ap serial_in (u.others n other)) h)
    ];
    follow = λ n m next is. follow_on n m (turns.follow n m next is);
  }

-- and its bit may be set
pub turns_noted : {Y : Type 0} (tables : Slab (Held Y)) (key : TableKey) (old new : List Bool) → AreInTurn tables old → key.slot < length old → serial_at tables key.slot ≡ Some key.serial → IsTurnNoted tables key old new → AreInTurn tables new
turns_noted tables key old new turns within is (inl same) = subst (AreInTurn tables) (sym same) turns
turns_noted tables key old new turns within is (inr noted) = subst (AreInTurn tables) (sym noted.0) (record {
  within = λ n h. subst (λ l. n + 1 < l) (sym (length-set old key.slot true)) (turns.within n h);
  follow = λ n m next is_set. elim (cases_eq m key.slot) [
    | inl same ↦ subst (Follows (serial_at tables n)) (sym (ap (serial_at tables) same ∙ is)) (noted.1 n (sym same ∙ next))
    | inr other ↦ turns.follow n m next (sym (get_or-set_other old key.slot m true false other) ∙ is_set)
  ];
})

-- ---- tables that stand one after another
serial_stands : {Y : Type 0} (o : Option (Held Y)) (serial : ℕ) → serial_in o ≡ Some serial → IsSome (standing o serial)
serial_stands None serial e = absurd (true≢false (sym (ap is_some e)))
serial_stands (Some x) serial e = ap (λ b. is_some (if b then Some x.value.table else None)) ((Decides-eqb serial x.value.serial).1 (sym (ap (λ o. unwrap_or o serial) e)))

module _ {Y : Type 0} (tables : Slab (Held Y)) (last : ℕ) (s : Store) (view : store_of tables last ≡ s) (in_turn : List Bool) (turns : AreInTurn tables in_turn) (first : TableKey) (stands : IsSome (table_at s first)) (width : ℕ)
    (told : (n : ℕ) → n + 1 < width → slice_index_or in_turn (first.slot + (n + 1)) false ≡ true) where
  serials : (n : ℕ) → n < width → serial_at tables (first.slot + n) ≡ Some (first.serial + n)
  serials zero low =
      let t = there (table_at s first) stands in
      let x = the_slot tables last s view first t.0 t.1 in
      let slot : first.slot + 0 ≡ first.slot = omega arith in
      let serial : first.serial ≡ first.serial + 0 = omega arith in
      ap (serial_at tables) slot ∙ ap serial_in x.1 ∙ ap Some (x.2 ∙ serial)
  serials (suc n) low =
      let more : n + 1 ≡ suc n = omega arith in
      let bit : slice_index_or in_turn (first.slot + suc n) false ≡ true = ap (λ j. slice_index_or in_turn (first.slot + j) false) (sym more) ∙ told n (omega (arith, low)) in
      let serial : first.serial + n + 1 ≡ first.serial + suc n = omega arith in
      follower (first.serial + n) (serial_at tables (first.slot + suc n)) (subst (λ o. Follows o (serial_at tables (first.slot + suc n))) (serials n (omega (arith, low))) (turns.follow (first.slot + n) (first.slot + suc n) (omega arith) bit))
      ∙ ap Some serial

  pub stand_in_turn : (n : ℕ) → n < width → IsSome (table_at s (record { slot = first.slot + n; serial = first.serial + n }))
  stand_in_turn n low =
      let key : TableKey = record { slot = first.slot + n; serial = first.serial + n } in
      subst IsSome (sym (table_at-slots tables last key) ∙ ap (λ v. table_at v key) view) (serial_stands (slots.get tables (first.slot + n)) (first.serial + n) (serials n low))
