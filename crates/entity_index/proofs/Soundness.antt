-- The invariant of the fields, after a slot, a place or the heap has changed, and what it keeps of the index.
use Rattle.std.proofs.Common.{◌≡◌, ℕ, ◌+◌, ◌^◌, ◌≤◌, ◌<◌, Bool, true, false, cond, List, [], ◌∷◌, ◌++◌, length, set, Some, None, Option, refl, sym, ap, subst, ◌∙◌, arith, ◌⊎◌, inl, inr, true≢false, IsTrue, IfSome}
use Rattle.std.proofs.lemmas.Bool.{cases_lt, cases_eq}
use Rattle.std.proofs.lemmas.Bool.Decides.{Decides-ltb, nat_tests}
use Rattle.std.proofs.lemmas.Option.{none-some}
use Rattle.std.proofs.lemmas.List.{length-set, length_push, get_or_past}
use Rattle.std.proofs.lemmas.List.Sums.{sum_by_push, count_by-le-length}
use Rattle.std.specs.List.Sorted.{IsPermutation}
use Rattle.std.specs.Ordering.{nat_cmp}
use Rattle.std.specs.BinaryHeap.{heap_items, heap_len, heap_capacity, IsHeap}
use Rattle.std.specs.declared.collections.binary_heap.BinaryHeap.{BinaryHeap}
use Rattle.std.specs.declared.cmp.Reverse.{Reverse}
use Rattle.ecs_id.specs.declared.Place.{Place}
use Rattle.entity_index.specs.declared.slot.EntitySlot.{EntitySlot}
use Rattle.ecs_model.specs.Map.{count_at}
use Rattle.ecs_model.specs.World.{first_index, is_built_in}
use Rattle.entity_index.specs.Entities.{IsWellFormed, is_live}
use Rattle.entity_index.specs.Slots.{unused, slot_at, place_at, generations, generation_of, deletions_of, is_free_slot, is_waiting, meaning, IsSlot, IsSound}
use Rattle.entity_index.proofs.EntryLists.{Changes, Changes-set, Changes-push, is_sorted-entries}
use Rattle.entity_index.proofs.Readings.{generation_found, place_found, count_found, live_found}
use Rattle.entity_index.proofs.WaitingIndexes.{count_in, waiting_parts, free_is_dead, is_waiting-taken, is_waiting-live, HasWaiting-pop, HasWaiting-push, HasWaiting-keep, HasWaiting-extend, free_count, free_count-set, not_free, not_below}

module _ (old new : List EntitySlot) (places new_places : List (Option Place)) (i : ℕ) (s : EntitySlot) (p : Option Place) (change : Changes unused old new i s) (move : Changes None places new_places i p) where
  each-change : ((q : ℕ) → IsSlot q (slot_at old q) (place_at places q)) → IsSlot i s p → (q : ℕ) → IsSlot q (slot_at new q) (place_at new_places q)
  each-change each is q = elim (cases_eq q i) [
    | inl e ↦ subst (λ j. IsSlot j (slot_at new j) (place_at new_places j)) (sym e) (subst (IsSlot i (slot_at new i)) (sym move.changed) (subst (λ t. IsSlot i t p) (sym change.changed) is))
    | inr ne ↦ subst (IsSlot q (slot_at new q)) (sym (move.others q ne)) (subst (λ t. IsSlot q t (place_at places q)) (sym (change.others q ne)) (each q))
  ]

-- a list that stays
pub Changes-stay : (places : List (Option Place)) (i : ℕ) → Changes None places places i (place_at places i)
Changes-stay places i = record { changed = refl; others = λ q ne. refl }

-- what an index has after a change
module _ (i : ℕ) (was : EntitySlot) (p : Option Place) where
  IsSlot-born : first_index ≤ i → is_free_slot was ≡ true → IsSlot i was p → IsSlot i (record was { live = true }) p
  IsSlot-born first free is = record {
    built_in = λ h. absurd (omega arith);
    generation = λ _. (free_is_dead was free).1;
    deleted = is.deleted;
    placed = λ e. absurd (true≢false e);
  }

  IsSlot-deleted : first_index ≤ i → was.live ≡ true → IsSlot i was p → IsSlot i (record { deletions = was.deletions + 1; live = false }) None
  IsSlot-deleted first live is = let below = is.generation live in record {
    built_in = λ h. absurd (omega arith);
    generation = λ e. absurd (true≢false (sym e));
    deleted = omega (arith, below);
    placed = λ _. refl;
  }

  IsSlot-placed : (place : Place) → was.live ≡ true → IsSlot i was p → IsSlot i was (Some place)
  IsSlot-placed place live is = record { built_in = is.built_in; generation = is.generation; deleted = is.deleted; placed = λ e. absurd (true≢false (sym live ∙ e)) }

IsSlot-fresh : (i : ℕ) → first_index ≤ i → IsSlot i (record { deletions = 0; live = true }) None
IsSlot-fresh i first = record { built_in = λ h. absurd (omega arith); generation = λ _. omega arith; deleted = omega arith; placed = λ e. absurd (true≢false e) }

module _ {Z : Type 0} (slots : List EntitySlot) (places : List (Option Place)) (heap : BinaryHeap (Reverse ℕ) Z) (last : ℕ) (sound : IsSound slots places heap last) where
  each_at : (i : ℕ) (was : EntitySlot) → slot_at slots i ≡ was → IsSlot i was (place_at places i)
  each_at i was at = subst (λ t. IsSlot i t (place_at places i)) at (sound.each i)

  module _ (new_heap : BinaryHeap (Reverse ℕ) Z) where
    module _ (i : ℕ) (was : EntitySlot) (at : slot_at slots i ≡ was) (x : Reverse ℕ) (is : x.0 ≡ i) (ordered : IsHeap (λ a b. nat_cmp b.0 a.0) (heap_items new_heap)) where
      -- a slot that waited lives again
      pub IsSound-reuse : is_waiting slots i ≡ true → IsPermutation (heap_items heap) (x ∷ heap_items new_heap)
          → heap_len new_heap + 1 ≡ heap_len heap → heap_capacity new_heap ≡ heap_capacity heap → IsSound (set slots i (record was { live = true })) places new_heap last
      IsSound-reuse waits moved len capacity =
          let s : EntitySlot = record was { live = true } in
          let new = set slots i s in
          let parts = waiting_parts slots i waits in
          let same : length new ≡ length slots = length-set slots i s in
          let change = Changes-set unused slots i s parts.1 in
          let free : is_free_slot was ≡ true = ap is_free_slot (sym at) ∙ parts.2 in
          let count = free_count-set slots i s true false parts.1 parts.2 (not_free s refl) in
          record {
            first = subst (λ n. first_index ≤ n) (sym same) sound.first;
            within = subst (λ n. n ≤ last + 1) (sym same) sound.within;
            least = sound.least;
            range = sound.range;
            paired = sound.paired ∙ sym same;
            each = each-change slots new places places i s (place_at places i) change (Changes-stay places i) sound.each (IsSlot-born i was (place_at places i) parts.0 free (each_at i was at));
            ordered = ordered;
            members = HasWaiting-pop slots new i s change same refl x is (heap_items heap) (heap_items new_heap) moved sound.members;
            room = omega (arith, same, capacity, sound.room);
            few = omega (arith, count, len, sound.few);
          }

      -- a live slot is free, and waits
      pub IsSound-delete : first_index ≤ i → was.live ≡ true → was.deletions + 1 < generations → i < length slots → IsPermutation (x ∷ heap_items heap) (heap_items new_heap)
          → heap_len new_heap ≡ heap_len heap + 1 → heap_capacity heap ≤ heap_capacity new_heap → IsSound (set slots i (record { deletions = was.deletions + 1; live = false })) (set places i None) new_heap last
      IsSound-delete first live fits within moved len capacity =
          let s : EntitySlot = record { deletions = was.deletions + 1; live = false } in
          let new = set slots i s in
          let same : length new ≡ length slots = length-set slots i s in
          let change = Changes-set unused slots i s within in
          let free : is_free_slot s ≡ true = (Decides-ltb (was.deletions + 1) generations).1 fits in
          let count = free_count-set slots i s false true within (ap is_free_slot at ∙ not_free was live) free in
          record {
            first = subst (λ n. first_index ≤ n) (sym same) sound.first;
            within = subst (λ n. n ≤ last + 1) (sym same) sound.within;
            least = sound.least;
            range = sound.range;
            paired = length-set places i None ∙ sound.paired ∙ sym same;
            each = each-change slots new places (set places i None) i s None change (Changes-set None places i None (omega (arith, sound.paired))) sound.each (IsSlot-deleted i was (place_at places i) first live (each_at i was at));
            ordered = ordered;
            members = HasWaiting-push slots new i s change same was at live first within free x is (heap_items heap) (heap_items new_heap) moved sound.members;
            room = omega (arith, same, capacity, sound.room);
            few = omega (arith, count, len, sound.few);
          }

    -- one more slot, of a live entity
    pub IsSound-extend : length slots ≤ last → heap_items new_heap ≡ heap_items heap → heap_len new_heap ≡ heap_len heap → length slots + 1 ≤ heap_capacity new_heap
        → IsSound (slots ++ record { deletions = 0; live = true } ∷ []) (places ++ None ∷ []) new_heap last
    IsSound-extend within items len room =
        let s : EntitySlot = record { deletions = 0; live = true } in
        let grown : length (slots ++ s ∷ []) ≡ length slots + 1 = length_push slots s in
        let count : free_count (slots ++ s ∷ []) ≡ free_count slots + 0 = sum_by_push (λ t. cond (is_free_slot t) 1 0) slots s in
        record {
          first = omega (arith, grown, sound.first);
          within = omega (arith, grown, within);
          least = sound.least;
          range = sound.range;
          paired = omega (arith, grown, length_push places None, sound.paired);
          each = each-change slots (slots ++ s ∷ []) places (places ++ None ∷ []) (length slots) s None (Changes-push unused slots s)
              (subst (λ n. Changes None places (places ++ None ∷ []) n None) sound.paired (Changes-push None places None)) sound.each (IsSlot-fresh (length slots) sound.first);
          ordered = subst (IsHeap (λ a b. nat_cmp b.0 a.0)) (sym items) sound.ordered;
          members = HasWaiting-extend slots s refl (heap_items new_heap) (λ q. ap (λ xs. count_in xs q) items ∙ sound.members q);
          room = omega (arith, grown, room);
          few = omega (arith, count, sound.few, len);
        }

  module _ (i : ℕ) (was : EntitySlot) (at : slot_at slots i ≡ was) (live : was.live ≡ true) (within : i < length slots) where
    -- a live slot is retired
    pub IsSound-retire : first_index ≤ i → generations ≤ was.deletions + 1 → IsSound (set slots i (record { deletions = was.deletions + 1; live = false })) (set places i None) heap last
    IsSound-retire first spent =
        let s : EntitySlot = record { deletions = was.deletions + 1; live = false } in
        let new = set slots i s in
        let same : length new ≡ length slots = length-set slots i s in
        let change = Changes-set unused slots i s within in
        let retired : is_free_slot s ≡ false = not_below (was.deletions + 1) spent in
        let count = free_count-set slots i s false false within (ap is_free_slot at ∙ not_free was live) retired in
        record {
          first = subst (λ n. first_index ≤ n) (sym same) sound.first;
          within = subst (λ n. n ≤ last + 1) (sym same) sound.within;
          least = sound.least;
          range = sound.range;
          paired = length-set places i None ∙ sound.paired ∙ sym same;
          each = each-change slots new places (set places i None) i s None change (Changes-set None places i None (omega (arith, sound.paired))) sound.each (IsSlot-deleted i was (place_at places i) first live (each_at i was at));
          ordered = sound.ordered;
          members = HasWaiting-keep slots new i s change same (heap_items heap) (is_waiting-taken new i (ap is_free_slot change.changed ∙ retired) ∙ sym (is_waiting-live slots i was at live)) sound.members;
          room = omega (arith, same, sound.room);
          few = omega (arith, count, sound.few);
        }

    -- a live slot has another place
    pub IsSound-place : (place : Place) → IsSound slots (set places i (Some place)) heap last
    IsSound-place place = record {
      first = sound.first;
      within = sound.within;
      least = sound.least;
      range = sound.range;
      ordered = sound.ordered;
      members = sound.members;
      room = sound.room;
      few = sound.few;
      paired = length-set places i (Some place) ∙ sound.paired;
      each = each-change slots slots places (set places i (Some place)) i was (Some place) (record { changed = at; others = λ q ne. refl }) (Changes-set None places i (Some place) (omega (arith, sound.paired)))
          sound.each (IsSlot-placed i was (place_at places i) place live (each_at i was at));
    }

    -- the heap has room for one more
    pub room_to_delete : heap_len heap < heap_capacity heap
    room_to_delete =
        let count = free_count-set slots i unused false true within (ap is_free_slot at ∙ not_free was live) refl in
        let most = count_by-le-length is_free_slot (set slots i unused) in
        omega (arith, count, most, length-set slots i unused, sound.room, sound.few)

  -- what an index keeps, from its fields
  pub IsWellFormed-sound : IsWellFormed (meaning slots places last)
  IsWellFormed-sound = record {
    live_rise = is_sorted-entries generation_of 0 slots;
    deletions_rise = is_sorted-entries deletions_of 0 slots;
    places_rise = is_sorted-entries (λ p. p) 0 places;
    last = (sound.least, sound.range);
    given_out = λ i live. given i (cases_lt i first_index) (sym (live_found slots places last i) ∙ live);
    generation = λ i. subst (λ o. IfSome o (λ g. (g ≡ count_at (meaning slots places last).deletions i) × (g < 2 ^ 16))) (sym (generation_found slots places last i)) (by_slot i (slot_at slots i).live refl);
    built_in = λ i is. generation_found slots places last i ∙ first_generation i (first_is i is) is;
    never_deleted = λ i h. count_found slots places last i ∙ ((sound.each i).built_in h).1;
    deleted = λ i. subst (λ n. n ≤ generations) (sym (count_found slots places last i)) (sound.each i).deleted;
    placed = λ i. subst (λ o. IfSome o (λ _. IsTrue (is_live (meaning slots places last) i))) (sym (place_found slots places last i)) (living i (place_at places i) (slot_at slots i).live refl refl);
  }
    where
      given : (i : ℕ) → (i < first_index) ⊎ (first_index ≤ i) → (slot_at slots i).live ≡ true → IsTrue (is_built_in i) ⊎ ((first_index ≤ i) × (i ≤ last))
      given i (inl h) live = inl (sym ((sound.each i).built_in h).0 ∙ live)
      given i (inr h) live = inr (h, used i (cases_lt i (length slots)) live)
        where
          used : (i : ℕ) → (i < length slots) ⊎ (length slots ≤ i) → (slot_at slots i).live ≡ true → i ≤ last
          used i (inl h) live = omega (arith, sound.within)
          used i (inr h) live = absurd (true≢false (sym live ∙ ap (λ s. s.live) (get_or_past slots i unused h)))

      by_slot : (i : ℕ) (b : Bool) → (slot_at slots i).live ≡ b → IfSome (cond (slot_at slots i).live (Some (slot_at slots i).deletions) None) (λ g. (g ≡ count_at (meaning slots places last).deletions i) × (g < 2 ^ 16))
      by_slot i true live = subst (λ b. IfSome (cond b (Some (slot_at slots i).deletions) None) (λ g. (g ≡ count_at (meaning slots places last).deletions i) × (g < 2 ^ 16))) (sym live)
          (sym (count_found slots places last i), (sound.each i).generation live)
      by_slot i false live = subst (λ b. IfSome (cond b (Some (slot_at slots i).deletions) None) (λ g. (g ≡ count_at (meaning slots places last).deletions i) × (g < 2 ^ 16))) (sym live) tt

      first_is : (i : ℕ) → IsTrue (is_built_in i) → i < first_index
      first_is i is = grind (arith, nat_tests)

      first_generation : (i : ℕ) → i < first_index → IsTrue (is_built_in i) → generation_of (slot_at slots i) ≡ Some 0
      first_generation i h is = let parts = (sound.each i).built_in h in (λ k. cond ((parts.0 ∙ is) k) (Some (parts.1 k)) None)

      living : (i : ℕ) (p : Option Place) (b : Bool) → place_at places i ≡ p → (slot_at slots i).live ≡ b → IfSome p (λ _. IsTrue (is_live (meaning slots places last) i))
      living i None b is e = tt
      living i (Some p) true is e = live_found slots places last i ∙ e
      living i (Some p) false is e = absurd (none-some p (sym ((sound.each i).placed e) ∙ is))
