-- An index of the built-in entities alone.
use Rattle.std.proofs.Common.{◌≡◌, ℕ, zero, suc, ◌^◌, ◌≤◌, ◌<◌, Bool, true, false, cond, ◌&&◌, List, [], map, length, None, refl, sym, ap, subst, ◌∙◌, arith, inl, inr, ltb, leb, replicate, Option}
use Rattle.std.proofs.lemmas.Bool.{cases_lt}
use Rattle.std.proofs.lemmas.Bool.Decides.{nat_tests}
use Rattle.std.proofs.lemmas.List.{get_or_past}
use Rattle.std.proofs.lemmas.List.FromFn.{get_or-map-range_with_len, length-map-range_with_len}
use Rattle.std.specs.List.{range_with_len}
use Rattle.std.specs.Ordering.{nat_cmp}
use Rattle.std.specs.BinaryHeap.{heap_items, heap_len, heap_capacity, IsHeap}
use Rattle.std.specs.declared.collections.binary_heap.BinaryHeap.{BinaryHeap}
use Rattle.std.specs.declared.cmp.Reverse.{Reverse}
use Rattle.ecs_id.specs.declared.Place.{Place}
use Rattle.entity_index.specs.declared.slot.EntitySlot.{EntitySlot}
use Rattle.ecs_model.specs.World.{first_index}
use Rattle.entity_index.specs.Entities.{built_in_entities}
use Rattle.entity_index.specs.Slots.{unused, slot_at, place_at, first_slot, is_free_slot, meaning, IsSlot, IsSound}
use Rattle.entity_index.proofs.WaitingIndexes.{count_in}

abbrev first_slots : List EntitySlot
first_slots = map first_slot (range_with_len 0 64)

abbrev first_places : List (Option Place)
first_places = replicate 64 None

pub meaning-first : (last : ℕ) (slots : List EntitySlot) (places : List (Option Place)) → slots ≡ map first_slot (range_with_len 0 64) → places ≡ replicate 64 None → meaning slots places last ≡ built_in_entities last
meaning-first last slots places e f = λ k. meaning (e k) (f k) last

-- no place stands there
no_place : (n i : ℕ) → place_at (replicate n None) i ≡ None
no_place zero i = refl
no_place (suc n) zero = refl
no_place (suc n) (suc i) = no_place n i

first_length : length first_slots ≡ 64
first_length = length-map-range_with_len first_slot 0 64

IsSlot-first : (i : ℕ) → IsSlot i (slot_at first_slots i) None
IsSlot-first i = elim (cases_lt i 64) [
  | inl h ↦ subst (λ s. IsSlot i s None) (sym (get_or-map-range_with_len first_slot 0 64 i i unused h (omega arith)))
      (record { built_in = λ _. (refl, refl); generation = λ _. omega arith; deleted = omega arith; placed = λ _. refl })
  | inr h ↦ subst (λ s. IsSlot i s None) (sym (get_or_past first_slots i unused (omega (arith, first_length))))
      (record { built_in = λ below. absurd (omega arith); generation = λ _. omega arith; deleted = omega arith; placed = λ _. refl })
]

not_waiting : (i n : ℕ) (b : Bool) → n ≡ 64 → (leb first_index i && (ltb i n && b)) ≡ false
not_waiting i n true e = grind (arith, nat_tests)
not_waiting i n false e = grind (arith, nat_tests)

pub IsSound-first : {Z : Type 0} (slots : List EntitySlot) (places : List (Option Place)) (heap : BinaryHeap (Reverse ℕ) Z) (last : ℕ) → slots ≡ map first_slot (range_with_len 0 64) → places ≡ replicate 64 None
    → first_index ≤ last → last < 2 ^ 24 → heap_items heap ≡ [] → heap_len heap ≡ 0 → 64 ≤ heap_capacity heap → IsHeap (λ x y. nat_cmp y.0 x.0) (heap_items heap) → IsSound slots places heap last
IsSound-first slots places heap last e f least range empty len room ordered =
    let n : length slots ≡ 64 = ap length e ∙ first_length in
    record {
      first = omega (arith, n);
      within = omega (arith, n);
      least = least;
      range = range;
      paired = ap length f ∙ sym n;
      each = λ i. subst (λ xs. IsSlot i (slot_at slots i) (place_at xs i)) (sym f) (subst (IsSlot i (slot_at slots i)) (sym (no_place 64 i)) (subst (λ xs. IsSlot i (slot_at xs i) None) (sym e) (IsSlot-first i)));
      ordered = ordered;
      members = λ i. ap (λ xs. count_in xs i) empty ∙ ap (λ b. cond b 1 0) (sym (not_waiting i (length slots) (is_free_slot (slot_at slots i)) n));
      room = omega (arith, n, room);
      few = omega (arith, len);
    }
