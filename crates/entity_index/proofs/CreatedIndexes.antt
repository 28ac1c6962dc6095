-- What `create` does to the fields: an index that waits lives again, or the next fresh one gets a slot.
use Rattle.std.proofs.Common.{◌≡◌, ◌↔◌, ℕ, ◌+◌, ◌≤◌, ◌<◌, true, false, List, [], ◌∷◌, ◌++◌, length, set, get_or, Option, Some, None, Result, Ok, Err, refl, sym, ap, subst, ◌∙◌, arith}
use Rattle.std.proofs.lemmas.Option.{none-some}
use Rattle.std.proofs.lemmas.List.{get_or_default, get_or_past}
use Rattle.std.specs.Result.{IsErrOf, IsErrAnd}
use Rattle.std.specs.List.Sorted.{IsPermutation}
use Rattle.std.specs.Ordering.{nat_cmp}
use Rattle.std.specs.BinaryHeap.{heap_items, heap_len, heap_capacity, PopsGreatest}
use Rattle.std.specs.declared.collections.binary_heap.BinaryHeap.{BinaryHeap}
use Rattle.std.specs.declared.cmp.Reverse.{Reverse}
use Rattle.ecs_id.specs.declared.EntityId.{EntityId}
use Rattle.ecs_id.specs.declared.Place.{Place}
use Rattle.entity_index.specs.declared.index.CreateError.{CreateError}
use Rattle.entity_index.specs.declared.index.CreateError.TheVariants.{Full, Memory}
use Rattle.entity_index.specs.declared.slot.EntitySlot.{EntitySlot}
use Rattle.entity_index.specs.Entities.{Entities, next_entity, with_entity, place_of, IsNext, IsWellFormed}
use Rattle.entity_index.specs.Slots.{unused, generations, slot_at, place_at, is_free_slot, is_waiting, meaning, IsSound}
use Rattle.entity_index.proofs.EntryLists.{Changes, Changes-set, Changes-push}
use Rattle.entity_index.proofs.Meanings.{meaning-born}
use Rattle.entity_index.proofs.NextEntity.{next-least, next-fresh, next-none, popped_waits, none_waits, none_waits_below}
use Rattle.entity_index.proofs.Soundness.{IsSound-reuse, IsSound-extend, IsWellFormed-sound, Changes-stay}
use Rattle.entity_index.proofs.NextLaws.{place_of-born}
use Rattle.entity_index.proofs.WaitingIndexes.{waiting_parts, free_is_dead}

-- an index comes out of the heap
module _ {Z : Type 0} (slots : List EntitySlot) (places : List (Option Place)) (heap rest : BinaryHeap (Reverse ℕ) Z) (last : ℕ) (sound : IsSound slots places heap last) (x : Reverse ℕ)
    (moved : IsPermutation (heap_items heap) (x ∷ heap_items rest)) (order : PopsGreatest (λ a b. nat_cmp b.0 a.0) (heap_items heap) x (heap_items rest)) where
  waits : is_waiting slots x.0 ≡ true
  waits = popped_waits slots (heap_items heap) sound.members x (heap_items rest) moved

  pub popped_within : x.0 < length slots
  popped_within = (waiting_parts slots x.0 waits).1

  module _ (s : EntitySlot) (is : s ≡ get_or slots x.0 s) where
    at : slot_at slots x.0 ≡ s
    at = sym (is ∙ get_or_default slots x.0 s unused popped_within)

    pub popped_fits : s.deletions < generations
    popped_fits = (free_is_dead s (ap is_free_slot (sym at) ∙ (waiting_parts slots x.0 waits).2)).1

    pub popped_next : next_entity (meaning slots places last) ≡ Some (record { index = x.0; generation = s.deletions })
    popped_next = next-least slots places last sound.least sound.first sound.within x.0 s at waits (none_waits_below slots (heap_items heap) sound.members x (order sound.ordered).1)

    pub popped_born : meaning (set slots x.0 (record s { live = true })) places last ≡ with_entity (meaning slots places last) (record { index = x.0; generation = s.deletions })
    popped_born = meaning-born slots (set slots x.0 (record s { live = true })) places last x.0 s at places (Changes-set unused slots x.0 (record s { live = true }) popped_within) (Changes-stay places x.0)

    pub popped_sound : heap_len rest + 1 ≡ heap_len heap → heap_capacity rest ≡ heap_capacity heap → IsSound (set slots x.0 (record s { live = true })) places rest last
    popped_sound len capacity = IsSound-reuse slots places heap last sound rest x.0 s at x refl (order sound.ordered).0 waits moved len capacity

-- the heap is empty
module _ {Z : Type 0} (slots : List EntitySlot) (places : List (Option Place)) (heap : BinaryHeap (Reverse ℕ) Z) (last : ℕ) (sound : IsSound slots places heap last) (empty : heap_len heap ≡ 0) where
  none : (q : ℕ) → is_waiting slots q ≡ false
  none = none_waits slots (heap_items heap) sound.members (sym heap.data.ok.0 ∙ empty)

  module _ (n : ℕ) (len : length slots ≡ n) where
    pub fresh_next : n ≤ last → next_entity (meaning slots places last) ≡ Some (record { index = n; generation = 0 })
    fresh_next room =
        let entity : ℕ → EntityId = λ i. record { index = i; generation = 0 } in
        next-fresh slots places last sound.least sound.first sound.within none (omega (arith, len)) ∙ ap (λ i. Some (entity i)) len

    pub fresh_none : last < n → next_entity (meaning slots places last) ≡ None
    fresh_none full = next-none slots places last sound.least sound.first sound.within none (omega (arith, len))

    pub fresh_born : (new : List EntitySlot) (new_places : List (Option Place)) → new ≡ slots ++ record { deletions = 0; live = true } ∷ [] → new_places ≡ places ++ None ∷ []
        → meaning new new_places last ≡ with_entity (meaning slots places last) (record { index = n; generation = 0 })
    fresh_born new new_places e f =
        let s : EntitySlot = record { deletions = 0; live = true } in
        let entity : ℕ → EntityId = λ i. record { index = i; generation = 0 } in
        let past : place_at places (length slots) ≡ None = get_or_past places (length slots) None (omega (arith, sound.paired)) in
        let stays = subst (λ m. Changes None places (places ++ None ∷ []) m (place_at places (length slots))) sound.paired
        (subst (Changes None places (places ++ None ∷ []) (length places)) (sym past) (Changes-push None places None)) in
        (λ k. meaning (e k) (f k) last)
        ∙ meaning-born slots (slots ++ s ∷ []) places last (length slots) unused (get_or_past slots (length slots) unused (omega arith)) (places ++ None ∷ []) (Changes-push unused slots s) stays
        ∙ ap (λ i. with_entity (meaning slots places last) (entity i)) len

    -- one more slot and place, and room for them in the heap
    pub fresh_well : (new_heap : BinaryHeap (Reverse ℕ) Z) → n ≤ last → heap_items new_heap ≡ heap_items heap → heap_len new_heap ≡ heap_len heap → n + 1 ≤ heap_capacity new_heap
        → (new : List EntitySlot) (new_places : List (Option Place)) → new ≡ slots ++ record { deletions = 0; live = true } ∷ [] → new_places ≡ places ++ None ∷ [] → IsWellFormed (meaning new new_places last)
    fresh_well new_heap within items count room new new_places e f =
        let grown = IsSound-extend slots places heap last sound new_heap (omega (arith, len)) items count (omega (arith, len, room)) in
        subst (λ xs. IsWellFormed (meaning xs new_places last)) (sym e) (subst (λ ps. IsWellFormed (meaning (slots ++ record { deletions = 0; live = true } ∷ []) ps last)) (sym f)
        (IsWellFormed-sound (slots ++ record { deletions = 0; live = true } ∷ []) (places ++ None ∷ []) new_heap last grown))

-- a refused growth leaves the slots and the places
pub refused_well : {Z : Type 0} (slots new : List EntitySlot) (places new_places : List (Option Place)) (heap : BinaryHeap (Reverse ℕ) Z) (last : ℕ) → IsSound slots places heap last → new ≡ slots → new_places ≡ places
    → IsWellFormed (meaning new new_places last)
refused_well slots new places new_places heap last sound e f =
    subst (λ xs. IsWellFormed (meaning xs new_places last)) (sym e) (subst (λ ps. IsWellFormed (meaning slots ps last)) (sym f) (IsWellFormed-sound slots places heap last sound))

-- a new entity has no place
pub no_place_after : (w new : Entities) (e : EntityId) → new ≡ with_entity w e → IsWellFormed w → IsNext w e → place_of new e ≡ None
no_place_after w new e born well next = ap (λ v. place_of v e) born ∙ place_of-born w e well next

-- when the answer is Full
module _ (next : Option EntityId) where
  pub full_is_none : next ≡ None → (r : Result EntityId CreateError) → r ≡ Err Full → IsErrOf r Full ↔ (next ≡ None)
  full_is_none none r is = (λ _. none, λ _. subst (λ a. IsErrOf a Full) (sym is) refl)

  pub ok_is_some : (e x : EntityId) → next ≡ Some e → (r : Result EntityId CreateError) → r ≡ Ok x → IsErrOf r Full ↔ (next ≡ None)
  ok_is_some e x some r is = (λ h. absurd (let p : ◌≡◌ {A = Result EntityId CreateError} (Ok x) (Err Full) = sym is ∙ h in cc), λ none. absurd (none-some e (sym none ∙ some)))

  pub memory_is_some : (e : EntityId) → next ≡ Some e → (r : Result EntityId CreateError) → IsErrAnd r (λ x. x ≡ Memory) → IsErrOf r Full ↔ (next ≡ None)
  memory_is_some e some (Ok x) is = absurd is
  memory_is_some e some (Err x) is = (λ h. absurd (let p : Memory ≡ Full = sym is ∙ same_Err x Full h in cc), λ none. absurd (none-some e (sym none ∙ some)))
    where
      same_Err : (x y : CreateError) → ◌≡◌ {A = Result EntityId CreateError} (Err x) (Err y) → x ≡ y
      same_Err x y p = cc
