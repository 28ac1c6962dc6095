-- What `delete` does to the fields.
use Rattle.std.proofs.Common.{◌≡◌, ℕ, ◌+◌, ◌≤◌, ◌<◌, true, false, not, ◌&&◌, ◌⊎◌, inl, inr, eqb, List, ◌∷◌, length, set, get_or, Option, Some, None, is_some, refl, sym, ap, subst, ◌∙◌, arith, true≢false}
use Rattle.std.proofs.lemmas.List.{get_or_default}
use Rattle.std.specs.Option.{option_eq}
use Rattle.std.specs.Ordering.{nat_cmp}
use Rattle.std.specs.FinMap.{find}
use Rattle.std.specs.BinaryHeap.{heap_items, heap_len, heap_capacity, KeepsHeap}
use Rattle.std.specs.List.Sorted.{IsPermutation}
use Rattle.std.specs.declared.collections.binary_heap.BinaryHeap.{BinaryHeap}
use Rattle.std.specs.declared.cmp.Reverse.{Reverse}
use Rattle.ecs_id.specs.declared.EntityId.{EntityId}
use Rattle.ecs_id.specs.declared.Place.{Place}
use Rattle.entity_index.specs.declared.slot.EntitySlot.{EntitySlot}
use Rattle.ecs_model.specs.World.{first_index, is_built_in}
use Rattle.entity_index.specs.Entities.{Entities, is_alive, is_deletable, without_entity, IsWellFormed}
use Rattle.entity_index.specs.Slots.{unused, generations, slot_at, meaning, IsSound}
use Rattle.entity_index.proofs.EntryLists.{Changes-set}
use Rattle.entity_index.proofs.Meanings.{meaning-deleted}
use Rattle.entity_index.proofs.Readings.{alive_within, alive_is_live}
use Rattle.entity_index.proofs.Soundness.{room_to_delete, IsSound-delete, IsSound-retire}

-- a live entity below the first index that is given out is built in
module _ (w : Entities) (e : EntityId) where
  live_at : (o : Option ℕ) → option_eq eqb o (Some e.generation) ≡ true → is_some o ≡ true
  live_at None h = absurd (true≢false (sym h))
  live_at (Some g) h = refl

module _ {Z : Type 0} (slots : List EntitySlot) (places : List (Option Place)) (heap : BinaryHeap (Reverse ℕ) Z) (last : ℕ) (sound : IsSound slots places heap last) (e : EntityId) (alive : is_alive (meaning slots places last) e ≡ true) (s : EntitySlot) (is : s ≡ get_or slots e.index s) where
  within : e.index < length slots
  within = alive_within slots places last e alive

  at : slot_at slots e.index ≡ s
  at = sym (is ∙ get_or_default slots e.index s unused within)

  live : s.live ≡ true
  live = alive_is_live slots places last e s at alive

  pub deleted_fits : s.deletions < generations
  deleted_fits = (subst (λ t. t.deletions < generations) at ((sound.each e.index).generation (ap (λ t. t.live) at ∙ live)))

  pub deleted_room : heap_len heap < heap_capacity heap
  deleted_room = room_to_delete slots places heap last sound e.index s at live within

  -- beside the slot stands the place
  paired : e.index < length places
  paired = omega (arith, within, sound.paired)

  pub deleted_means : meaning (set slots e.index (record { deletions = s.deletions + 1; live = false })) (set places e.index None) last ≡ without_entity (meaning slots places last) e.index
  deleted_means = meaning-deleted slots _ places last e.index s at (set places e.index None) (Changes-set unused slots e.index (record { deletions = s.deletions + 1; live = false }) within) (Changes-set None places e.index None paired)

  module _ (first : first_index ≤ e.index) where
    pub deleted_sound : (new_heap : BinaryHeap (Reverse ℕ) Z) (x : Reverse ℕ) → x.0 ≡ e.index → s.deletions + 1 < generations
        → IsPermutation (x ∷ heap_items heap) (heap_items new_heap) → KeepsHeap (λ a b. nat_cmp b.0 a.0) (heap_items heap) (heap_items new_heap)
        → heap_len new_heap ≡ heap_len heap + 1 → heap_capacity heap ≤ heap_capacity new_heap → IsSound (set slots e.index (record { deletions = s.deletions + 1; live = false })) (set places e.index None) new_heap last
    deleted_sound new_heap x is_index fits moved keeps len capacity = IsSound-delete slots places heap last sound new_heap e.index s at x is_index (keeps sound.ordered) first live fits within moved len capacity

    pub retired_sound : generations ≤ s.deletions + 1 → IsSound (set slots e.index (record { deletions = s.deletions + 1; live = false })) (set places e.index None) heap last
    retired_sound spent = IsSound-retire slots places heap last sound e.index s at live within first spent
