-- The fields of an index: a slot and a place for each index used so far, and a heap of the free ones among them.
use Rattle.std.specs.Prelude.{◌≡◌, ℕ, suc, ◌+◌, ◌^◌, ◌≤◌, ◌<◌, ◌==◌, Bool, true, false, not, ◌&&◌, List, [], ◌∷◌, length, count_by, nat_lt, nat_le, slice_index_or, Option, Some, None, if◌then◌else◌}
use Rattle.std.specs.Ordering.{nat_cmp}
use Rattle.std.specs.BinaryHeap.{heap_items, heap_len, heap_capacity, IsHeap}
use Rattle.std.specs.declared.collections.binary_heap.BinaryHeap.{BinaryHeap}
use Rattle.std.specs.declared.cmp.Reverse.{Reverse}
use Rattle.ecs_id.specs.declared.EntityId.{EntityId}
use Rattle.ecs_id.specs.declared.Place.{Place}
use Rattle.entity_index.specs.declared.slot.EntitySlot.{EntitySlot}
use Rattle.ecs_model.specs.World.{first_index, is_built_in}
use Rattle.entity_index.specs.Entities.{Entities}

-- how many generations an index has
abbrev pub generations : ℕ
generations = 65536

-- the slot of an index that was never used
abbrev pub unused : EntitySlot
unused = record { deletions = 0; live = false }

abbrev pub slot_at : List EntitySlot → ℕ → EntitySlot
slot_at slots i = slice_index_or slots i unused

abbrev pub place_at : List (Option Place) → ℕ → Option Place
place_at places i = slice_index_or places i None

-- the slot that an index has at first
abbrev pub first_slot : ℕ → EntitySlot
first_slot i = record { deletions = 0; live = is_built_in i }

abbrev pub generation_of : EntitySlot → Option ℕ
generation_of s = if s.live then Some s.deletions else None

abbrev pub deletions_of : EntitySlot → Option ℕ
deletions_of s = if nat_lt 0 s.deletions then Some s.deletions else None

-- neither live nor retired
abbrev pub is_free_slot : EntitySlot → Bool
is_free_slot s = not s.live && nat_lt s.deletions generations

abbrev pub with_entry : {X : Type 0} → ℕ → Option X → List (ℕ × X) → List (ℕ × X)
with_entry n None entries = entries
with_entry n (Some x) entries = (n, x) ∷ entries

-- what is read from a list by index, where the first has number n
abbrev pub entries_from : {S X : Type 0} → (S → Option X) → ℕ → List S → List (ℕ × X)
entries_from f n [] = []
entries_from f n (s ∷ slots) = with_entry n (f s) (entries_from f (suc n) slots)

-- what the fields mean
abbrev pub meaning : List EntitySlot → List (Option Place) → ℕ → Entities
meaning slots places last = record { live = entries_from generation_of 0 slots; deletions = entries_from deletions_of 0 slots; places = entries_from (λ p. p) 0 places; last = last }

-- whether the heap is to have the index
abbrev pub is_waiting : List EntitySlot → ℕ → Bool
is_waiting slots i = nat_le first_index i && (nat_lt i (length slots) && is_free_slot (slot_at slots i))

-- what each index has
pub record IsSlot (i : ℕ) (s : EntitySlot) (place : Option Place) : Type 0 where
  pub built_in : i < first_index → (s.live ≡ is_built_in i) × (s.deletions ≡ 0)
  pub generation : s.live ≡ true → s.deletions < generations
  pub deleted : s.deletions ≤ generations
  pub placed : s.live ≡ false → place ≡ None

pub record IsSound {Z : Type 0} (slots : List EntitySlot) (places : List (Option Place)) (free : BinaryHeap (Reverse ℕ) Z) (last : ℕ) : Type 0 where
  pub first : first_index ≤ length slots
  pub within : length slots ≤ last + 1
  pub least : first_index ≤ last
  pub range : last < 2 ^ 24
  pub paired : length places ≡ length slots
  pub each : (i : ℕ) → IsSlot i (slot_at slots i) (place_at places i)
  pub ordered : IsHeap (λ x y. nat_cmp y.0 x.0) (heap_items free)
  pub members : (i : ℕ) → count_by (λ x. x.0 == i) (heap_items free) ≡ (if is_waiting slots i then 1 else 0)
  -- the heap has room for each slot
  pub room : length slots ≤ heap_capacity free
  pub few : heap_len free ≤ count_by is_free_slot slots

-- the live entities, where the first slot has number n
abbrev pub live_from : ℕ → List EntitySlot → List EntityId
live_from n [] = []
live_from n (s ∷ slots) = if s.live then record { index = n; generation = s.deletions } ∷ live_from (suc n) slots else live_from (suc n) slots

-- slots that can be gone through from number n on
pub record IsRest (n : ℕ) (slots : List EntitySlot) : Type 0 where
  pub range : n + length slots ≤ 2 ^ 24
  pub generation : (i : ℕ) → (slot_at slots i).live ≡ true → (slot_at slots i).deletions < generations
