-- The next new entity, from the slots and the indexes that wait.
use Rattle.std.proofs.Common.{◌≡◌, ℕ, zero, suc, ◌+◌, ◌-◌, ◌≤◌, ◌<◌, Bool, true, false, cond, eqb, List, [], ◌∷◌, length, get_or, Some, None, Option, option_map, refl, sym, ap, ◌∙◌, arith, inl, inr, true≢false}
use Rattle.std.proofs.lemmas.Bool.{cases_lt, cases_eq}
use Rattle.std.proofs.lemmas.Bool.Decides.{nat_tests}
use Rattle.std.proofs.lemmas.List.{get_or_past, nil_from_length}
use Rattle.std.proofs.lemmas.List.Sums.{sum_by-cons}
use Rattle.std.proofs.lemmas.List.Sorted.{sum_by_popped}
use Rattle.std.specs.List.Sorted.{IsPermutation}
use Rattle.entity_index.proofs.EntryLists.{eqb-same}
use Rattle.std.specs.List.{AllByRecursion}
use Rattle.std.specs.Ordering.{nat_cmp, is_lt}
use Rattle.std.specs.BinaryHeap.{IsUpperBound}
use Rattle.std.specs.declared.cmp.Reverse.{Reverse}
use Rattle.ecs_id.specs.declared.Place.{Place}
use Rattle.entity_index.specs.declared.slot.EntitySlot.{EntitySlot}
use Rattle.ecs_model.specs.Map.{count_at}
use Rattle.ecs_model.specs.World.{first_index, first_passing, is_free, next_among}
use Rattle.entity_index.specs.Entities.{Entities, next_entity}
use Rattle.entity_index.specs.Slots.{unused, slot_at, is_free_slot, is_waiting, meaning}
use Rattle.entity_index.proofs.Readings.{free_found, count_found}
use Rattle.entity_index.proofs.WaitingIndexes.{count_in, HasWaiting, waiting_parts, is_waiting-free}

pub step : (test : ℕ → Bool) (i n : ℕ) (b : Bool) → test i ≡ b → first_passing test (suc n) i ≡ cond b (Some i) (first_passing test n (i + 1))
step test i n true e = ap (λ b. elim b [ true ↦ Some i | false ↦ first_passing test n (i + 1) ]) e
step test i n false e = ap (λ b. elim b [ true ↦ Some i | false ↦ first_passing test n (i + 1) ]) e

-- the first number that passes, where none before it does
first_passing-at : (test : ℕ → Bool) (i n j : ℕ) → i ≤ j → j < i + n → test j ≡ true → ((q : ℕ) → i ≤ q → q < j → test q ≡ false) → first_passing test n i ≡ Some j
first_passing-at test i zero j le lt passes before = absurd (omega arith)
first_passing-at test i (suc n) j le lt passes before = elim (cases_eq i j) [
  | inl e ↦ step test i n true (ap test e ∙ passes) ∙ ap Some e
  | inr ne ↦ step test i n false (before i (omega arith) (omega arith)) ∙ first_passing-at test (i + 1) n j (omega arith) (omega arith) passes (λ q l r. before q (omega arith) r)
]

first_passing-none : (test : ℕ → Bool) (i n : ℕ) → ((q : ℕ) → i ≤ q → q < i + n → test q ≡ false) → first_passing test n i ≡ None
first_passing-none test i zero all = refl
first_passing-none test i (suc n) all = step test i n false (all i (omega arith) (omega arith)) ∙ first_passing-none test (i + 1) n (λ q l r. all q (omega arith) (omega arith))

not_free_here : (slots : List EntitySlot) (q : ℕ) → first_index ≤ q → q < length slots → is_waiting slots q ≡ false → is_free_slot (slot_at slots q) ≡ false
not_free_here slots q first within h = by (is_free_slot (slot_at slots q)) refl
  where
    by : (b : Bool) → is_free_slot (slot_at slots q) ≡ b → is_free_slot (slot_at slots q) ≡ false
    by true e = absurd (true≢false (sym (is_waiting-free slots q first within e) ∙ h))
    by false e = e

module _ (slots : List EntitySlot) (places : List (Option Place)) (last : ℕ) (least_given : first_index ≤ last) (given : first_index ≤ length slots) (bounded : length slots ≤ last + 1) where
  abbrev world : Entities
  world = meaning slots places last

  -- the least index that waits
  pub next-least : (i : ℕ) (s : EntitySlot) → slot_at slots i ≡ s → is_waiting slots i ≡ true → ((q : ℕ) → q < i → is_waiting slots q ≡ false) → next_entity world ≡ Some (record { index = i; generation = s.deletions })
  unfolding next_among
  next-least i s at waits least =
      let parts = waiting_parts slots i waits in
      let found : first_passing (is_free world.live world.deletions) (last - first_index + 1) first_index ≡ Some i =
      first_passing-at (is_free world.live world.deletions) first_index (last - first_index + 1) i parts.0 (omega (arith, parts.1)) (free_found slots places last i ∙ parts.2)
      (λ q l r. free_found slots places last q ∙ not_free_here slots q l (omega (arith, parts.1)) (least q r)) in
      ap (option_map (λ j. record { index = j; generation = count_at world.deletions j })) found ∙ ap (λ d. Some (record { index = i; generation = d })) (count_found slots places last i ∙ ap (λ t. t.deletions) at)

  module _ (none : (q : ℕ) → is_waiting slots q ≡ false) where
    -- no index waits: the next fresh one
    pub next-fresh : length slots ≤ last → next_entity world ≡ Some (record { index = length slots; generation = 0 })
    unfolding next_among
    next-fresh room =
        let past : slot_at slots (length slots) ≡ unused = get_or_past slots (length slots) unused (omega arith) in
        let found : first_passing (is_free world.live world.deletions) (last - first_index + 1) first_index ≡ Some (length slots) =
        first_passing-at (is_free world.live world.deletions) first_index (last - first_index + 1) (length slots) given (omega arith) (free_found slots places last (length slots) ∙ ap is_free_slot past)
        (λ q l r. free_found slots places last q ∙ not_free_here slots q l r (none q)) in
        ap (option_map (λ j. record { index = j; generation = count_at world.deletions j })) found
        ∙ ap (λ d. Some (record { index = length slots; generation = d })) (count_found slots places last (length slots) ∙ ap (λ t. t.deletions) past)

    -- no index waits, and all are used
    pub next-none : last < length slots → next_entity world ≡ None
    unfolding next_among
    next-none full =
        ap (option_map (λ j. record { index = j; generation = count_at world.deletions j }))
        (first_passing-none (is_free world.live world.deletions) first_index (last - first_index + 1) (λ q l r. free_found slots places last q ∙ not_free_here slots q l (omega arith) (none q)))

count_in-cons : (y : Reverse ℕ) (ys : List (Reverse ℕ)) (q : ℕ) → count_in (y ∷ ys) q ≡ cond (eqb y.0 q) 1 0 + count_in ys q
count_in-cons y ys q = sum_by-cons (λ r. cond (eqb r.0 q) 1 0) y ys

none_below : (m : ℕ) (items : List (Reverse ℕ)) → AllByRecursion (λ y. is_lt (nat_cmp y.0 m) ≡ false) items → (q : ℕ) → q < m → count_in items q ≡ 0
none_below m [] all q lt = refl
none_below m (y ∷ ys) all q lt = count_in-cons y ys q ∙ (λ k. cond (above y.0 all.0 k) 1 0 + none_below m ys all.1 q lt k)
  where
    above : (a : ℕ) → is_lt (nat_cmp a m) ≡ false → eqb a q ≡ false
    above a h = grind (arith, nat_tests)

zero_waits : (b : Bool) (n : ℕ) → n ≡ 0 → n ≡ cond b 1 0 → b ≡ false
zero_waits true n z e = absurd (omega arith)
zero_waits false n z e = refl

one_waits : (b : Bool) (n : ℕ) → 0 < n → n ≡ cond b 1 0 → b ≡ true
one_waits true n h e = refl
one_waits false n h e = absurd (omega arith)

-- what the heap says of who waits
module _ (slots : List EntitySlot) (items : List (Reverse ℕ)) (has : HasWaiting slots items) where
  pub none_waits : length items ≡ 0 → (q : ℕ) → is_waiting slots q ≡ false
  none_waits empty q = zero_waits _ (count_in items q) (ap (λ xs. count_in xs q) (nil_from_length items empty)) (has q)

  pub none_waits_below : (x : Reverse ℕ) → IsUpperBound (λ a b. nat_cmp b.0 a.0) x items → (q : ℕ) → q < x.0 → is_waiting slots q ≡ false
  none_waits_below x bound q lt = zero_waits _ (count_in items q) (none_below x.0 items bound q lt) (has q)

  pub popped_waits : (x : Reverse ℕ) (rest : List (Reverse ℕ)) → IsPermutation items (x ∷ rest) → is_waiting slots x.0 ≡ true
  popped_waits x rest moved =
      let count = sum_by_popped (λ r. cond (eqb r.0 x.0) 1 0) x items rest moved in
      let one : ◌≡◌ {A = ℕ} (cond (eqb x.0 x.0) 1 0) 1 = ap (λ b. cond b 1 0) (eqb-same x.0 x.0 refl) in
      one_waits _ (count_in items x.0) (omega (arith, count, one)) (has x.0)

  pub top_waits : (x : Reverse ℕ) → 0 < length items → x ≡ get_or items 0 x → is_waiting slots x.0 ≡ true
  top_waits x some is = one_waits _ (count_in items x.0) (by items some is) (has x.0)
    where
      by : (xs : List (Reverse ℕ)) → 0 < length xs → x ≡ get_or xs 0 x → 0 < count_in xs x.0
      by [] h e = absurd (omega arith)
      by (y ∷ ys) h e =
          let one : ◌≡◌ {A = ℕ} (cond (eqb y.0 x.0) 1 0) 1 = ap (λ b. cond b 1 0) (eqb-same y.0 x.0 (ap (λ r. r.0) (sym e))) in
          omega (arith, count_in-cons y ys x.0, one)

-- a heap that gives nothing is empty
pub length_of_none : (n len : ℕ) → n ≡ len → (0 < len → false ≡ true) → n ≡ 0
length_of_none n len e none = elim (cases_lt 0 len) [ inl h ↦ absurd (true≢false (sym (none h))) | inr h ↦ omega arith ]
