-- The indexes that wait in the heap to be given out again.
use Rattle.std.proofs.Common.{◌≡◌, ◌≢◌, ℕ, ◌+◌, ◌≤◌, ◌<◌, Bool, true, false, not, ◌&&◌, cond, eqb, ltb, leb, List, [], ◌∷◌, ◌++◌, length, set, refl, sym, ap, subst, ◌∙◌, arith, inl, inr, true≢false, add-zero, zero-add}
use Rattle.std.proofs.lemmas.Bool.{cases_eq}
use Rattle.std.proofs.lemmas.Bool.Decides.{nat_tests}
use Rattle.std.proofs.lemmas.List.{length_push}
use Rattle.std.proofs.lemmas.List.Sums.{sum_by-set}
use Rattle.std.proofs.lemmas.List.Sorted.{sum_by_pushed, sum_by_popped}
use Rattle.std.specs.List.{count_by}
use Rattle.std.specs.List.Sorted.{IsPermutation}
use Rattle.std.specs.declared.cmp.Reverse.{Reverse}
use Rattle.entity_index.specs.declared.slot.EntitySlot.{EntitySlot}
use Rattle.ecs_model.specs.World.{first_index}
use Rattle.entity_index.specs.Slots.{unused, slot_at, generations, is_free_slot, is_waiting}
use Rattle.entity_index.proofs.EntryLists.{Changes, Changes-push, eqb-same, eqb-apart}

-- how often the heap has an index
abbrev pub count_in : List (Reverse ℕ) → ℕ → ℕ
count_in items i = count_by (λ x. eqb x.0 i) items

-- the heap has just the indexes that wait
abbrev pub HasWaiting : List EntitySlot → List (Reverse ℕ) → Type 0
HasWaiting slots items = (i : ℕ) → count_in items i ≡ cond (is_waiting slots i) 1 0

pub not_below : (d : ℕ) → generations ≤ d → ltb d generations ≡ false
not_below d h = grind (arith, nat_tests)

-- an index whose slot is not free doesn't wait
pub is_waiting-taken : (slots : List EntitySlot) (i : ℕ) → is_free_slot (slot_at slots i) ≡ false → is_waiting slots i ≡ false
is_waiting-taken slots i taken = no_third (leb first_index i) (ltb i (length slots)) _ taken
  where
    no_third : (a b d : Bool) → d ≡ false → (a && (b && d)) ≡ false
    no_third true true d e = e
    no_third true false d e = refl
    no_third false b d e = refl

pub is_waiting-live : (slots : List EntitySlot) (i : ℕ) (s : EntitySlot) → slot_at slots i ≡ s → s.live ≡ true → is_waiting slots i ≡ false
is_waiting-live slots i s at live = is_waiting-taken slots i (ap is_free_slot at ∙ ap (λ l. not l && ltb s.deletions generations) live)

pub is_waiting-free : (slots : List EntitySlot) (i : ℕ) → first_index ≤ i → i < length slots → is_free_slot (slot_at slots i) ≡ true → is_waiting slots i ≡ true
is_waiting-free slots i first within free = ap (λ b. leb first_index i && (ltb i (length slots) && b)) free ∙ both
  where
    both : (leb first_index i && (ltb i (length slots) && true)) ≡ true
    both = grind (arith, nat_tests)

-- what a waiting index has
pub waiting_parts : (slots : List EntitySlot) (i : ℕ) → is_waiting slots i ≡ true → (first_index ≤ i) × (i < length slots) × (is_free_slot (slot_at slots i) ≡ true)
waiting_parts slots i h = parts (leb first_index i) (ltb i (length slots)) (is_free_slot (slot_at slots i)) refl refl h
  where
    parts : (a b d : Bool) → leb first_index i ≡ a → ltb i (length slots) ≡ b → (a && (b && d)) ≡ true → (first_index ≤ i) × (i < length slots) × (d ≡ true)
    parts true true d p q e = (grind (arith, nat_tests), grind (arith, nat_tests), e)
    parts true false d p q e = absurd (true≢false (sym e))
    parts false b d p q e = absurd (true≢false (sym e))

-- a change of one slot leaves whether the others wait
is_waiting-other : (old new : List EntitySlot) (i : ℕ) (s : EntitySlot) → Changes unused old new i s → length new ≡ length old → (q : ℕ) → q ≢ i → is_waiting new q ≡ is_waiting old q
is_waiting-other old new i s change same q ne = λ k. leb first_index q && (ltb q (same k) && is_free_slot (change.others q ne k))

pub free_is_dead : (s : EntitySlot) → is_free_slot s ≡ true → (s.live ≡ false) × (s.deletions < generations)
free_is_dead s h = by s.live refl h
  where
    by : (b : Bool) → s.live ≡ b → (not b && ltb s.deletions generations) ≡ true → (s.live ≡ false) × (s.deletions < generations)
    by true e k = absurd (true≢false (sym k))
    by false e k = (e, grind (arith, nat_tests))

one_at_most : (b : Bool) (n : ℕ) → n + 1 ≡ cond b 1 0 → n ≡ 0
one_at_most true n e = omega arith
one_at_most false n e = absurd (omega arith)

module _ (old new : List EntitySlot) (i : ℕ) (s : EntitySlot) (change : Changes unused old new i s) (same : length new ≡ length old) where
  -- one index of the heap and the slots at a time
  by_index : (items items' : List (Reverse ℕ)) → HasWaiting old items → count_in items' i ≡ cond (is_waiting new i) 1 0 → ((q : ℕ) → q ≢ i → count_in items' q ≡ count_in items q) → HasWaiting new items'
  by_index items items' has here there q = elim (cases_eq q i) [
    | inl e ↦ subst (λ j. count_in items' j ≡ cond (is_waiting new j) 1 0) (sym e) here
    | inr ne ↦ there q ne ∙ has q ∙ ap (λ b. cond b 1 0) (sym (is_waiting-other old new i s change same q ne))
  ]

  -- the heap after a pop of an index that lives now
  pub HasWaiting-pop : s.live ≡ true → (x : Reverse ℕ) → x.0 ≡ i → (items rest : List (Reverse ℕ)) → IsPermutation items (x ∷ rest) → HasWaiting old items → HasWaiting new rest
  HasWaiting-pop live x is items rest moved has =
      by_index items rest has
      (one_at_most (is_waiting old i) _ (ap (λ b. count_in rest i + cond b 1 0) (sym (eqb-same x.0 i is)) ∙ sum_by_popped (λ r. cond (eqb r.0 i) 1 0) x items rest moved ∙ has i)
      ∙ ap (λ b. cond b 1 0) (sym (is_waiting-live new i s change.changed live)))
      (λ q ne. sym (add-zero _) ∙ ap (λ b. count_in rest q + cond b 1 0) (sym (eqb-apart x.0 q (λ e. ne (sym e ∙ is)))) ∙ sum_by_popped (λ r. cond (eqb r.0 q) 1 0) x items rest moved)

  -- the heap after a push of an index that is free now
  pub HasWaiting-push : (was : EntitySlot) → slot_at old i ≡ was → was.live ≡ true → first_index ≤ i → i < length old → is_free_slot s ≡ true
      → (x : Reverse ℕ) → x.0 ≡ i → (items more : List (Reverse ℕ)) → IsPermutation (x ∷ items) more → HasWaiting old items → HasWaiting new more
  HasWaiting-push was at live first within free x is items more moved has =
      by_index items more has
      (sum_by_pushed (λ r. cond (eqb r.0 i) 1 0) x items more moved ∙ (λ k. cond (eqb-same x.0 i is k) 1 0 + (has i ∙ ap (λ b. cond b 1 0) (is_waiting-live old i was at live)) k)
      ∙ ap (λ b. cond b 1 0) (sym (is_waiting-free new i first (subst (λ n. i < n) (sym same) within) (ap is_free_slot change.changed ∙ free))))
      (λ q ne. sum_by_pushed (λ r. cond (eqb r.0 q) 1 0) x items more moved ∙ ap (λ b. cond b 1 0 + count_in items q) (eqb-apart x.0 q (λ e. ne (sym e ∙ is))) ∙ zero-add _)

  -- a change after which the slot waits as before
  pub HasWaiting-keep : (items : List (Reverse ℕ)) → is_waiting new i ≡ is_waiting old i → HasWaiting old items → HasWaiting new items
  HasWaiting-keep items keep has = by_index items items has (has i ∙ ap (λ b. cond b 1 0) (sym keep)) (λ q ne. refl)

-- a new slot, of a live entity
is_waiting-push : (slots : List EntitySlot) (s : EntitySlot) → s.live ≡ true → (q : ℕ) → is_waiting (slots ++ s ∷ []) q ≡ is_waiting slots q
is_waiting-push slots s live q = elim (cases_eq q (length slots)) [
  | inl e ↦ ap (is_waiting (slots ++ s ∷ [])) e ∙ is_waiting-live (slots ++ s ∷ []) (length slots) s change.changed live ∙ sym (ap (is_waiting slots) e ∙ past)
  | inr ne ↦ λ k. leb first_index q && (bound ne k && is_free_slot (change.others q ne k))
]
  where
    change : Changes unused slots (slots ++ s ∷ []) (length slots) s
    change = Changes-push unused slots s

    past : is_waiting slots (length slots) ≡ false
    past = let e : ltb (length slots) (length slots) ≡ false = grind (arith, nat_tests) in ap (λ b. leb first_index (length slots) && (b && is_free_slot (slot_at slots (length slots)))) e ∙ no_more (leb first_index (length slots))
      where
        no_more : (b : Bool) → (b && false) ≡ false
        no_more true = refl
        no_more false = refl

    bound : q ≢ length slots → ltb q (length (slots ++ s ∷ [])) ≡ ltb q (length slots)
    bound ne = let grown : length (slots ++ s ∷ []) ≡ length slots + 1 = length_push slots s in rw grown (tests q (length slots) ne)
      where
        tests : (a n : ℕ) → a ≢ n → ltb a (n + 1) ≡ ltb a n
        tests a n h = grind (arith, nat_tests)

pub HasWaiting-extend : (slots : List EntitySlot) (s : EntitySlot) → s.live ≡ true → (items : List (Reverse ℕ)) → HasWaiting slots items → HasWaiting (slots ++ s ∷ []) items
HasWaiting-extend slots s live items has q = has q ∙ ap (λ b. cond b 1 0) (sym (is_waiting-push slots s live q))

-- how many slots are free
abbrev pub free_count : List EntitySlot → ℕ
free_count slots = count_by is_free_slot slots

pub free_count-set : (slots : List EntitySlot) (i : ℕ) (s : EntitySlot) (a b : Bool) → i < length slots → is_free_slot (slot_at slots i) ≡ a → is_free_slot s ≡ b → free_count (set slots i s) + cond a 1 0 ≡ free_count slots + cond b 1 0
free_count-set slots i s a b within p q = ap (λ d. free_count (set slots i s) + cond d 1 0) (sym p) ∙ sum_by-set (λ t. cond (is_free_slot t) 1 0) slots i s unused within ∙ ap (λ d. free_count slots + cond d 1 0) q

pub not_free : (s : EntitySlot) → s.live ≡ true → is_free_slot s ≡ false
not_free s live = ap (λ b. not b && ltb s.deletions generations) live
