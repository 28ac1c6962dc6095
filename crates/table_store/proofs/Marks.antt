-- The marks of slots whose tables have rows, before and after a call.
use Rattle.std.proofs.Common.{◌≡◌, ◌≢◌, ℕ, zero, suc, ◌<◌, ◌≤◌, ◌-◌, ◌==◌, Bool, true, false, List, [], ◌∷◌, ◌++◌, Option, Some, None, IsSome, length, nat_lt, not, set, slice_index_or, inl, inr, refl, sym, ap, subst, ◌∙◌, true≢false, arith}
use Rattle.std.proofs.lemmas.Bool.{cases_eq}
use Rattle.std.proofs.lemmas.Bool.Decides.{nat_tests}
use Rattle.std.proofs.lemmas.Grind.{get_or-set_at}
use Rattle.std.proofs.lemmas.List.{get_or-set_other, length-set}
use Rattle.slab.specs.Slab as slots
use Rattle.slab.specs.Slab.{Slab, Updates, with_value}
use Rattle.slab.proofs.SlabLemmas.{Updates-with_value}
use Rattle.table_store.specs.Kept.{AreMarked, Held, is_filled}

above_none : (n : ℕ) → nat_lt 0 (suc n) ≡ true
above_none n = grind (arith, nat_tests)

-- what a table's rows say of its mark
pub pushed_fills : {X : Type 0} (xs : List X) (x : X) → true ≡ nat_lt 0 (length (xs ++ x ∷ []))
pushed_fills [] x = refl
pushed_fills (y ∷ xs) x = sym (above_none (length (xs ++ x ∷ [])))

pub not_empty : (n : ℕ) → not (n == 0) ≡ nat_lt 0 n
not_empty zero = refl
not_empty (suc n) = grind (arith, nat_tests)

pub one_less : (n : ℕ) → nat_lt 1 n ≡ nat_lt 0 (n - 1)
one_less n = grind (arith, nat_tests)

pub not_filled : {X : Type 0} (xs : List X) → nat_lt 0 (length xs) ≡ false → length xs ≡ 0
not_filled [] h = refl
not_filled (x ∷ xs) h = absurd (true≢false (sym (above_none (length xs)) ∙ h))

has_rows : (n : ℕ) → 0 < n → nat_lt 0 n ≡ true
has_rows zero h = absurd (omega (arith, h))
has_rows (suc n) h = above_none n

-- a row that isn't the first
pub not_first : (n m : ℕ) → n ≡ m → (n == 0) ≡ false → 0 < m
not_first zero m same h = absurd (true≢false h)
not_first (suc n) m same h = omega (arith, same)

pub filled_more : (n : ℕ) → nat_lt 0 n ≡ true → 0 < n
filled_more zero h = absurd (true≢false (sym h))
filled_more (suc n) h = omega arith

-- the marks are these
pub marked_as : {Y : Type 0} (tables : Slab (Held Y)) (was now : List Bool) → now ≡ was → AreMarked tables was → AreMarked tables now
marked_as tables was now same marked = subst (AreMarked tables) (sym same) marked

-- one slot is another
module _ {Y : Type 0} (tables new : Slab (Held Y)) (n : ℕ) (o : Option (Held Y)) (u : Updates tables new n o) (filled : List Bool) (marked : AreMarked tables filled) where
  held_within : (IsSome o → n < length filled) → (m : ℕ) → IsSome (slots.get new m) → m < length filled
  held_within here m h = elim (cases_eq m n) [
    | inl same ↦ subst (λ j. j < length filled) (sym same) (here (subst IsSome (ap (slots.get new) same ∙ u.changed) h))
    | inr other ↦ marked.within m (subst IsSome (u.others m other) h)
  ]

  -- it gets a mark
  pub marked_anew : n < length filled → (b : Bool) → b ≡ is_filled o → AreMarked new (set filled n b)
  marked_anew within b told = record {
    within = λ m h. subst (λ l. m < l) (sym (length-set filled n b)) (held_within (λ _. within) m h);
    told = λ m. elim (cases_eq m n) [
      | inl same ↦ get_or-set_at filled n m b false same within ∙ told ∙ ap is_filled (sym (ap (slots.get new) same ∙ u.changed))
      | inr other ↦ get_or-set_other filled n m b false other ∙ marked.told m ∙ ap is_filled (sym (u.others m other))
    ];
  }

  -- it has rows as before
  pub marked_still : (IsSome o → n < length filled) → is_filled o ≡ is_filled (slots.get tables n) → AreMarked new filled
  marked_still within alike = record {
    within = held_within within;
    told = λ m. elim (cases_eq m n) [
      | inl same ↦ marked.told m ∙ ap (λ j. is_filled (slots.get tables j)) same ∙ sym alike ∙ ap is_filled (sym (ap (slots.get new) same ∙ u.changed))
      | inr other ↦ marked.told m ∙ ap is_filled (sym (u.others m other))
    ];
  }

-- a table is written in its slot
module _ {Y : Type 0} (tables : Slab (Held Y)) (n : ℕ) (x : Held Y) (is : slots.get tables n ≡ Some x) (filled : List Bool) (marked : AreMarked tables filled) where
  pub slot_within : n < length filled
  slot_within = marked.within n (subst IsSome (sym is) refl)

  pub marked_written : (y : Held Y) (b : Bool) → b ≡ is_filled (Some y) → AreMarked (with_value tables n y) (set filled n b)
  marked_written y b told = marked_anew tables (with_value tables n y) n (Some y) (Updates-with_value tables n y (subst IsSome (sym is) refl)) filled marked slot_within b told

  -- where it had rows, its mark says so already
  pub filled_already : 0 < length x.value.table.entities → slice_index_or filled n false ≡ true
  filled_already some = marked.told n ∙ ap is_filled is ∙ has_rows (length x.value.table.entities) some

  -- its rows stay
  pub marked_same : (y : Held Y) → y.value.table.entities ≡ x.value.table.entities → AreMarked (with_value tables n y) filled
  marked_same y rows = marked_still tables (with_value tables n y) n (Some y) (Updates-with_value tables n y (subst IsSome (sym is) refl)) filled marked (λ _. slot_within)
      (ap (λ es. nat_lt 0 (length es)) rows ∙ ap is_filled (sym is))

-- a table without rows is taken out
pub marked_released : {Y : Type 0} (tables new : Slab (Held Y)) (n : ℕ) (x : Held Y) → slots.get tables n ≡ Some x → Updates tables new n None → length x.value.table.entities ≡ 0 → (filled : List Bool) → AreMarked tables filled → AreMarked new filled
marked_released tables new n x is u empty filled marked =
    marked_still tables new n None u filled marked (λ h. absurd (true≢false (sym h))) (ap (nat_lt 0) (sym empty) ∙ ap is_filled (sym is))

-- a table without rows comes into a slot that had none
pub marked_made : {Y : Type 0} (tables new : Slab (Held Y)) (n : ℕ) (y : Held Y) → slots.get tables n ≡ None → Updates tables new n (Some y) → length y.value.table.entities ≡ 0 → (filled : List Bool) → n < length filled → AreMarked tables filled
    → AreMarked new filled
marked_made tables new n y free u empty filled within marked =
    marked_still tables new n (Some y) u filled marked (λ _. within) (ap (nat_lt 0) empty ∙ ap is_filled (sym free))

-- there is room for more, and more slots have a mark
pub marked_grown : {Y : Type 0} (tables grown : Slab (Held Y)) → grown.slots ≡ tables.slots → (filled marks : List Bool) → length filled ≤ length marks → ((n : ℕ) → slice_index_or marks n false ≡ slice_index_or filled n false) → AreMarked tables filled
    → AreMarked grown marks
marked_grown tables grown alike filled marks longer same marked = record {
  within = λ n h. let was = marked.within n (subst (λ l. IsSome (slice_index_or l n None)) alike h) in omega (arith, was, longer);
  told = λ n. same n ∙ marked.told n ∙ ap (λ l. is_filled (slice_index_or l n None)) (sym alike);
}

-- a row moves from the table in one slot to that in another
module _ {Y : Type 0} (tables out back : Slab (Held Y)) (filled : List Bool) (marked : AreMarked tables filled) (from to : ℕ) (apart : to ≢ from) (source target : Held Y) (u1 : Updates tables out from None)
    (held : IsSome (slots.get out to)) (u2 : Updates (with_value out to target) back from (Some source)) (here : from < length filled) where
  put : Updates out (with_value out to target) to (Some target)
  put = Updates-with_value out to target held

  stays : (m : ℕ) → m ≢ from → m ≢ to → slots.get back m ≡ slots.get tables m
  stays m f t = u2.others m f ∙ put.others m t ∙ u1.others m f

  target_is : slots.get back to ≡ Some target
  target_is = u2.others to apart ∙ put.changed

  there : to < length filled
  there = marked.within to (subst IsSome (u1.others to apart) held)

  within_marks : (m : ℕ) → IsSome (slots.get back m) → m < length filled
  within_marks m h = elim (cases_eq m from) [
    | inl f ↦ subst (λ j. j < length filled) (sym f) here
    | inr f ↦ elim (cases_eq m to) [ inl t ↦ subst (λ j. j < length filled) (sym t) there | inr t ↦ marked.within m (subst IsSome (stays m f t) h) ]
  ]

  told_apart : true ≡ is_filled (Some target) → (m : ℕ) → m ≢ from → slice_index_or (set filled to true) m false ≡ is_filled (slots.get back m)
  told_apart came m f = elim (cases_eq m to) [
    | inl t ↦ get_or-set_at filled to m true false t there ∙ came ∙ ap is_filled (sym (ap (slots.get back) t ∙ target_is))
    | inr t ↦ get_or-set_other filled to m true false t ∙ marked.told m ∙ ap is_filled (sym (stays m f t))
  ]

  pub marked_moved : (b : Bool) → b ≡ is_filled (Some source) → true ≡ is_filled (Some target) → AreMarked back (set (set filled to true) from b)
  marked_moved b left came = record {
    within = λ m h. subst (λ l. m < l) (sym (length-set (set filled to true) from b ∙ length-set filled to true)) (within_marks m h);
    told = λ m. elim (cases_eq m from) [
      | inl f ↦ get_or-set_at (set filled to true) from m b false f (subst (λ l. from < l) (sym (length-set filled to true)) here) ∙ left ∙ ap is_filled (sym (ap (slots.get back) f ∙ u2.changed))
      | inr f ↦ get_or-set_other (set filled to true) from m b false f ∙ told_apart came m f
    ];
  }
