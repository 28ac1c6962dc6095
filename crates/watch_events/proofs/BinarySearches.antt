-- What a binary search finds in a list whose keys strictly rise.
use Rattle.std.specs.Prelude.{is_ok}
use Rattle.std.specs.List.{AllByRecursion, find, list_any}
use Rattle.std.specs.List.Sorted.{IsBinarySearchResult, IsSearchInRange, IsSortedBy, IsStrictlySortedBy}
use Rattle.std.specs.Ordering.{is_eq, is_lt, nat_cmp, ordering_reverse}
use Rattle.std.specs.declared.cmp.Ordering.{Ordering}
use Rattle.std.specs.declared.cmp.Ordering.TheVariants.{Less, Equal, Greater}
use Rattle.std.specs.declared.result.Result.{Result}
use Rattle.std.specs.declared.result.Result.TheVariants.{Ok, Err}
use Rattle.std.specs.Cmp.{IsTotalOrder, nat_cmp_total}
use Rattle.std.specs.FinMap.{nat_cmp-IsAntisymmetric}
use Rattle.std.proofs.Common.{◌≡◌, ℕ, zero, suc, ◌==◌, ◌<◌, ◌≤◌, Bool, true, false, ◌||◌, List, [], ◌∷◌, map, length, get_or, cond, Some, None, refl, sym, ap, subst, ◌∙◌, arith, add-one, inl, inr}
use Rattle.std.proofs.lemmas.Bool.{cases_lt}
use Rattle.std.proofs.lemmas.Bool.Decides.{nat_tests}
use Rattle.std.proofs.lemmas.List.{map-id}
use Rattle.std.proofs.lemmas.List.Sorted.{searchable_from_sorted}
use Rattle.ecs_world.proofs.OrderedMaps.{same_test}

any_front : {X : Type 0} (p : X → Bool) (y : X) (ys : List X) → p y ≡ true → list_any p (y ∷ ys) ≡ true
any_front p y ys h = ap (λ b. b || list_any p ys) h

any_behind : {X : Type 0} (p : X → Bool) (y : X) (ys : List X) → list_any p ys ≡ true → list_any p (y ∷ ys) ≡ true
any_behind p y ys h = by (p y) h
  where
    by : (b : Bool) → list_any p ys ≡ true → (b || list_any p ys) ≡ true
    by true e = refl
    by false e = e

-- an element that passes is one of those that do
any_at : {X : Type 0} (p : X → Bool) (xs : List X) (i : ℕ) (d : X) → i < length xs → p (get_or xs i d) ≡ true → list_any p xs ≡ true
any_at p [] i d lt h = absurd (omega arith)
any_at p (y ∷ ys) zero d lt h = any_front p y ys h
any_at p (y ∷ ys) (suc i) d lt h = any_behind p y ys (any_at p ys i d (omega arith) h)

none_at : {X : Type 0} (p : X → Bool) (xs : List X) → ((k : ℕ) (d : X) → k < length xs → p (get_or xs k d) ≡ false) → list_any p xs ≡ false
none_at p [] h = refl
none_at p (y ∷ ys) h =
    let here : p y ≡ false = h 0 y (omega arith) in
    ap (λ b. b || list_any p ys) here ∙ none_at p ys (λ k d lt. h (suc k) d (omega arith))

none_found : {X : Type 0} (p : X → Bool) (xs : List X) → list_any p xs ≡ false → find p xs ≡ None
none_found p [] h = refl
none_found p (y ∷ ys) h = by (p y) refl h (none_found p ys)
  where
    by : (b : Bool) → p y ≡ b → (b || list_any p ys) ≡ false → (list_any p ys ≡ false → find p ys ≡ None) → find p (y ∷ ys) ≡ None
    by true e f rest = cc
    by false e f rest = ap (λ b. cond b (Some y) (find p ys)) e ∙ rest f

-- what is true of each key is true of that of an element
each_at : {K X : Type 0} (P : K → Type 0) (key : X → K) (xs : List X) (i : ℕ) (d : X) → AllByRecursion P (map key xs) → i < length xs → P (key (get_or xs i d))
each_at P key [] i d all lt = absurd (omega arith)
each_at P key (y ∷ ys) zero d all lt = all.0
each_at P key (y ∷ ys) (suc i) d all lt = each_at P key ys i d all.1 (omega arith)

module _ {K X : Type 0} (R : K → K → Ordering) (o : IsTotalOrder R) (key : X → K) where
  -- no element is below the one before it
  rises_at : (xs : List X) (k : ℕ) (d : X) → IsStrictlySortedBy R (map key xs) → suc k < length xs → is_lt (R (key (get_or xs (suc k) d)) (key (get_or xs k d))) ≡ false
  unfolding IsStrictlySortedBy
  rises_at [] k d s lt = absurd (omega arith)
  rises_at (x ∷ xs) zero d s lt =
      let above : R (key x) (key (get_or xs 0 d)) ≡ Less = each_at (λ y. R (key x) y ≡ Less) key xs 0 d s.0 (omega arith) in
      ap is_lt (o.antisymm (key (get_or xs 0 d)) (key x) ∙ ap ordering_reverse above)
  rises_at (x ∷ xs) (suc k) d s lt = rises_at xs k d s.1 (omega arith)

  rises : (xs : List X) → IsStrictlySortedBy R (map key xs) → IsSortedBy (λ a b. is_lt (R (key a) (key b))) xs
  rises xs s k d low lt = rw (add-one k) (rises_at xs k d s (omega arith))

  equal_turned : (x y : K) → R y x ≡ Equal → is_eq (R x y) ≡ true
  equal_turned x y e = ap is_eq (o.antisymm x y ∙ ap ordering_reverse e)

  less_turned : (x y : K) → R y x ≡ Less → is_eq (R x y) ≡ false
  less_turned x y e = ap is_eq (o.antisymm x y ∙ ap ordering_reverse e)

  greater_turned : (x y : K) → R y x ≡ Greater → is_eq (R x y) ≡ false
  greater_turned x y e = ap is_eq (o.antisymm x y ∙ ap ordering_reverse e)

  found_at : (xs : List X) (x : K) (i : ℕ) → i < length xs → ((d : X) → R (key (get_or xs i d)) x ≡ Equal) → list_any (λ y. is_eq (R x (key y))) xs ≡ true
  found_at [] x i lt h = absurd (omega arith)
  found_at (y ∷ ys) x i lt h = any_at (λ z. is_eq (R x (key z))) (y ∷ ys) i y lt (equal_turned x (key (get_or (y ∷ ys) i y)) (h y))

  -- a search finds what is there
  pub searched : (xs : List X) (x : K) (r : Result ℕ ℕ) → IsStrictlySortedBy R (map key xs) → IsSearchInRange r (length xs) → IsBinarySearchResult (λ y. R (key y) x) xs r
      → is_ok r ≡ list_any (λ y. is_eq (R x (key y))) xs
  searched xs x (Ok i) s lt h = sym (found_at xs x i lt h)
  searched xs x (Err i) s lt h =
      let point = h (searchable_from_sorted o key xs x (rises xs s)) in
      sym (none_at (λ y. is_eq (R x (key y))) xs (λ k d lt. elim (cases_lt k i) [
        | inl a ↦ less_turned x (key (get_or xs k d)) (point.0 k d (omega arith) a)
        | inr b ↦ greater_turned x (key (get_or xs k d)) (point.1 k d b lt)
      ]))

-- one of the list itself
pub searched_among : {K : Type 0} (R : K → K → Ordering) (o : IsTotalOrder R) (xs : List K) (x : K) (r : Result ℕ ℕ) → IsStrictlySortedBy R xs → IsSearchInRange r (length xs)
    → IsBinarySearchResult (λ y. R y x) xs r → is_ok r ≡ list_any (λ y. is_eq (R x y)) xs
searched_among R o xs x r s = searched R o (λ y. y) xs x r (subst (IsStrictlySortedBy R) (sym (map-id xs)) s)

-- one of some numbers
pub searched_number : (xs : List ℕ) (x : ℕ) (r : Result ℕ ℕ) → IsStrictlySortedBy nat_cmp xs → IsSearchInRange r (length xs) → IsBinarySearchResult (λ y. nat_cmp y x) xs r
    → is_ok r ≡ list_any (λ y. y == x) xs
searched_number xs x r s lt h = searched_among nat_cmp nat_cmp_total xs x r s lt h ∙ (λ i. list_any (λ y. same_test x y i) xs)

module _ {X : Type 0} (key : X → ℕ) where
  less_apart : (x y : ℕ) → nat_cmp x y ≡ Less → (x == y) ≡ false
  less_apart x y e = sym (same_test y x) ∙ less_turned nat_cmp nat_cmp_total (λ n. n) y x e

  equal_number : (x y : ℕ) → x ≡ y → (x == y) ≡ true
  equal_number x y e = grind (arith, nat_tests)

  -- where keys strictly rise, the element with a key is the first with it
  first_at : (xs : List X) (i : ℕ) (x : ℕ) (d : X) → IsStrictlySortedBy nat_cmp (map key xs) → i < length xs → key (get_or xs i d) ≡ x → find (λ y. key y == x) xs ≡ Some (get_or xs i d)
  unfolding IsStrictlySortedBy
  first_at [] i x d s lt e = absurd (omega arith)
  first_at (y ∷ ys) zero x d s lt e = ap (λ b. cond b (Some y) (find (λ z. key z == x) ys)) (equal_number (key y) x e)
  first_at (y ∷ ys) (suc i) x d s lt e =
      let below : nat_cmp (key y) (key (get_or ys i d)) ≡ Less = each_at (λ z. nat_cmp (key y) z ≡ Less) key ys i d s.0 (omega arith) in
      let apart : (key y == x) ≡ false = less_apart (key y) x (subst (λ z. nat_cmp (key y) z ≡ Less) e below) in
      ap (λ b. cond b (Some y) (find (λ z. key z == x) ys)) apart ∙ first_at ys i x d s.1 (omega arith) e

  pub found_place : (xs : List X) (x i : ℕ) (d : X) → IsStrictlySortedBy nat_cmp (map key xs) → i < length xs → IsBinarySearchResult (λ y. nat_cmp (key y) x) xs (Ok i)
      → find (λ y. key y == x) xs ≡ Some (get_or xs i d)
  found_place xs x i d s lt h = first_at xs i x d s lt (nat_cmp-IsAntisymmetric (key (get_or xs i d)) x (h d))

  pub found_nowhere : (xs : List X) (x i : ℕ) → IsStrictlySortedBy nat_cmp (map key xs) → i ≤ length xs → IsBinarySearchResult (λ y. nat_cmp (key y) x) xs (Err i)
      → find (λ y. key y == x) xs ≡ None
  found_nowhere xs x i s lt h =
      none_found (λ y. key y == x) xs ((λ j. list_any (λ y. sym (same_test x (key y)) j) xs) ∙ sym (searched nat_cmp nat_cmp_total key xs x (Err i) s lt h))
