-- What searches by halves find in facts that are in order.
use Rattle.std.specs.Prelude.{is_ok}
use Rattle.std.specs.List.{All, filter, list_any}
use Rattle.std.specs.List.Sorted.{IsBinarySearchResult, IsNonDecreasingBy, IsPartitionPoint, IsSearchInRange, IsSortedBy, IsStrictlySortedBy}
use Rattle.std.specs.Ordering.{is_eq, is_gt, is_lt, nat_cmp, ordering_reverse, ordering_then}
use Rattle.std.specs.declared.cmp.Ordering.{Ordering}
use Rattle.std.specs.declared.cmp.Ordering.TheVariants.{Less, Equal, Greater}
use Rattle.std.specs.declared.result.Result.{Result}
use Rattle.std.specs.declared.result.Result.TheVariants.{Ok, Err}
use Rattle.std.proofs.Common.{◌≡◌, ℕ, zero, suc, ◌+◌, ◌-◌, ◌==◌, ◌<◌, ◌≤◌, Bool, true, false, cond, List, [], ◌∷◌, length, get_or, take, drop, refl, sym, ap, ◌∙◌, arith, inl, inr, ltb, leb}
use Rattle.std.proofs.lemmas.Bool.{cases_eq, cases_lt}
use Rattle.std.proofs.lemmas.Bool.Decides.{nat_tests}
use Rattle.std.proofs.lemmas.List.{get_or-drop, length-drop, take_all}
use Rattle.std.proofs.lemmas.List.Folds.{list_any_at, list_any_none}
use Rattle.std.proofs.lemmas.List.Sorted.{IsNonDecreasingBy-drop, searchable_from_sorted}
use Rattle.std.proofs.lemmas.Map.Keys.{Less-from_sorted, le_from_not_gt}
use Rattle.ecs_id.specs.Id.{id_cmp}
use Rattle.ecs_model.specs.World.{Key, key_cmp, key_eq}
use Rattle.ecs_model.proofs.Maps.{key_cmp_total}

-- a fact below another is of no later entity
not_later : (x y : Key) → key_cmp x y ≡ Less → x.0 ≤ y.0
unfolding key_cmp
not_later x y less = le_from_not_gt x.0 y.0 (by (nat_cmp x.0 y.0) less)
  where
    by : (r : Ordering) → ordering_then r (id_cmp x.1 y.1) ≡ Less → is_gt r ≡ false
    by Less h = refl
    by Equal h = refl
    by Greater h = cc

turned : (x y : Key) → key_eq x y ≡ is_eq (ordering_reverse (key_cmp y x))
turned x y = ap is_eq (key_cmp_total.antisymm x y)

-- where a run of a list is what passes
only_run : {X : Type 0} (p : X → Bool) (xs : List X) (s n : ℕ) → s + n ≤ length xs
    → ((k : ℕ) (d : X) → k < s → p (get_or xs k d) ≡ false)
    → ((k : ℕ) (d : X) → s ≤ k → k < s + n → p (get_or xs k d) ≡ true)
    → ((k : ℕ) (d : X) → s + n ≤ k → k < length xs → p (get_or xs k d) ≡ false)
    → filter p xs ≡ take n (drop s xs)
only_run p [] zero zero long low here high = refl
only_run p [] zero (suc n) long low here high = absurd (omega (arith, long))
only_run p [] (suc s) n long low here high = absurd (omega (arith, long))
only_run p (x ∷ xs) zero zero long low here high =
    ap (λ b. cond b (x ∷ filter p xs) (filter p xs)) (high 0 x (omega arith) (omega arith))
    ∙ only_run p xs zero zero (omega arith) (λ k d l. absurd (omega (arith, l))) (λ k d g l. absurd (omega (arith, l)))
    (λ k d g l. high (suc k) d (omega arith) (omega (arith, l)))
only_run p (x ∷ xs) zero (suc n) long low here high =
    ap (λ b. cond b (x ∷ filter p xs) (filter p xs)) (here 0 x (omega arith) (omega arith))
    ∙ ap (λ ys. x ∷ ys)
    (only_run p xs zero n (omega (arith, long)) (λ k d l. absurd (omega (arith, l))) (λ k d g l. here (suc k) d (omega arith) (omega (arith, l)))
    (λ k d g l. high (suc k) d (omega (arith, g)) (omega (arith, l))))
only_run p (x ∷ xs) (suc s) n long low here high =
    ap (λ b. cond b (x ∷ filter p xs) (filter p xs)) (low 0 x (omega arith))
    ∙ only_run p xs s n (omega (arith, long)) (λ k d l. low (suc k) d (omega (arith, l)))
    (λ k d g l. here (suc k) d (omega (arith, g)) (omega (arith, l)))
    (λ k d g l. high (suc k) d (omega (arith, g)) (omega (arith, l)))

module _ (xs : List Key) (rise : IsStrictlySortedBy key_cmp xs) where
  in_order : IsSortedBy (λ a b. is_lt (key_cmp a b)) xs
  in_order k d low lt = ap is_lt (key_cmp_total.antisymm (get_or xs (k + 1) d) (get_or xs k d) ∙ ap ordering_reverse (Less-from_sorted key_cmp xs k (k + 1) d rise (omega arith) lt))

  pub by_entity : IsNonDecreasingBy (λ k. k.0) xs
  by_entity i j d le within = elim (cases_eq i j) [
    | inl same ↦ omega (arith, ap (λ k. (get_or xs k d).0) same)
    | inr apart ↦ not_later (get_or xs i d) (get_or xs j d) (Less-from_sorted key_cmp xs i j d rise (omega (arith, le, apart)) within)
  ]

  -- a search finds a fact that is there
  pub searched : (x : Key) (r : Result ℕ ℕ) → IsSearchInRange r (length xs) → IsBinarySearchResult (λ y. key_cmp y x) xs r
      → is_ok r ≡ list_any (key_eq x) xs
  searched x (Ok i) lt found = sym (list_any_at (key_eq x) xs i x lt (turned x (get_or xs i x) ∙ ap (λ r. is_eq (ordering_reverse r)) (found x)))
  searched x (Err i) lt found = sym (list_any_none (key_eq x) xs none)
    where
      point : IsPartitionPoint (λ y. key_cmp y x ≡ Less) (λ y. key_cmp y x ≡ Greater) xs i
      point = found (searchable_from_sorted key_cmp_total (λ y. y) xs x in_order)

      none : All (λ y. key_eq x y ≡ false) xs
      none k d within = turned x (get_or xs k d) ∙ elim (cases_lt k i) [
        | inl below ↦ ap (λ r. is_eq (ordering_reverse r)) (point.0 k d (omega arith) below)
        | inr above ↦ ap (λ r. is_eq (ordering_reverse r)) (point.1 k d above within)
      ]

below_apart : (a b : ℕ) → ltb a b ≡ true → (a == b) ≡ false
below_apart a b h = grind (arith, nat_tests)

neither_apart : (a b : ℕ) → ltb a b ≡ false → leb a b ≡ true → (a == b) ≡ true
neither_apart a b g h = grind (arith, nat_tests)

above_apart : (a b : ℕ) → leb a b ≡ false → (a == b) ≡ false
above_apart a b h = grind (arith, nat_tests)

-- the facts of an entity lie between those of lower and of higher ones
module _ (xs : List Key) (rise : IsStrictlySortedBy key_cmp xs) (e s n : ℕ) (long : s ≤ length xs) where
  -- those that are not of lower ones, as a slice has them
  abbrev pub rest : List Key
  rest = take (length xs - s) (drop s xs)

  rest_is : rest ≡ drop s xs
  rest_is = take_all (length xs - s) (drop s xs) (omega (arith, length-drop s xs))

  pub rest_by_entity : IsNonDecreasingBy (λ k. k.0) rest
  rest_by_entity = rw rest_is (IsNonDecreasingBy-drop (λ k. k.0) s xs (by_entity xs rise))

  pub entity_run : n ≤ length rest → IsPartitionPoint (λ k. ltb k.0 e ≡ true) (λ k. ltb k.0 e ≡ false) xs s
      → IsPartitionPoint (λ k. leb k.0 e ≡ true) (λ k. leb k.0 e ≡ false) rest n
      → take n rest ≡ filter (λ k. k.0 == e) xs
  entity_run short lower higher =
      let size : length rest ≡ length xs - s = ap length rest_is ∙ length-drop s xs in
      ap (take n) rest_is
      ∙ sym (only_run (λ k. k.0 == e) xs s n (omega (arith, short, size, long))
      (λ k d l. below_apart (get_or xs k d).0 e (lower.0 k d (omega arith) l))
      (λ k d g l. neither_apart (get_or xs k d).0 e (lower.1 k d g (omega (arith, short, size, l))) (sym (ap (λ x. leb x.0 e) (placed k d g)) ∙ higher.0 (k - s) d (omega arith) (omega (arith, g, l))))
      (λ k d g l. above_apart (get_or xs k d).0 e (sym (ap (λ x. leb x.0 e) (placed k d (omega (arith, g)))) ∙ higher.1 (k - s) d (omega (arith, g)) (omega (arith, g, l, size)))))
    where
      placed : (k : ℕ) (d : Key) → s ≤ k → get_or rest (k - s) d ≡ get_or xs k d
      placed k d g = ap (λ ys. get_or ys (k - s) d) rest_is ∙ get_or-drop s xs (k - s) d ∙ ap (λ i. get_or xs i d) (omega (arith, g))
