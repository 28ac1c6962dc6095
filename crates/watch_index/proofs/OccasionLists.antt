-- What the lists of the occasions hold after a step, and after many.
use Rattle.std.proofs.Common.{◌≡◌, ℕ, ◌≤◌, subst, ◌+◌, ◌<◌, ◌==◌, ◌&&◌, ◌||◌, not, Bool, true, false, cond, List, [], ◌∷◌, length, take, arith, Option, Some, None, refl, sym, ap, ◌∙◌, slice_index_or}
use Rattle.std.specs.Map.{lookup}
use Rattle.std.specs.Option.{option_map_or}
use Rattle.std.specs.List.{list_any}
use Rattle.std.proofs.lemmas.Bool.{or_right}
use Rattle.std.proofs.lemmas.List.{take_all}
use Rattle.std.proofs.lemmas.List.Folds.{list_any_more}
use Rattle.component_index.proofs.ListedLemmas.{or_none, and_all, added_at, dropped_at, apart_from, or_steps, and_steps, gone_twice, any-take}
pub use Rattle.id_pattern.proofs.Errors.{on_err}
use Rattle.watch_index.specs.declared.occasion.Occasion.{Occasion}
use Rattle.watch_index.specs.Listed.{Adds, AreSame, Drops, Keeps, Listings, has, is_listed}
use Rattle.watch_index.specs.SameOccasion.{occasion_eq, same_occasion}

-- whether a list that there may be has the number
abbrev some_has : Option (List ℕ) → ℕ → Bool
some_has o k = option_map_or (λ list. has list k) o false

module _ (m n : Listings) (occasion : Occasion) (number : ℕ) (o : Option (List ℕ)) (was : lookup (occasion_eq occasion) m ≡ o) where
  was_at : (p : Occasion) → occasion_eq occasion p ≡ true → o ≡ lookup (occasion_eq p) m
  was_at p e = sym was ∙ ap (λ x. lookup (occasion_eq x) m) (same_occasion occasion p e)

  -- what one list has, once its occasion's list is another, or gone
  one_at : (new : Option (List ℕ)) (p : Occasion) (b : Bool) → lookup (occasion_eq p) n ≡ cond (occasion_eq occasion p) new (lookup (occasion_eq p) m) → occasion_eq occasion p ≡ b
      → (k : ℕ) → is_listed n p k ≡ cond b (some_has new k) (is_listed m p k)
  one_at new p true w e k = ap (λ x. some_has x k) (w ∙ (λ i. cond (e i) new (lookup (occasion_eq p) m)))
  one_at new p false w e k = ap (λ x. some_has x k) (w ∙ (λ i. cond (e i) new (lookup (occasion_eq p) m)))

  -- the list of one occasion takes a number
  pub Adds-one : (new : Option (List ℕ)) → ((q : Occasion) → lookup (occasion_eq q) n ≡ cond (occasion_eq occasion q) new (lookup (occasion_eq q) m))
      → ((k : ℕ) → some_has new k ≡ cond (number == k) true (some_has o k)) → Adds m n (occasion_eq occasion) number
  Adds-one new writes adds p k = by (occasion_eq occasion p) refl
    where
      by : (b : Bool) → occasion_eq occasion p ≡ b → is_listed n p k ≡ (is_listed m p k || (occasion_eq occasion p && number == k))
      by true e = one_at new p true (writes p) e k ∙ adds k ∙ added_at (number == k) (some_has o k)
          ∙ (λ i. some_has (was_at p e i) k || (sym e i && number == k))
      by false e = one_at new p false (writes p) e k ∙ or_none (is_listed m p k) ∙ (λ i. is_listed m p k || (sym e i && number == k))

  -- the list of one occasion loses a number, or goes with it
  pub Drops-one : (new : Option (List ℕ)) → ((q : Occasion) → lookup (occasion_eq q) n ≡ cond (occasion_eq occasion q) new (lookup (occasion_eq q) m))
      → ((k : ℕ) → some_has new k ≡ cond (number == k) false (some_has o k)) → Drops m n (occasion_eq occasion) number
  Drops-one new writes drops p k = by (occasion_eq occasion p) refl
    where
      by : (b : Bool) → occasion_eq occasion p ≡ b → is_listed n p k ≡ (is_listed m p k && not (occasion_eq occasion p && number == k))
      by true e = one_at new p true (writes p) e k ∙ drops k ∙ dropped_at (number == k) (some_has o k)
          ∙ (λ i. some_has (was_at p e i) k && not (sym e i && number == k))
      by false e = one_at new p false (writes p) e k ∙ and_all (is_listed m p k) ∙ (λ i. is_listed m p k && not (sym e i && number == k))

  -- the list of one occasion is another with the same numbers
  pub Same-one : (new : Option (List ℕ)) → ((q : Occasion) → lookup (occasion_eq q) n ≡ cond (occasion_eq occasion q) new (lookup (occasion_eq q) m))
      → ((k : ℕ) → some_has new k ≡ some_has o k) → AreSame m n
  Same-one new writes same p k = by (occasion_eq occasion p) refl
    where
      by : (b : Bool) → occasion_eq occasion p ≡ b → is_listed n p k ≡ is_listed m p k
      by true e = one_at new p true (writes p) e k ∙ same k ∙ ap (λ x. some_has x k) (was_at p e)
      by false e = one_at new p false (writes p) e k

-- two steps are one
module _ (m n o : Listings) (a b c : Occasion → Bool) (number : ℕ) where
  pub Adds-steps : ((p : Occasion) → c p ≡ (a p || b p)) → Adds m n a number → Adds n o b number → Adds m o c number
  Adds-steps is f g p k = g p k ∙ (λ i. f p k i || (b p && number == k)) ∙ or_steps (is_listed m p k) (a p) (b p) (number == k)
      ∙ (λ i. is_listed m p k || (sym (is p) i && number == k))

  pub Drops-steps : ((p : Occasion) → c p ≡ (a p || b p)) → Drops m n a number → Drops n o b number → Drops m o c number
  Drops-steps is f g p k = g p k ∙ (λ i. f p k i && not (b p && number == k)) ∙ and_steps (is_listed m p k) (a p) (b p) (number == k)
      ∙ (λ i. is_listed m p k && not (sym (is p) i && number == k))

  pub Keeps-steps : ((p : Occasion) → a p ≡ true → c p ≡ true) → ((p : Occasion) → b p ≡ true → c p ≡ true) → Adds m n a number → Keeps n o b number → Keeps m o c number
  Keeps-steps ac bc f g p k out =
      let outside : (d : Bool) → (d ≡ true → c p ≡ true) → (d && number == k) ≡ false = λ d dc. apart_from (c p) d (number == k) out dc in
      g p k (outside (b p) (bc p)) ∙ f p k ∙ (λ i. is_listed m p k || outside (a p) (ac p) i) ∙ sym (or_none (is_listed m p k))

-- a list that is there no more had the same numbers as one without any
pub gone_at : (m n o : Listings) (occasion : Occasion) (list : List ℕ) → ((q : Occasion) → lookup (occasion_eq q) n ≡ cond (occasion_eq occasion q) (Some list) (lookup (occasion_eq q) m))
    → ((q : Occasion) → lookup (occasion_eq q) o ≡ cond (occasion_eq occasion q) None (lookup (occasion_eq q) n)) → (q : Occasion) → lookup (occasion_eq q) o ≡ cond (occasion_eq occasion q) None (lookup (occasion_eq q) m)
gone_at m n o occasion list f g q = gone_twice (occasion_eq occasion q) list _ _ _ (f q) (g q)

none_in : (ns : List ℕ) (k : ℕ) → length ns ≡ 0 → list_any (λ x. k == x) ns ≡ false
none_in [] k e = refl
none_in (x ∷ ns) k e = absurd (omega arith)

pub has_none : (list : List ℕ) → length list ≡ 0 → (k : ℕ) → false ≡ has list k
has_none list e k = sym (none_in list k e)

-- ---- a step for each of a list
module _ {X : Type 0} (test : X → Occasion → Bool) (xs : List X) where
  -- the occasion passes the test of one of the first
  abbrev pub of_first : ℕ → Occasion → Bool
  of_first i p = list_any (λ x. test x p) (take i xs)

  abbrev pub of_each : Occasion → Bool
  of_each p = list_any (λ x. test x p) xs

  module _ (number : ℕ) where
    pub Adds-begin : (m : Listings) → Adds m m (of_first 0) number
    Adds-begin m p k = or_none (is_listed m p k)

    pub Drops-begin : (m : Listings) → Drops m m (of_first 0) number
    Drops-begin m p k = and_all (is_listed m p k)

    pub Adds-end : (m n : Listings) (i : ℕ) → length xs ≤ i → Adds m n (of_first i) number → Adds m n of_each number
    Adds-end m n i e h = subst (λ ys. Adds m n (λ p. list_any (λ x. test x p) ys) number) (take_all i xs e) h

    pub Drops-end : (m n : Listings) (i : ℕ) → length xs ≤ i → Drops m n (of_first i) number → Drops m n of_each number
    Drops-end m n i e h = subst (λ ys. Drops m n (λ p. list_any (λ x. test x p) ys) number) (take_all i xs e) h

    module _ (m n o : Listings) (i : ℕ) (d x : X) (is : x ≡ slice_index_or xs i d) (within : i < length xs) where
      more : (p : Occasion) → of_first (i + 1) p ≡ (of_first i p || test x p)
      more p = list_any_more (λ y. test y p) xs i d within ∙ (λ j. of_first i p || test (sym is j) p)

      pub Adds-more : Adds m n (of_first i) number → Adds n o (test x) number → Adds m o (of_first (i + 1)) number
      Adds-more f g = Adds-steps m n o (of_first i) (test x) (of_first (i + 1)) number more f g

      pub Drops-more : Drops m n (of_first i) number → Drops n o (test x) number → Drops m o (of_first (i + 1)) number
      Drops-more f g = Drops-steps m n o (of_first i) (test x) (of_first (i + 1)) number more f g

      -- where a step is refused, what was added and what was kept is of the whole list
      pub Keeps-more : Adds m n (of_first i) number → Keeps n o (test x) number → Keeps m o of_each number
      Keeps-more f g = Keeps-steps m n o (of_first i) (test x) of_each number (λ p h. any-take (λ y. test y p) xs i h)
          (λ p h. any-take (λ y. test y p) xs (i + 1) (more p ∙ or_right (of_first i p) _ h)) f g
