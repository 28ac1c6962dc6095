-- The places of those that look out for something.
use Rattle.std.specs.Prelude.{◌≡◌, ℕ, zero, suc, ◌+◌, ◌<◌, ◌≤◌, ◌==◌, ◌&&◌, ◌||◌, Bool, true, false, List, [], ◌∷◌, ◌++◌, All, flat_map, length, take, slice_index_or, Option, Some, None, unwrap_or}
use Rattle.std.specs.List.{AllPairs, Contains}
use Rattle.std.specs.List.Sorted.{IsStrictlyIncreasing}
use Rattle.std.specs.Map.{lookup}
use Rattle.std.specs.Option.{option_map_or}
use Rattle.std.proofs.Common.{refl, sym, ap, subst, ◌∙◌, arith, get_or, inl, inr, true≢false, add-one}
use Rattle.std.proofs.lemmas.Bool.{cases_lt}
use Rattle.std.proofs.lemmas.Bool.Decides.{Decides-eqb}
use Rattle.std.proofs.lemmas.List.{get_or_default}
use Rattle.std.proofs.lemmas.List.Elements.{All-push, Contains-append_left, Contains-append_right, Contains-push, Contains-push_cases}
use Rattle.std.proofs.lemmas.List.Folds.{list_any_at}
use Rattle.std.proofs.lemmas.List.Kept.{AllPairs-from_increasing}
use Rattle.std.proofs.lemmas.List.Quantifiers.{all_pairs_push}
use Rattle.watch_index.specs.declared.occasion.Occasion.{Occasion}
use Rattle.watch_index.specs.Laws.{meets}
use Rattle.watch_index.specs.Listed.{Listings, has, is_among, is_listed, listed}
use Rattle.watch_index.specs.SameOccasion.{occasion_eq}
use Rattle.watch_index.proofs.IndexedValues.{AreIndexed, looks}

-- ---- what is listed
has_contains : (ns : List ℕ) (n : ℕ) → has ns n ≡ true → Contains ns n
has_contains [] n h = absurd (true≢false (sym h))
has_contains (m ∷ ms) n h = by (n == m) refl h (has_contains ms n)
  where
    by : (b : Bool) → (n == m) ≡ b → (b || has ms n) ≡ true → (has ms n ≡ true → Contains ms n) → Contains (m ∷ ms) n
    by true e h rest = (0, omega arith, sym ((Decides-eqb n m).0 e))
    by false e h rest = let r = rest h in (suc r.0, omega (arith, r.1), r.2)

in_list : (ls : Listings) (o : Occasion) (n : ℕ) → is_listed ls o n ≡ true → Contains (listed ls o) n
in_list ls o n h = by (lookup (occasion_eq o) ls) h
  where
    by : (l : Option (List ℕ)) → option_map_or (λ ns. has ns n) l false ≡ true → Contains (unwrap_or l []) n
    by None h = absurd (true≢false (sym h))
    by (Some ns) h = has_contains ns n h

-- whoever looks out for something that happens has a number that is listed for it
led_at : (ls : Listings) (n : ℕ) (wanted happened : List Occasion) → ((o : Occasion) → is_among wanted o ≡ true → is_listed ls o n ≡ true) → meets wanted happened ≡ true
    → Contains (flat_map (listed ls) happened) n
led_at ls n wanted [] lists h = absurd (true≢false (sym h))
led_at ls n wanted (o ∷ os) lists h = by (is_among wanted o) refl h (led_at ls n wanted os lists)
  where
    by : (b : Bool) → is_among wanted o ≡ b → (b || meets wanted os) ≡ true → (meets wanted os ≡ true → Contains (flat_map (listed ls) os) n) → Contains (listed ls o ++ flat_map (listed ls) os) n
    by true e h rest = Contains-append_left (listed ls o) (flat_map (listed ls) os) n (in_list ls o n (lists o e))
    by false e h rest = Contains-append_right (listed ls o) (flat_map (listed ls) os) n (rest h)

take_more : {X : Type 0} (xs : List X) (j : ℕ) (d x : X) → x ≡ slice_index_or xs j d → j < length xs → take (suc j) xs ≡ take j xs ++ x ∷ []
take_more [] j d x e l = absurd (omega (arith, l))
take_more (y ∷ ys) zero d x e l = ap (λ z. z ∷ []) (sym e)
take_more (y ∷ ys) (suc j) d x e l = ap (λ zs. y ∷ zs) (take_more ys j d x e (omega (arith, l)))

-- where numbers rise, no two places have one
one_place : {X : Type 0} (number : X → ℕ) (xs : List X) → AllPairs (λ a b. number a < number b) xs → (i j : ℕ) (d : X) → i < length xs → j < length xs
    → number (get_or xs i d) ≡ number (get_or xs j d) → i ≡ j
one_place number xs rise i j d li lj same = elim (cases_lt i j) [
  | inl less ↦ absurd (omega (arith, rise i j d less lj, same))
  | inr more ↦ elim (cases_lt j i) [
    | inl less ↦ absurd (omega (arith, rise j i d less li, same))
    | inr none ↦ omega (arith, more, none)
  ]
]

module _ {X : Type 0} (number : X → ℕ) (occasions : X → List Occasion) (xs : List X) where
  abbrev pub HavePlaces : List ℕ → List ℕ → Type 0
  HavePlaces ns places = (i : ℕ) (d : X) → i < length xs → Contains ns (number (slice_index_or xs i d)) → Contains places i

  pub led_here : (ls : Listings) → AreIndexed number occasions ls xs → (happened : List Occasion) (ns places : List ℕ)
      → ((n : ℕ) → Contains (flat_map (listed ls) happened) n → Contains ns n) → HavePlaces ns places
      → (i : ℕ) (d : X) → i < length xs → meets (occasions (slice_index_or xs i d)) happened ≡ true → Contains places i
  led_here ls indexed happened ns places all have i d l h =
      let x = slice_index_or xs i d in
      have i d l (all (number x) (led_at ls (number x) (occasions x) happened
      (λ o e. indexed o (number x) ∙ list_any_at (looks number occasions (number x) o) xs i d l (ap (λ b. b && is_among (occasions x) o) ((Decides-eqb (number x) (number x)).1 refl) ∙ e)) h))

  pub none_placed : HavePlaces [] []
  none_placed i d l c = absurd (omega (arith, c.1))

  -- one more number, whose value stands somewhere or nowhere
  module _ (rise : AllPairs (λ a b. number a < number b) xs) (ns places : List ℕ) (j : ℕ) (n e : ℕ) (is : n ≡ slice_index_or ns j e) (within : j < length ns)
      (have : HavePlaces (take j ns) places) where
    next : take (j + 1) ns ≡ take j ns ++ n ∷ []
    next = rw (add-one j) (take_more ns j e n is within)

    pub found_more : (place : ℕ) → place < length xs → ((d : X) → number (get_or xs place d) ≡ n) → HavePlaces (take (j + 1) ns) (places ++ place ∷ [])
    found_more place low at i d l c = elim (Contains-push_cases (take j ns) n (number (slice_index_or xs i d)) (subst (λ ms. Contains ms (number (slice_index_or xs i d))) next c)) [
      | inl before ↦ Contains-append_left places (place ∷ []) i (have i d l before)
      | inr same ↦ subst (λ p. Contains (places ++ place ∷ []) p) (one_place number xs rise place i d low l (at d ∙ same)) (Contains-push places place)
    ]

    pub none_more : ((k : ℕ) (d : X) → k < length xs → number (get_or xs k d) ≡ n → ⊥) → HavePlaces (take (j + 1) ns) places
    none_more nowhere i d l c = elim (Contains-push_cases (take j ns) n (number (slice_index_or xs i d)) (subst (λ ms. Contains ms (number (slice_index_or xs i d))) next c)) [
      | inl before ↦ have i d l before
      | inr same ↦ absurd (nowhere i d l (sym same))
    ]

-- ---- the places of ascending numbers
one_of : {X : Type 0} (xs : List X) (i : ℕ) → i < length xs → X
one_of [] i l = absurd (omega (arith, l))
one_of (x ∷ xs) i l = x

pub ascending : (ns : List ℕ) → AllPairs (λ a b. a < b) ns → IsStrictlyIncreasing ns
ascending ns pairs k l = pairs k (k + 1) 0 (omega arith) l

module _ {X : Type 0} (number : X → ℕ) (xs : List X) (ns : List ℕ) where
  -- at this place stands a number below the j-th and those after it
  abbrev pub IsBelow : ℕ → ℕ → Type 0
  IsBelow j place = (m e : ℕ) (d : X) → j ≤ m → m < length ns → number (get_or xs place d) < get_or ns m e

  abbrev pub AreBelow : ℕ → List ℕ → Type 0
  AreBelow j places = All (IsBelow j) places

  pub none_below : AreBelow 0 []
  none_below k e l = absurd (omega (arith, l))

  pub still_below : (j : ℕ) (places : List ℕ) → AreBelow j places → AreBelow (j + 1) places
  still_below j places below k e l m f d low high = below k e l m f d (omega (arith, low)) high

  module _ (rise : AllPairs (λ a b. number a < number b) xs) (up : IsStrictlyIncreasing ns) (places : List ℕ) (j n f : ℕ) (is : n ≡ slice_index_or ns j f) (inside : j < length ns)
      (place : ℕ) (low : place < length xs) (at : (d : X) → number (get_or xs place d) ≡ n) where
    here : (e : ℕ) (d : X) → number (get_or xs place d) ≡ get_or ns j e
    here e d = at d ∙ is ∙ get_or_default ns j f e inside

    pub more_below : AreBelow j places → AreBelow (j + 1) (places ++ place ∷ [])
    more_below below = All-push (IsBelow (j + 1)) places place (still_below j places below)
        (λ m e d above high. subst (λ k. k < get_or ns m e) (sym (here e d)) (AllPairs-from_increasing ns up j m e (omega (arith, above)) high))

    higher : (p : ℕ) → p < length xs → IsBelow j p → p < place
    higher p within less = elim (cases_lt p place) [
      | inl lower ↦ lower
      | inr not_lower ↦ elim (cases_lt place p) [
        | inl above ↦
            let d = one_of xs place low in
            absurd (omega (arith, rise place p d above within, here 0 d, less j 0 d (omega arith) inside))
        | inr not_above ↦
            let d = one_of xs place low in
            let same : place ≡ p = omega (arith, not_lower, not_above) in
            absurd (omega (arith, ap (λ q. number (get_or xs q d)) same, here 0 d, less j 0 d (omega arith) inside))
      ]
    ]

    pub one_higher : All (λ p. p < length xs) places → AreBelow j places → AllPairs (λ a b. a < b) places → AllPairs (λ a b. a < b) (places ++ place ∷ [])
    one_higher within below pairs = all_pairs_push (λ a b. a < b) places place pairs (λ k e l. higher (get_or places k e) (within k e l) (below k e l))
