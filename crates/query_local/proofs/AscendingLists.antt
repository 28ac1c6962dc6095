-- Ascending lists of numbers: two with the same numbers are one list.
use Rattle.std.proofs.Common.{◌≡◌, ℕ, suc, ◌<◌, Bool, true, false, cond, ◌⊎◌, inl, inr, List, [], ◌∷◌, length, refl, sym, ap, ◌∙◌, subst, arith}
use Rattle.std.specs.Prelude.{◌==◌, ◌&&◌, ◌||◌, AllPairs, filter}
use Rattle.std.specs.List.Sorted.{IsStrictlyIncreasing}
use Rattle.std.proofs.lemmas.Bool.{false≢true, cases_Bool, eqb-true, eq-eqb, or_cases}
use Rattle.std.proofs.lemmas.List.Kept.{AllPairs-from_increasing}
use Rattle.query_meaning.specs.Variables.{contains}
use Rattle.query_meaning.proofs.Assignments.{or_left}
use Rattle.query_meaning.proofs.Lists.{place_of}
use Rattle.query_meaning.proofs.StepNames.{In-from_contains}

-- each number is below those after it
abbrev Rises : List ℕ → Type 0
Rises [] = Unit {0}
Rises (x ∷ xs) = ((e : ℕ) → contains xs e ≡ true → x < e) × Rises xs

rises : (xs : List ℕ) → AllPairs (λ a b. a < b) xs → Rises xs
rises [] h = tt
rises (x ∷ xs) h = (
  λ e i. let p = place_of xs e (In-from_contains xs e i) in let low : p.0 < length xs = p.1 in subst (λ y. x < y) p.2 (h 0 (suc p.0) e (omega arith) (omega arith)),
  rises xs (λ i j d low high. h (suc i) (suc j) d (omega arith) (omega arith)),
)

first_there : (x : ℕ) (xs : List ℕ) → contains (x ∷ xs) x ≡ true
first_there x xs = or_left (x == x) (contains xs x) (eq-eqb x x refl)

-- a number of a list that rises isn't below its first
not_below : (y : ℕ) (ys : List ℕ) → Rises (y ∷ ys) → (x : ℕ) → contains (y ∷ ys) x ≡ true → (y ≡ x) ⊎ (y < x)
not_below y ys r x h = elim (or_cases _ _ h) [ inl e ↦ inl (eqb-true y x e) | inr i ↦ inr (r.0 x i) ]

-- which is no other number of it
first_once : (x : ℕ) (xs : List ℕ) → Rises (x ∷ xs) → contains xs x ≡ false
first_once x xs r = elim (cases_Bool (contains xs x)) [ inl t ↦ let below = r.0 x t in absurd (omega arith) | inr f ↦ f ]

same_first : (x y : ℕ) (xs ys : List ℕ) → Rises (x ∷ xs) → Rises (y ∷ ys)
    → contains (y ∷ ys) x ≡ true → contains (x ∷ xs) y ≡ true → x ≡ y
same_first x y xs ys r s h k = elim (not_below y ys s x h) [
  | inl e ↦ sym e
  | inr low ↦ elim (not_below x xs r y k) [ inl e ↦ e | inr high ↦ absurd (omega (arith, low, high)) ]
]

same_rest : (x : ℕ) (xs ys : List ℕ) → Rises (x ∷ xs) → Rises (x ∷ ys)
    → ((e : ℕ) → contains (x ∷ xs) e ≡ contains (x ∷ ys) e) → (e : ℕ) → contains xs e ≡ contains ys e
same_rest x xs ys r s h e = elim (cases_Bool (x == e)) [
  | inl t ↦ let is = eqb-true x e t in subst (λ d. contains xs d ≡ contains ys d) is (first_once x xs r ∙ sym (first_once x ys s))
  | inr f ↦ sym (ap (λ b. b || contains xs e) f) ∙ h e ∙ ap (λ b. b || contains ys e) f
]

same_rising : (xs ys : List ℕ) → Rises xs → Rises ys → ((e : ℕ) → contains xs e ≡ contains ys e) → xs ≡ ys
same_rising [] [] r s h = refl
same_rising [] (y ∷ ys) r s h = absurd (false≢true (h y ∙ first_there y ys))
same_rising (x ∷ xs) [] r s h = absurd (false≢true (sym (h x) ∙ first_there x xs))
same_rising (x ∷ xs) (y ∷ ys) r s h =
    let is : x ≡ y = same_first x y xs ys r s (sym (h x) ∙ first_there x xs) (h y ∙ first_there y ys) in
    let rises : Rises (x ∷ ys) = subst (λ z. Rises (z ∷ ys)) (sym is) s in
    let same : (e : ℕ) → contains (x ∷ xs) e ≡ contains (x ∷ ys) e = subst (λ z. (e : ℕ) → contains (x ∷ xs) e ≡ contains (z ∷ ys) e) (sym is) h in
    ap (λ z. z ∷ xs) is ∙ ap (λ zs. y ∷ zs) (same_rising xs ys r.1 s.1 (same_rest x xs ys r rises same))

pub same_ascending : (xs ys : List ℕ) → IsStrictlyIncreasing xs → IsStrictlyIncreasing ys → ((e : ℕ) → contains xs e ≡ contains ys e) → xs ≡ ys
same_ascending xs ys up above h = same_rising xs ys (rises xs (AllPairs-from_increasing xs up)) (rises ys (AllPairs-from_increasing ys above)) h

-- a filter keeps the numbers that pass
kept_first : (x e : ℕ) (b : Bool) (p : ℕ → Bool) (xs ys : List ℕ) → p x ≡ b → contains xs e ≡ (contains ys e && p e)
    → contains (cond b (x ∷ xs) xs) e ≡ (contains (x ∷ ys) e && p e)
kept_first x e b p xs ys is rest = elim (cases_Bool (x == e)) [
  | inl t ↦ let same : p e ≡ b = ap p (sym (eqb-true x e t)) ∙ is in by b t same is
  | inr f ↦ other b f
]
  where
    by : (b : Bool) → (x == e) ≡ true → p e ≡ b → p x ≡ b → contains (cond b (x ∷ xs) xs) e ≡ (contains (x ∷ ys) e && p e)
    by true t same is = or_left (x == e) (contains xs e) t ∙ sym (ap (λ c. c && p e) (or_left (x == e) (contains ys e) t) ∙ same)
    by false t same is = rest ∙ ap (λ c. contains ys e && c) same ∙ none (contains ys e) ∙ sym (ap (λ c. contains (x ∷ ys) e && c) same ∙ none (contains (x ∷ ys) e))
      where
        none : (c : Bool) → (c && false) ≡ false
        none true = refl
        none false = refl

    other : (b : Bool) → (x == e) ≡ false → contains (cond b (x ∷ xs) xs) e ≡ (contains (x ∷ ys) e && p e)
    other true f = ap (λ c. c || contains xs e) f ∙ rest ∙ sym (ap (λ c. (c || contains ys e) && p e) f)
    other false f = rest ∙ sym (ap (λ c. (c || contains ys e) && p e) f)

pub contains-filter : (p : ℕ → Bool) (xs : List ℕ) (e : ℕ) → contains (filter p xs) e ≡ (contains xs e && p e)
contains-filter p [] e = refl
contains-filter p (x ∷ xs) e = kept_first x e (p x) p (filter p xs) xs refl (contains-filter p xs e)
