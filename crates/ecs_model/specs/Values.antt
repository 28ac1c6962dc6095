-- Values in memory, eight numbers of which the first are their own, and what is known of values.
use Rattle.std.specs.Prelude.{◌≡◌, ◌≢◌, ◌⊎◌, Bool, true, false, ℕ, ◌-◌, ◌≤◌, List, [], ◌∷◌, ◌++◌, length, take, drop, replicate, ℤ, pos}
use Rattle.std.specs.Bool.{Decides}
use Rattle.std.specs.Cmp.Lexicographic.{pointwise}
use Rattle.std.specs.Ordering.{int_eq}
use Rattle.std.proofs.lemmas.Bool.Decides.{Decides-int_eq}
use Rattle.std.proofs.lemmas.Slice.Eq.{slice_eq-Decides}
use Rattle.std.proofs.Common.{inl, inr, true≢false, refl, arith, sym, ap, ◌∙◌}
use Rattle.std.proofs.lemmas.List.{length-take-le, take-append-drop}
use Rattle.ecs_model.specs.Schema.{Schema, zeros}

-- as many numbers as count, and zeros up to eight
abbrev pub IsFilledUp : List ℤ → ℕ → Type 0
IsFilledUp numbers count = (count ≤ 8) × (length numbers ≡ 8) × (drop count numbers ≡ replicate (8 - count) (pos 0))

-- the numbers in use decide the rest
pub given_back : (numbers : List ℤ) (count : ℕ) → IsFilledUp numbers count
    → (take count numbers ++ replicate (8 - length (take count numbers)) (pos 0) ≡ numbers) × (length (take count numbers) ≡ count)
given_back numbers count h =
    let shown : length (take count numbers) ≡ count = length-take-le count numbers (omega arith) in
    (ap (λ n. take count numbers ++ replicate (8 - n) (pos 0)) shown ∙ ap (λ ns. take count numbers ++ ns) (sym h.2) ∙ take-append-drop count numbers, shown)

-- a new value has a zero for each field
pub zeros-replicate : (fs : Schema) → zeros fs ≡ replicate (length fs) (pos 0)
zeros-replicate [] = refl
zeros-replicate (f ∷ fs) = ap (λ vs. pos 0 ∷ vs) (zeros-replicate fs)

-- `==` on values with what it means, for `grind`
pub value_eq_tells : (xs ys : List ℤ) → ((pointwise int_eq xs ys ≡ true) × (xs ≡ ys)) ⊎ ((pointwise int_eq xs ys ≡ false) × (xs ≢ ys))
value_eq_tells xs ys = by (pointwise int_eq xs ys) refl
  where
    decides : Decides (pointwise int_eq xs ys) (xs ≡ ys)
    decides = slice_eq-Decides Decides-int_eq xs ys (pointwise int_eq xs ys) refl

    by : (b : Bool) → pointwise int_eq xs ys ≡ b → ((pointwise int_eq xs ys ≡ true) × (xs ≡ ys)) ⊎ ((pointwise int_eq xs ys ≡ false) × (xs ≢ ys))
    by true e = inl (e, decides.0 e)
    by false e = inr (e, λ p. true≢false (sym (decides.1 p) ∙ e))
