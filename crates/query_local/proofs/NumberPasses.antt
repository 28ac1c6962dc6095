-- A pass over a list that keeps the numbers of those that pass a test.
use Rattle.std.proofs.Common.{◌≡◌, ℕ, ◌+◌, ◌<◌, ◌≤◌, Bool, true, false, cond, List, [], ◌∷◌, ◌++◌, length, get_or, take, refl, sym, ap, ◌∙◌}
use Rattle.std.specs.Prelude.{filter, map, if◌then◌else◌}
use Rattle.std.proofs.lemmas.List.{map-append, take_all, take_more}
use Rattle.std.proofs.lemmas.List.Elements.{filter-append}

one_more : {X : Type 0} (number : X → ℕ) (p : X → Bool) (xs : List X) (k : ℕ) (x : X) → k < length xs → x ≡ get_or xs k x
    → map number (filter p (take (k + 1) xs)) ≡ map number (filter p (take k xs)) ++ (if p x then number x ∷ [] else [])
one_more number p xs k x within is =
    ap (λ ys. map number (filter p ys)) (take_more xs k x within ∙ ap (λ y. take k xs ++ y ∷ []) (sym is))
    ∙ ap (map number) (filter-append p (take k xs) (x ∷ []))
    ∙ map-append number (filter p (take k xs)) (filter p (x ∷ []))
    ∙ ap (λ ys. map number (filter p (take k xs)) ++ ys) (elim (p x) as (λ b. map number (cond b (x ∷ []) []) ≡ (if b then number x ∷ [] else [])) [ true ↦ refl | false ↦ refl ])

-- a list to which the next is pushed if it passes
pub pushed : {X : Type 0} (number : X → ℕ) (p : X → Bool) (xs : List X) (k : ℕ) (x : X) → k < length xs → x ≡ get_or xs k x → (old new : List ℕ) (wanted : Bool)
    → old ≡ map number (filter p (take k xs)) → wanted ≡ p x → new ≡ old ++ (if wanted then number x ∷ [] else []) → new ≡ map number (filter p (take (k + 1) xs))
pushed number p xs k x within is old new wanted before passes push =
    push
    ∙ ap (λ ys. ys ++ (if wanted then number x ∷ [] else [])) before
    ∙ ap (λ b. map number (filter p (take k xs)) ++ (if b then number x ∷ [] else [])) passes
    ∙ sym (one_more number p xs k x within is)

-- and at its end
pub whole : {X : Type 0} (number : X → ℕ) (p : X → Bool) (xs : List X) (k : ℕ) → length xs ≤ k → map number (filter p (take k xs)) ≡ map number (filter p xs)
whole number p xs k end = ap (λ ys. map number (filter p ys)) (take_all k xs end)
