-- Of items in order each once, item by item.
use Rattle.std.specs.Prelude.{◌≡◌, ℕ, ◌+◌, ◌<◌, Bool, true, false, cond, not, List, [], ◌∷◌, ◌++◌, length, take}
use Rattle.std.specs.List.{dedup_from}
use Rattle.std.proofs.Common.{refl, sym, ap, ◌∙◌, append-nil, get_or}
use Rattle.std.proofs.lemmas.Bool.{not-false, not-true}
use Rattle.std.proofs.lemmas.List.{take_more}

module _ {X : Type 0} (same : X → X → Bool) where
  -- the last that is left of an item and those after it
  abbrev pub last_from : X → List X → X
  last_from k [] = k
  last_from k (x ∷ xs) = cond (same x k) (last_from k xs) (last_from x xs)

  pub once_more : (k : X) (xs : List X) (y : X) → dedup_from same k (xs ++ y ∷ []) ≡ dedup_from same k xs ++ cond (same y (last_from k xs)) [] (y ∷ [])
  once_more k [] y = elim (same y k) as (λ b. cond b (k ∷ []) (k ∷ y ∷ []) ≡ k ∷ cond b [] (y ∷ [])) [
    | true ↦ refl
    | false ↦ refl
  ]
  once_more k (x ∷ xs) y =
      elim (same x k) as (λ b. cond b (dedup_from same k (xs ++ y ∷ [])) (k ∷ dedup_from same x (xs ++ y ∷ [])) ≡ cond b (dedup_from same k xs) (k ∷ dedup_from same x xs) ++ cond (same y (cond b (last_from k xs) (last_from x xs))) [] (y ∷ [])) [
        | true ↦ once_more k xs y
        | false ↦ ap (λ ys. k ∷ ys) (once_more x xs y)
      ]

  pub last_more : (k : X) (xs : List X) (y : X) → last_from k (xs ++ y ∷ []) ≡ cond (same y (last_from k xs)) (last_from k xs) y
  last_more k [] y = refl
  last_more k (x ∷ xs) y =
      elim (same x k) as (λ b. cond b (last_from k (xs ++ y ∷ [])) (last_from x (xs ++ y ∷ [])) ≡ cond (same y (cond b (last_from k xs) (last_from x xs))) (cond b (last_from k xs) (last_from x xs)) y) [
        | true ↦ last_more k xs y
        | false ↦ last_more x xs y
      ]

  -- one more of a list is appended, unless it is the same as the last
  module _ (k : X) (xs : List X) (i : ℕ) (y : X) (low : i < length xs) (here : y ≡ get_or xs i y) where
    step : take (i + 1) xs ≡ take i xs ++ y ∷ []
    step = take_more xs i y low ∙ ap (λ z. take i xs ++ z ∷ []) (sym here)

    pub once_same : (once : List X) (last : X) → once ≡ dedup_from same k (take i xs) → last ≡ last_from k (take i xs) → not (same y last) ≡ false
        → (once ≡ dedup_from same k (take (i + 1) xs)) × (last ≡ last_from k (take (i + 1) xs))
    once_same once last so is t =
        let with : same y (last_from k (take i xs)) ≡ true = ap (same y) (sym is) ∙ not-false (same y last) t in (
          so ∙ sym (append-nil (dedup_from same k (take i xs))) ∙ ap (λ b. dedup_from same k (take i xs) ++ cond b [] (y ∷ [])) (sym with) ∙ sym (once_more k (take i xs) y) ∙ ap (dedup_from same k) (sym step),
          is ∙ ap (λ b. cond b (last_from k (take i xs)) y) (sym with) ∙ sym (last_more k (take i xs) y) ∙ ap (last_from k) (sym step),
        )

    pub once_other : (once more : List X) (last : X) → once ≡ dedup_from same k (take i xs) → last ≡ last_from k (take i xs) → not (same y last) ≡ true → more ≡ once ++ y ∷ []
        → (more ≡ dedup_from same k (take (i + 1) xs)) × (y ≡ last_from k (take (i + 1) xs))
    once_other once more last so is t put =
        let with : same y (last_from k (take i xs)) ≡ false = ap (same y) (sym is) ∙ not-true (same y last) t in (
          put ∙ ap (λ xs. xs ++ y ∷ []) so ∙ ap (λ b. dedup_from same k (take i xs) ++ cond b [] (y ∷ [])) (sym with) ∙ sym (once_more k (take i xs) y) ∙ ap (dedup_from same k) (sym step),
          ap (λ b. cond b (last_from k (take i xs)) y) (sym with) ∙ sym (last_more k (take i xs) y) ∙ ap (last_from k) (sym step),
        )
