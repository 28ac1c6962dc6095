-- Moves of rows are made where they are kept, after all others.
use Rattle.std.specs.Prelude.{◌≡◌, ℕ, List, [], ◌∷◌, ◌++◌, length, take}
use Rattle.std.proofs.Common.{refl, ap, ◌∙◌, get_or}
use Rattle.std.proofs.Math.ListN.{set}
use Rattle.std.proofs.lemmas.List.{take-set}

module _ {X : Type 0} where
  got_last : (xs : List X) (x d : X) → get_or (xs ++ x ∷ []) (length xs) d ≡ x
  got_last [] x d = refl
  got_last (y ∷ ys) x d = got_last ys x d

  set_last : (xs : List X) (x y : X) → set (xs ++ x ∷ []) (length xs) y ≡ xs ++ y ∷ []
  set_last [] x y = refl
  set_last (z ∷ zs) x y = ap (λ ys. z ∷ ys) (set_last zs x y)

  front_of : (xs : List X) (x : X) → take (length xs) (xs ++ x ∷ []) ≡ xs
  front_of [] x = refl
  front_of (y ∷ ys) x = ap (λ zs. y ∷ zs) (front_of ys x)

  module _ (xs items : List X) (x : X) (i : ℕ) (last : i ≡ length xs) (is : items ≡ xs ++ x ∷ []) where
    pub it_is : (d : X) → get_or items i d ≡ x
    it_is d = (λ j. get_or (is j) (last j) d) ∙ got_last xs x d

    pub written : (y : X) → set items i y ≡ xs ++ y ∷ []
    written y = (λ j. set (is j) (last j) y) ∙ set_last xs x y

    pub back : (y : X) (left : List X) (n : ℕ) → left ≡ take n (set items i y) → n ≡ i → left ≡ xs
    back y left n front same = front ∙ (λ j. take (same j) (set items i y)) ∙ take-set items i y ∙ ((λ j. take (last j) (is j)) ∙ front_of xs x)
