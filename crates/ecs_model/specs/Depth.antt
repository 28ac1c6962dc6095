-- The depth of a thing: the length of the longest chain that starts there.
use Rattle.std.specs.Prelude.{ℕ, zero, suc, ◌≤◌, max, List, [], ◌∷◌, map, Contains}

-- a chain of so many steps leads from x to another thing
pub data IsChain {A : Type 0} (next : A → List A) (x : A) : ℕ → A → Type 0 where
  no_step : IsChain next x zero x
  one_more : {n : ℕ} {y z : A} → IsChain next x n y → Contains (next y) z → IsChain next x (suc n) z

-- the longest chain from x has so many steps
pub record IsDepth {A : Type 0} (next : A → List A) (x : A) (n : ℕ) : Type 0 where
  -- some chain has as many
  pub reached : (y : A) × IsChain next x n y
  -- and none has more
  pub longest : (m : ℕ) (y : A) → IsChain next x m y → m ≤ n

-- the greatest of some numbers, 0 where there is none
abbrev pub greatest : List ℕ → ℕ
greatest [] = 0
greatest (n ∷ ns) = max n (greatest ns)

-- one more than the greatest depth of what follows, 0 where nothing does; n bounds the steps
unfoldable pub depth_within : {A : Type 0} → (A → List A) → ℕ → A → ℕ
depth_within next zero x = 0
depth_within next (suc n) x = greatest (map (λ y. suc (depth_within next n y)) (next x))
