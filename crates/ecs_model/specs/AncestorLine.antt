-- The ancestors of a thing in a line.
use Rattle.std.specs.Prelude.{ℕ, zero, suc, List, [], ◌∷◌, flat_map}

-- each of what follows, then its own line: what is reached in two ways stands there twice; n bounds the steps
unfoldable pub ancestor_line_within : {A : Type 0} → (A → List A) → ℕ → A → List A
ancestor_line_within next zero x = []
ancestor_line_within next (suc n) x = flat_map (λ t. t ∷ ancestor_line_within next n t) (next x)
