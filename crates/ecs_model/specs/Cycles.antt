-- What another pair of a relationship would do.
use Rattle.std.specs.Prelude.{ℕ, ◌==◌, Bool, List, [], ◌∷◌, ◌++◌, if◌then◌else◌}
use Rattle.ecs_model.specs.Reach.{HasChain}

-- the steps after one from s to t has come, in place of the others from s where only one may be
abbrev pub after_step : (ℕ → List ℕ) → Bool → ℕ → ℕ → ℕ → List ℕ
after_step next exclusive s t x = if x == s then (if exclusive then t ∷ [] else next x ++ t ∷ []) else next x

abbrev pub HasCycle : (ℕ → List ℕ) → Type 0
HasCycle next = (x : ℕ) × HasChain next x x
