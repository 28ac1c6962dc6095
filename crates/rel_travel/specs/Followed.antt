-- How far a search has come that goes through what it finds, one after another.
use Rattle.std.specs.Prelude.{◌<◌, ℕ, List, length, slice_index_or, Contains}
use Rattle.ecs_model.specs.Reach.{IsReachedFrom}

-- these lead to no others
abbrev pub IsClosed : {A : Type 0} → (A → List A) → List A → Type 0
IsClosed {A} next xs = (y z : A) → Contains xs y → Contains (next y) z → Contains xs z

-- these were found from the start, and all that the first so many bring is among them
pub record IsFollowed {A : Type 0} (next : A → List A) (start items : List A) (done : ℕ) : Type 0 where
  pub sound : (y : A) → Contains items y → IsReachedFrom next start y
  pub begun : (y : A) → Contains start y → Contains items y
  pub closed : (k : ℕ) (d : A) → k < done → k < length items → (z : A) → Contains (next (slice_index_or items k d)) z → Contains items z
