-- A list that has got longer by what it did not have.
use Rattle.std.specs.Prelude.{◌≡◌, ◌↔◌, ◌⊎◌, ℕ, ◌<◌, ◌≤◌, List, length, slice_index_or, Contains}

module _ {A : Type 0} where
  -- longer at its end by what it did not have of these, in any order
  pub record IsGrownWhere (Added : A → Type 0) (old new : List A) : Type 0 where
    pub longer : length old ≤ length new
    pub kept : (k : ℕ) (d : A) → k < length old → slice_index_or new k d ≡ slice_index_or old k d
    pub exact : (y : A) → Contains new y ↔ (Contains old y ⊎ Added y)

  abbrev pub IsGrownBy : List A → List A → List A → Type 0
  IsGrownBy added old new = IsGrownWhere (Contains added) old new
