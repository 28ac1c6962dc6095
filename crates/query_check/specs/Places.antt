-- Where the parts of a query stand, as the code holds it.
use Rattle.std.specs.Prelude.{◌≡◌, ℕ, ◌+◌, ◌-◌, ◌<◌, ◌≤◌, List, [], ◌∷◌, map, drop, length}
use Rattle.std.proofs.Common.{get_or}
use Rattle.query_check.specs.declared.places.PartPlace.{PartPlace}
use Rattle.query_model.specs.Syntax.{Part}
use Rattle.query_model.specs.Levels.{Path, level_of, placed_parts}

-- a path by its innermost level, the level around that, and its length
abbrev pub place_of : Path → PartPlace
place_of path = record { level = level_of path; outer = level_of (drop 1 path); depth = length path }

abbrev pub place_of_part : Path × Part → PartPlace
place_of_part p = place_of p.0

abbrev pub places_of : List Part → List PartPlace
places_of ps = map place_of_part (placed_parts ps)

pub record IsPlaceOf (place : PartPlace) (path : Path) : Type 0 where
  pub is : place ≡ place_of path

-- each level of the path is begun by a part before, whose place names the level around
abbrev pub Rooted : List PartPlace → Path → Type 0
Rooted places [] = Unit {0}
Rooted places (l ∷ ls) = (0 < l) × (l ≤ length places) × (level_of ls < l) × ((get_or places (l - 1) (place_of [])).outer ≡ level_of ls) × Rooted places ls

pub record IsRooted (places : List PartPlace) (path : Path) : Type 0 where
  pub is : Rooted places path

-- each part's level is begun by it or a part before, and the level around by a part before
abbrev pub IsTree : List PartPlace → Type 0
IsTree places = (k : ℕ) (d : PartPlace) → k < length places → ((get_or places k d).level ≤ k + 1) × ((get_or places k d).outer ≤ k)
