-- Where a search along a line stands.
use Rattle.std.specs.Prelude.{ℕ, List}
use Rattle.rel_travel.specs.declared.path.Step.{Step}

-- the steps of a search, the last one first, and how many there is room for
pub record Trail : Type 0 where
  pub room : ℕ
  pub steps : List Step
