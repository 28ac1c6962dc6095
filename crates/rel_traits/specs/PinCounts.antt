-- What a list of counts means: how many stored queries mention each entity, and of which indexes a count can be kept.
use Rattle.std.specs.Prelude.{ℕ, List, filter, nat_lt}
use Rattle.std.specs.List.{enumerate_from}
use Rattle.ecs_model.specs.Map.{Map}

pub record Counts : Type 0 where
  -- by index; none is 0
  pub entries : Map ℕ ℕ
  -- the count of every index below it can change
  pub reach : ℕ

-- a list has the counts of the first indexes, and those of 0 are left out; so many indexes are covered
abbrev pub counts_of : List ℕ → ℕ → Counts
counts_of counts reach = record { entries = filter (λ e. nat_lt 0 e.1) (enumerate_from 0 counts); reach = reach }
