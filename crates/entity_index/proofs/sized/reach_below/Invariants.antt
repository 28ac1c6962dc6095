use Rattle.std.proofs.Common.{◌≡◌, ℕ, ◌<◌, true}
use Rattle.entity_index.specs.Entities.{is_live}
use Rattle.entity_index.proofs.sized.reach_below.Given as goal

abbrev pub invariant-loop-size : goal.invariant-loop-size
invariant-loop-size g l = record { bound : (i : ℕ) → is_live l.index i ≡ true → i < l.size }

abbrev pub decreases-loop-size : goal.decreases-loop-size
decreases-loop-size g l = l.size
