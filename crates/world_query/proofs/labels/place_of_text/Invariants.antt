use Rattle.std.proofs.Common.{◌≡◌, ℕ, ◌<◌, get_or}
use Rattle.world_query.specs.declared.labels.EntityText.{EntityText}
use Rattle.world_query.proofs.labels.place_of_text.Given as goal

abbrev pub invariant-loop-before : goal.invariant-loop-before
invariant-loop-before g l = (k : ℕ) → k < l.before → (t : EntityText g.row.B.Denot) → (get_or l.texts k t).index ≡ l.entity → ⊥
