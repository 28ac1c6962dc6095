-- The fields of a plan: its moves, and how many of them lead to the table of each serial.
use Rattle.std.specs.Prelude.{◌≤◌, ℕ, List, unwrap_or, IfSome, length}
use Rattle.std.specs.Ordering.{nat_cmp}
use Rattle.std.specs.BTreeMap as ordered
use Rattle.std.specs.BTreeMap.{BTreeMap}
use Rattle.ecs_id.specs.declared.TableKey.{TableKey}
use Rattle.ecs_archetypes.specs.declared.plans.EntityMove.{EntityMove}
use Rattle.ecs_archetypes.specs.Moves.{moves_to}

-- at least as many are counted as lead to a table, and no more than there are
pub record AreCounted (moves : List EntityMove) (counts : BTreeMap ℕ ℕ) : Type 0 where
  pub enough : (q : TableKey) → moves_to q moves ≤ unwrap_or (ordered.get nat_cmp counts q.serial) 0
  pub within : (n : ℕ) → IfSome (ordered.get nat_cmp counts n) (λ c. c ≤ length moves)
