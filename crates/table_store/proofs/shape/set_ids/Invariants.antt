use Rattle.std.proofs.Common.{◌≡◌, take, map}
use Rattle.table_store.proofs.shape.set_ids.Given as goal

abbrev pub invariant-loop-cell : goal.invariant-loop-cell
invariant-loop-cell g l = l.ids.items ≡ map (λ c. c.0) (take l.cell-index l.shape)
