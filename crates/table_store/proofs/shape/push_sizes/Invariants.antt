use Rattle.std.proofs.Common.{◌≡◌, ◌++◌, take, map}
use Rattle.table_store.proofs.shape.push_sizes.Given as goal

abbrev pub invariant-loop-cell : goal.invariant-loop-cell
invariant-loop-cell g l = l.sizes.items ≡ l.initial.sizes.items ++ map (λ c. c.1) (take l.cell-index l.shape)
