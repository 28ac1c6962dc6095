use Rattle.std.proofs.Common.{◌≡◌, ◌++◌, take}
use Rattle.std.specs.Prelude.{filter, map}
use Rattle.std.specs.Ordering.{is_lt}
use Rattle.ecs_id.specs.Id.{id_cmp}
use Rattle.table_store.specs.Store.{byte_size}
use Rattle.table_store.proofs.shape.push_above.Given as goal

abbrev pub invariant-loop-known : goal.invariant-loop-known
invariant-loop-known g l = l.cells.items ≡ l.initial.cells.items ++ map (λ i. (i, byte_size l.table i)) (filter (λ i. is_lt (id_cmp l.id i)) (take l.known-index l.known-items))
