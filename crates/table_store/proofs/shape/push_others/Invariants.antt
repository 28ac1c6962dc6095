use Rattle.std.proofs.Common.{◌≡◌, ◌++◌, take, not}
use Rattle.std.specs.Prelude.{filter, map}
use Rattle.ecs_id.specs.Id.{id_eq}
use Rattle.table_store.specs.Store.{byte_size}
use Rattle.table_store.proofs.shape.push_others.Given as goal

abbrev pub invariant-loop-known : goal.invariant-loop-known
invariant-loop-known g l = l.cells.items ≡ l.initial.cells.items ++ map (λ i. (i, byte_size l.table i)) (filter (λ i. not (id_eq i l.id)) (take l.known-index l.known-items))
