use Rattle.std.proofs.Common.{ap}
use Rattle.std.specs.Map.{lookup}
use Rattle.indexmap.specs.IndexMap.{get}
use Rattle.ecs_id.specs.Id.{id_eq}
use Rattle.table_store.proofs.EdgeLemmas.{first_behind, second}
use Rattle.table_store.proofs.edges.Edges.write.Goals as goal

pub returns-in-Ok : goal.returns-in-Ok
returns-in-Ok g c = rw c.in-One.is (second c.args.id c.args.to c.in-One.only c.in-Ok.both.items c.in-Ok.ensures)

pub returns-in-Ok-several_edges : goal.returns-in-Ok-several_edges
returns-in-Ok-several_edges g c =
    let several = c.in-Ok-several_edges.several.value in
    rw c.in-Few.is (first_behind c.args.id c.args.to c.in-Few.few.items several.few.items (get id_eq several.others) c.in-Ok-several_edges.ensures.few (λ i. ap (lookup (id_eq i)) c.in-Ok-several_edges.ensures.other))
