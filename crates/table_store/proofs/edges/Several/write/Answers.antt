use Rattle.std.proofs.Common.{◌≡◌, Some, ap, sym, ◌∙◌}
use Rattle.std.specs.List.{position}
use Rattle.indexmap.specs.IndexMap.{get}
use Rattle.ecs_id.specs.Id.{id_eq}
use Rattle.table_store.specs.Kept.{edge_in}
use Rattle.table_store.proofs.EdgeLemmas.{found, put_behind, set_among}
use Rattle.table_store.proofs.edges.Several.write.Goals as goal

pub returns-in-Some : goal.returns-in-Some
returns-in-Some g c =
    let edges = c.args.self.now.few.items in
    let place : position (λ e. id_eq e.0 c.args.id) edges ≡ Some c.in-Some.place = ap (position (λ e. id_eq e.0 c.args.id)) (sym c.as_slice.ensures.value) ∙ sym c.place_in.ensures.place ∙ c.in-Some.is in
    let at = found edges c.args.id c.in-Some.place place in
    set_among c.args.id c.args.to edges c.in-Some.place at.0 at.1 (get id_eq c.args.self.now.others)

pub returns-in-None : goal.returns-in-None
returns-in-None g c =
    put_behind c.args.id c.args.to (edge_in c.args.self.now.few.items) (get id_eq c.args.self.now.others) (get id_eq c.put_hashed.new.others) c.put_hashed.ensures
