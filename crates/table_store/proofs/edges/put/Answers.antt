use Rattle.std.proofs.Common.{◌≡◌, Some, ap, is_ok, sym, ◌∙◌}
use Rattle.std.specs.List.{position}
use Rattle.ecs_id.specs.Id.{id_eq}
use Rattle.table_store.proofs.EdgeLemmas.{found, pushed_if, set_at}
use Rattle.table_store.proofs.edges.put.Goals as goal

pub returns-in-Some : goal.returns-in-Some
returns-in-Some g c =
    let edges = c.args.few.now.items in
    let place : position (λ e. id_eq e.0 c.args.id) edges ≡ Some c.in-Some.place = ap (position (λ e. id_eq e.0 c.args.id)) (sym c.as_slice.ensures.value) ∙ sym c.place_in.ensures.place ∙ c.in-Some.is in
    let at = found edges c.args.id c.in-Some.place place in
    set_at c.args.id c.args.to edges c.in-Some.place at.0 at.1

pub returns-in-None : goal.returns-in-None
returns-in-None g c = pushed_if c.args.id c.args.to (is_ok c.push.result) c.args.few.now.items c.push.new.list.items c.push.ensures.items
