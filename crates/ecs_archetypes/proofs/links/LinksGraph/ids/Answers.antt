-- No entity lives at the index.
use Rattle.std.proofs.Common.{ℕ, sym, ◌∙◌}
use Rattle.std.specs.Ordering.{nat_cmp}
use Rattle.ecs_id.specs.declared.EntityId.{EntityId}
use Rattle.ecs_model.specs.Map.{value_at}
use Rattle.ecs_archetypes.specs.Linked.{AreLinked, ids_at_index}
use Rattle.ecs_archetypes.specs.Housing.{holdings_of}
use Rattle.ecs_archetypes.proofs.DeadEntities.{is_none, nothing_held}
use Rattle.ecs_archetypes.proofs.links.LinksGraph.ids.Goals as goal

pub returns-in_default : goal.returns-in_default
returns-in_default g c =
    let l = c.args.self.now in
    let links : AreLinked l.housing l.size = rw (← c.self.view_is) c.self.invariant.linked in
    let live = (holdings_of l.housing).live in
    let dead = is_none (λ (n : ℕ). let e : EntityId = record { index = c.args.index; generation = n } in e) (value_at nat_cmp live c.args.index) (sym c.in_default.is ∙ rw (← c.self.view_is) c.at.ensures) in
    sym (nothing_held l.size live (ids_at_index l) links c.args.index dead)
