use Rattle.std.proofs.Common.{List, sym, ap, ◌∙◌}
use Rattle.std.specs.List.{list_any}
use Rattle.ecs_id.specs.Id.{Id, id_eq}
use Rattle.world_facts.proofs.WorldFactsFacts.has.Goals as goal

pub returns : goal.returns
returns g c =
    rw (← c.self.view_is)
    (c.contains.ensures.value ∙ ap (λ (ids : List Id). list_any (λ i. id_eq i c.args.id) ids) (c.ids.ensures ∙ sym (c.self.invariant.0.sees.ids_are c.args.entity)))
