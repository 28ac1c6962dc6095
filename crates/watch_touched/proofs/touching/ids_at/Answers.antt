use Rattle.std.specs.Option.{option_map_or}
use Rattle.std.proofs.Common.{ap, ◌∙◌, refl, Bor, List, [], Option}
use Rattle.ecs_id.specs.Id.{Id}
use Rattle.watch_touched.proofs.CommandChanges.{held_or_none, or_none}
use Rattle.watch_touched.proofs.touching.ids_at.Goals as goal

pub returns : goal.returns
returns g c =
    ap (λ (ids : Bor (List Id)). ids.now) c.unwrap_or.ensures
    ∙ or_none c.ids_now.result _ refl
    ∙ ap (λ (ids : Option (List Id)). option_map_or (λ is. is) ids []) c.ids_now.ensures
    ∙ held_or_none c.args.world.now.state c.keeps.ensures c.args.index
