use Rattle.std.proofs.Common.{◌≡◌, take}
use Rattle.std.specs.Prelude.{filter, not}
use Rattle.std.specs.List.{list_any}
use Rattle.ecs_model.specs.World.{key_eq}
use Rattle.watch_touched.proofs.facts.ids_not_come.Given as goal

abbrev pub invariant-loop-id : goal.invariant-loop-id
invariant-loop-id g l = l.old.items ≡ filter (λ i. not (list_any (key_eq (l.entity, i)) l.came)) (take l.id-index l.ids)
