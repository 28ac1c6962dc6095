use Rattle.std.proofs.Common.{◌≡◌, get_or, map, take}
use Rattle.ecs_model.specs.Depth.{greatest}
use Rattle.ecs_model.specs.Links.{targets_in}
use Rattle.rel_travel.proofs.depths.greatest_word.Given as goal

abbrev pub invariant-loop-id : goal.invariant-loop-id
invariant-loop-id l = l.most ≡ greatest (map (λ t. get_or l.known t 0) (targets_in (take l.id-index l.ids) l.relationship))
