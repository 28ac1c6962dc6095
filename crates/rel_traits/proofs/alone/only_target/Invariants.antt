use Rattle.std.proofs.Common.{◌≡◌, [], take}
use Rattle.std.specs.List.{cons_option}
use Rattle.ecs_model.specs.Links.{targets_in}
use Rattle.rel_traits.proofs.alone.only_target.Given as goal

abbrev pub invariant-loop-id : goal.invariant-loop-id
invariant-loop-id l = targets_in (take l.id-index l.ids) l.relationship ≡ cons_option l.only []
