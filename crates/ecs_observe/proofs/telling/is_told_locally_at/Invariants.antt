use Rattle.std.proofs.Common.{◌≡◌, false, take}
use Rattle.std.specs.List.{list_any}
use Rattle.ecs_observe.specs.Stored.{entries_of}
use Rattle.ecs_observe.specs.Telling.{is_locally_at}
use Rattle.ecs_observe.proofs.telling.is_told_locally_at.Given as goal

abbrev pub invariant-loop-place : goal.invariant-loop-place
invariant-loop-place g l = list_any (is_locally_at (entries_of l.stored)) (take l.place-index l.places) ≡ false
