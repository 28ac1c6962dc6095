use Rattle.std.proofs.Common.{◌≡◌, false, take}
use Rattle.std.specs.List.{list_any}
use Rattle.ecs_observe.specs.Stored.{hears_set}
use Rattle.ecs_observe.proofs.queries.StoredQueries.may_tell_set.Given as goal

abbrev pub invariant-loop-made : goal.invariant-loop-made
invariant-loop-made g l = list_any (hears_set l.id) (take l.made-index l.all) ≡ false
