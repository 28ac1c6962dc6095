use Rattle.std.proofs.Common.{◌≡◌, ◌*◌}
use Rattle.std.specs.Prelude.{filter}
use Rattle.std.specs.List.{range_with_len}
use Rattle.entity_set.specs.Members.{has_else}
use Rattle.entity_set.proofs.set.EntitySet.without.Given as goal

abbrev pub invariant-loop-place : goal.invariant-loop-place
invariant-loop-place g l = l.found.items ≡ filter (has_else l.words l.others) (range_with_len 0 (64 * l.place))
