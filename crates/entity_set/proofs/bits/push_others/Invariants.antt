use Rattle.std.proofs.Common.{◌≡◌, ◌++◌, ◌*◌}
use Rattle.std.specs.Prelude.{filter}
use Rattle.std.specs.List.{range_with_len}
use Rattle.entity_set.specs.Members.{has_else}
use Rattle.entity_set.proofs.bits.push_others.Given as goal

abbrev pub invariant-loop-bit : goal.invariant-loop-bit
invariant-loop-bit g l = l.found.items ≡ l.initial.found.items ++ filter (has_else l.words l.others) (range_with_len (64 * l.place) l.bit)
