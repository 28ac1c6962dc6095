use Rattle.std.proofs.Common.{◌≡◌, ◌++◌, length, take}
use Rattle.std.specs.List.{filter}
use Rattle.query_cache.specs.Kept.{Counts, is_kept as kept_there, stands}
use Rattle.query_cache.proofs.kept.take_in.Given as goal

abbrev pub invariant-loop-key : goal.invariant-loop-key
invariant-loop-key g l = record {
  taken : l.keys.items ≡ l.fn.keys.items ++ filter (kept_there l.patterns l.tables) (take l.key-index l.key-items);
  counted : Counts l.fn.judged (length (filter (stands l.tables) (take l.key-index l.key-items))) l.judged;
}
