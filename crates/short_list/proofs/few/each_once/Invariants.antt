use Rattle.std.proofs.Common.{◌≡◌, ◌+◌, ◌≤◌, length, take}
use Rattle.std.specs.List.{dedup_from}
use Rattle.short_list.proofs.DistinctItems.{last_from}
use Rattle.short_list.proofs.few.each_once.Given as goal

abbrev pub invariant-loop-item : goal.invariant-loop-item
invariant-loop-item g l = record {
  once : l.once.items ≡ dedup_from g.T.PartialEq.eq l.initial.last (take l.item-index l.rest);
  last : l.last ≡ last_from g.T.PartialEq.eq l.initial.last (take l.item-index l.rest);
  few : length l.once.items ≤ l.item-index + 1;
}
