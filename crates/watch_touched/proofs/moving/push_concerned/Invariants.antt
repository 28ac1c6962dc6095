use Rattle.std.proofs.Common.{◌≡◌, ◌++◌, take}
use Rattle.watch_concerns.specs.Concerns.{concerns}
use Rattle.watch_concerns.specs.Others.{concerns_below, concerns_others}
use Rattle.watch_touched.specs.Moving.{entities_by}
use Rattle.watch_touched.proofs.moving.push_concerned.Given as goal

abbrev pub invariant-loop-fact : goal.invariant-loop-fact
invariant-loop-fact g l = record {
  own : l.own.items ≡ l.initial.own.items ++ entities_by (concerns l.query) (take l.fact-index l.facts);
  others : l.targets.others.items ≡ l.initial.targets.others.items ++ entities_by (concerns_others l.query) (take l.fact-index l.facts);
  below : l.targets.below.items ≡ l.initial.targets.below.items ++ entities_by (concerns_below l.query) (take l.fact-index l.facts);
}
