use Rattle.std.proofs.Common.{◌≡◌, ◌++◌, take, map}
use Rattle.watch_touched.proofs.indexes.push_entities.Given as goal

abbrev pub invariant-loop-fact : goal.invariant-loop-fact
invariant-loop-fact g l = l.indexes.items ≡ l.initial.indexes.items ++ map (λ k. k.0) (take l.fact-index l.facts)
