use Rattle.std.proofs.Common.{◌≡◌, ◌++◌, take, map}
use Rattle.watch_touched.proofs.facts.push_ids.Given as goal

abbrev pub invariant-loop-fact : goal.invariant-loop-fact
invariant-loop-fact g l = l.ids.items ≡ l.initial.ids.items ++ map (λ k. k.1) (take l.fact-index l.facts)
