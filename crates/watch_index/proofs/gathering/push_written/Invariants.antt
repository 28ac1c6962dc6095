use Rattle.std.specs.Prelude.{flat_map}
use Rattle.std.proofs.Common.{◌≡◌, ◌++◌, take}
use Rattle.watch_index.specs.Listed.{listed}
use Rattle.watch_index.specs.Occasions.{facts_of}
use Rattle.watch_index.specs.declared.occasion.Way.TheVariants.{IsWritten}
use Rattle.watch_index.proofs.gathering.push_written.Given as goal

abbrev pub invariant-loop-fact : goal.invariant-loop-fact
invariant-loop-fact g l = l.numbers.items ≡ l.initial.numbers.items ++ flat_map (λ k. flat_map (listed l.index) (facts_of IsWritten k.1)) (take l.fact-index l.facts)
