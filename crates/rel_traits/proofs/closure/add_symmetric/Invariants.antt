use Rattle.std.proofs.Common.{◌≡◌, take}
use Rattle.rel_travel.specs.Growing.{IsGrownBy}
use Rattle.rel_traits.proofs.AddedSets.{symmetric_of}
use Rattle.rel_traits.proofs.closure.add_symmetric.Given as goal

abbrev pub invariant-loop-fact : goal.invariant-loop-fact
invariant-loop-fact g l = record {
  size : l.scratch.size ≡ l.initial.scratch.size;
  grown : IsGrownBy (symmetric_of (g.G.Graph.ids l.graph) (take l.fact-index l.facts)) l.initial.scratch.found l.scratch.found;
}
