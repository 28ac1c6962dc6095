use Rattle.std.proofs.Common.{◌≡◌, take}
use Rattle.rel_traits.specs.After.{ClosesOne}
use Rattle.rel_traits.proofs.cycles.adds_cycle.Given as goal

abbrev pub invariant-loop-fact : goal.invariant-loop-fact
invariant-loop-fact g l = record {
  size : l.scratch.size ≡ l.initial.scratch.size;
  none : ¬ (ClosesOne (g.G.Graph.ids l.graph) l.entity (take l.fact-index l.added));
}
