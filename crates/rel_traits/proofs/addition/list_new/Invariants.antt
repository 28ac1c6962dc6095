use Rattle.std.proofs.Common.{◌≡◌, take}
use Rattle.std.specs.Prelude.{filter, not}
use Rattle.rel_traits.specs.FactLists.{is_fact}
use Rattle.rel_traits.proofs.addition.list_new.Given as goal

abbrev pub invariant-loop-fact : goal.invariant-loop-fact
invariant-loop-fact g l = l.came.items ≡ filter (λ k. not (is_fact (g.G.Graph.ids l.graph) k)) (take l.fact-index l.facts)
