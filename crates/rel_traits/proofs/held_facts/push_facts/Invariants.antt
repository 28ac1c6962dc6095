use Rattle.std.proofs.Common.{◌≡◌, ◌++◌, take}
use Rattle.std.specs.Prelude.{map}
use Rattle.rel_traits.proofs.held_facts.push_facts.Given as goal

abbrev pub invariant-loop-id : goal.invariant-loop-id
invariant-loop-id g l = l.facts.items ≡ l.initial.facts.items ++ map (λ i. (l.entity, i)) (take l.id-index (g.G.Graph.ids l.graph l.entity))
