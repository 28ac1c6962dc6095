use Rattle.std.proofs.Common.{◌≡◌, ◌++◌, take}
use Rattle.std.specs.Prelude.{filter, map}
use Rattle.rel_travel.specs.Referring.{mentions_any}
use Rattle.rel_traits.proofs.deletion.push_lost.Given as goal

abbrev pub invariant-loop-id : goal.invariant-loop-id
invariant-loop-id g l = l.facts.items ≡ l.initial.facts.items ++ map (λ i. (l.entity, i)) (filter (mentions_any l.scratch.found) (take l.id-index (g.G.Graph.ids l.graph l.entity)))
