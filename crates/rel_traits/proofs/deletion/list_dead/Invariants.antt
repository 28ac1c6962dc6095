use Rattle.std.proofs.Common.{◌≡◌, ◌++◌, take}
use Rattle.std.specs.Prelude.{flat_map, map}
use Rattle.rel_traits.proofs.deletion.list_dead.Given as goal

abbrev pub invariant-loop-entity : goal.invariant-loop-entity
invariant-loop-entity g l = l.facts.items ≡ l.initial.facts.items ++ flat_map (λ y. map (λ i. (y, i)) (g.G.Graph.ids l.graph y)) (take l.entity-index l.scratch.found)
