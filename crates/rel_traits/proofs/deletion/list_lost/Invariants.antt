use Rattle.std.proofs.Common.{◌≡◌, take}
use Rattle.std.specs.Prelude.{filter, flat_map, map}
use Rattle.rel_travel.specs.Referring.{mentions_any}
use Rattle.rel_traits.proofs.deletion.list_lost.Given as goal

abbrev pub invariant-loop-entity : goal.invariant-loop-entity
invariant-loop-entity g l =
    l.facts.items ≡ flat_map (λ y. map (λ i. (y, i)) (filter (mentions_any l.scratch.found) (g.G.Graph.ids l.graph y))) (take l.entity-index l.scratch.referrers)
