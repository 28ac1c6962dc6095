use Rattle.std.proofs.Common.{◌≡◌, take}
use Rattle.std.specs.List.{flat_map}
use Rattle.ecs_model.specs.Added.{displaced}
use Rattle.rel_traits.proofs.replaced.list_displaced.Given as goal

abbrev pub invariant-loop-fact : goal.invariant-loop-fact
invariant-loop-fact g l = l.replaced.items ≡ flat_map (displaced (g.G.Graph.ids l.graph)) (take l.fact-index l.added)
