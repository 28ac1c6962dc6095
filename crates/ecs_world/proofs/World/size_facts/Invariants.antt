-- The facts before this one are listed, each with its size.
use Rattle.std.proofs.Common.{◌≡◌, IsTrue, nat_le, take}
use Rattle.std.specs.List.{list_all}
use Rattle.ecs_world.specs.Changes.{sized_by}
use Rattle.ecs_world.proofs.World.size_facts.Given as goal

abbrev pub invariant-loop-fact : goal.invariant-loop-fact
invariant-loop-fact g l = (l.sized.items ≡ sized_by l.self.state (take l.fact-index l.facts)) × IsTrue (list_all (λ c. nat_le c.1 64) l.sized.items)
