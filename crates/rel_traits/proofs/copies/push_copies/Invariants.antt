use Rattle.std.proofs.Common.{◌≡◌, ◌++◌, take}
use Rattle.std.specs.Prelude.{flat_map}
use Rattle.rel_traits.specs.Copies.{copy_of}
use Rattle.rel_traits.proofs.copies.push_copies.Given as goal

abbrev pub invariant-loop-id : goal.invariant-loop-id
invariant-loop-id g l = l.copies.items ≡ l.initial.copies.items ++ flat_map (copy_of (g.G.Graph.ids l.graph) l.entity l.added) (take l.id-index (g.G.Graph.ids l.graph l.base))
