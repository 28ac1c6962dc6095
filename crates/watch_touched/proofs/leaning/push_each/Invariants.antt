use Rattle.std.proofs.Common.{take}
use Rattle.std.specs.Prelude.{map}
use Rattle.watch_touched.specs.Leaning.{Adds}
use Rattle.watch_touched.proofs.leaning.push_each.Given as goal

abbrev pub invariant-loop-entity : goal.invariant-loop-entity
invariant-loop-entity g l = Adds (map (λ e. e.index) (take l.entity-index l.entities)) l.initial.found.items l.found.items
