use Rattle.std.proofs.Common.{take}
use Rattle.std.specs.Prelude.{flat_map}
use Rattle.watch_touched.specs.Leaning.{Adds}
use Rattle.watch_touched.specs.Searches.{leaners_on}
use Rattle.watch_touched.proofs.leaning.Leaners.push_leaning_on_all.Given as goal

abbrev pub invariant-loop-target : goal.invariant-loop-target
invariant-loop-target g l = Adds (flat_map (leaners_on l.self) (take l.target-index l.targets)) l.initial.found.items l.found.items
