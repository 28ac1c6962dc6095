use Rattle.std.proofs.Common.{take}
use Rattle.std.specs.Prelude.{filter, flat_map}
use Rattle.ecs_model.specs.World.{WorldState}
use Rattle.watch_touched.specs.Leaning.{Adds, HoldTheirs, leans, standing_in}
use Rattle.watch_touched.specs.Searches.{is_looked_for}
use Rattle.watch_touched.proofs.leaning.Leaners.push_from_tables.Given as goal

abbrev pub invariant-tables : goal.invariant-tables
invariant-tables g l =
    (w : WorldState) → HoldTheirs w l.store → Adds (filter (leans (is_looked_for l.self) w l.target) (flat_map (standing_in l.store) (take l.listed-index l.tables))) l.initial.found.items l.found.items
