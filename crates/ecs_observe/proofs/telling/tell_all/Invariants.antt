use Rattle.std.proofs.Common.{◌≡◌, ◌≤◌, false, map}
use Rattle.std.specs.List.{list_any}
use Rattle.ecs_observe.specs.Parts.{held_of}
use Rattle.watch_stored.specs.Held.{is_searched, is_taken_whole, rows_put, told_to}
use Rattle.ecs_observe.specs.Stored.{entries_of}
use Rattle.ecs_observe.proofs.ComparedCounts.{AreDoneUpTo}
use Rattle.ecs_observe.proofs.PassedPlaces.{AreToldTo}
use Rattle.ecs_observe.proofs.telling.tell_all.Given as goal

abbrev pub invariant-loop-place : goal.invariant-loop-place
invariant-loop-place g l =
    let w = l.effect.world.now.state in
    let changed = l.effect.changes.now in
    let es = entries_of l.stored in
    let before = l.initial.report in
    record {
      told : AreToldTo (told_to w changed) (rows_put w changed) (map held_of es) before.events.items
          (AreDoneUpTo (rows_put w changed) (is_searched changed) (is_taken_whole changed) es before.searches.compared) l.places l.place-index l.report.events.items (l.report.rows.items, l.report.searches.compared);
      spared : list_any (is_searched changed) (map held_of es) ≡ false → l.report.searches.compared ≡ before.searches.compared;
      grows : before.searches.compared ≤ l.report.searches.compared;
    }
