use Rattle.watch_index.specs.Listed.{Adds}
use Rattle.watch_index.specs.SameOccasion.{occasion_eq}
use Rattle.watch_index.proofs.OccasionLists.{of_first}
use Rattle.watch_index.proofs.lists.list_all.Given as goal

abbrev pub invariant-loop-occasion : goal.invariant-loop-occasion
invariant-loop-occasion g l = Adds l.initial.lists.entries l.lists.entries (of_first occasion_eq l.occasions l.occasion-index) l.number
