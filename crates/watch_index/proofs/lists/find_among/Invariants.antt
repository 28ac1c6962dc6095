use Rattle.std.specs.Prelude.{◌≡◌, None, take}
use Rattle.std.specs.Map.{lookup}
use Rattle.watch_index.specs.SameOccasion.{occasion_eq}
use Rattle.watch_index.proofs.lists.find_among.Given as goal

-- none of those so far is the occasion's
abbrev pub invariant-loop-at : goal.invariant-loop-at
invariant-loop-at g l = lookup (occasion_eq l.occasion) (take l.at l.lists.entries) ≡ None
