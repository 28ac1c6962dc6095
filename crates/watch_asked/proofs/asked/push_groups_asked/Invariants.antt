use Rattle.std.proofs.Common.{◌≡◌, List, drop, ℕ, Bool}
use Rattle.std.specs.Prelude.{◌||◌, map, not}
use Rattle.ecs_id.specs.Id.{Id}
use Rattle.query_check.specs.Seen.{seen_piece}
use Rattle.watch_asked.specs.Asked.{any_counts_as, groups_idle}
use Rattle.watch_asked.proofs.asked.push_groups_asked.Given as goal

-- the variables of the groups that are left aren't judged
abbrev pub invariant-loop-at : goal.invariant-loop-at
invariant-loop-at g l =
    (only : ℕ → Bool) (held : List Id) (i : Id) → (any_counts_as only l.others.items held i || not (groups_idle only l.terms held i (map seen_piece (drop l.at l.pieces))))
    ≡ (any_counts_as only l.initial.others.items held i || not (groups_idle only l.terms held i (map seen_piece l.pieces)))
