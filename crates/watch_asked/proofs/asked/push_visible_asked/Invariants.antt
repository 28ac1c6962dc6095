use Rattle.std.proofs.Common.{◌≡◌, List, take, ℕ, Bool}
use Rattle.std.specs.Prelude.{◌||◌, map, not, true}
use Rattle.std.specs.List.{list_any, range_with_len}
use Rattle.ecs_id.specs.Id.{Id}
use Rattle.query_check.specs.Seen.{seen_piece}
use Rattle.watch_asked.specs.Asked.{any_counts_as, is_idle_from}
use Rattle.watch_asked.proofs.asked.push_visible_asked.Given as goal

-- the variables so far are judged
abbrev pub invariant-loop-variable : goal.invariant-loop-variable
invariant-loop-variable g l =
    (only : ℕ → Bool) (held : List Id) (i : Id) → any_counts_as only l.others.items held i
    ≡ (any_counts_as only l.initial.others.items held i || list_any (λ v. not (is_idle_from only l.terms true (map seen_piece l.pieces) held i v)) (take l.variable (range_with_len 0 l.visible)))
