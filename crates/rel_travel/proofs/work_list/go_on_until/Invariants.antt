use Rattle.std.proofs.Common.{◌≡◌, ◌-◌, ◌≤◌, List, ℕ}
use Rattle.rel_travel.specs.Followed.{IsFollowed}
use Rattle.rel_travel.proofs.work_list.go_on_until.Given as goal

abbrev pub invariant-loop-found : goal.invariant-loop-found
invariant-loop-found g l = record {
  size : l.found.size ≡ l.initial.found.size;
  grows : l.initial.done ≤ l.done;
  followed : (start : List ℕ) → IsFollowed (g.R.Rule.next l.rule) start l.initial.found.items l.initial.done → IsFollowed (g.R.Rule.next l.rule) start l.found.items l.done;
}

abbrev pub decreases-loop-found : goal.decreases-loop-found
decreases-loop-found g l = l.initial.found.size - l.done
