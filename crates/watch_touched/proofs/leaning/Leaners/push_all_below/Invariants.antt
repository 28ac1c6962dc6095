use Rattle.watch_touched.specs.Searches.{leaners_on}
use Rattle.watch_touched.proofs.LowerWalks.{IsWalked}
use Rattle.watch_touched.proofs.leaning.Leaners.push_all_below.Given as goal

abbrev pub invariant-loop-next : goal.invariant-loop-next
invariant-loop-next g l = IsWalked (leaners_on l.self) l.initial.found.items l.found.items l.next
