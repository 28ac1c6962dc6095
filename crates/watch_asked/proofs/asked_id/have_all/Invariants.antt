use Rattle.std.proofs.Common.{◌≡◌, ◌++◌, drop}
use Rattle.std.specs.Prelude.{map}
use Rattle.watch_asked.specs.Asked.{have_all}
use Rattle.watch_asked.proofs.asked_id.have_all.Given as goal

abbrev pub invariant-loop-one : goal.invariant-loop-one
invariant-loop-one l = have_all l.asked (l.ids ++ map (λ k. k.1) l.facts) ≡ have_all (drop l.one-index l.asked) (l.ids ++ map (λ k. k.1) l.facts)
