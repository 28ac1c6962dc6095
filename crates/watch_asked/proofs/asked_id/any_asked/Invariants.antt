use Rattle.std.proofs.Common.{◌≡◌, drop}
use Rattle.watch_asked.specs.Asked.{any_asked}
use Rattle.watch_asked.proofs.asked_id.any_asked.Given as goal

abbrev pub invariant-loop-one : goal.invariant-loop-one
invariant-loop-one l = any_asked l.asked l.id ≡ any_asked (drop l.one-index l.asked) l.id
