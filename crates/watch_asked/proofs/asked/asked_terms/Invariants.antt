use Rattle.std.proofs.Common.{◌≡◌, take}
use Rattle.std.specs.Prelude.{flat_map}
use Rattle.watch_asked.specs.Asked.{asked_terms}
use Rattle.watch_asked.proofs.asked.asked_terms.Given as goal

abbrev pub invariant-loop-term : goal.invariant-loop-term
invariant-loop-term g l = l.asked.items ≡ flat_map asked_terms (take l.term-index l.terms)
