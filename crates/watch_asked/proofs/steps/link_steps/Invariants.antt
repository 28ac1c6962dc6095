use Rattle.std.proofs.Common.{◌≡◌, take}
use Rattle.std.specs.Prelude.{flat_map}
use Rattle.watch_asked.specs.Asked.{steps_of}
use Rattle.watch_asked.proofs.steps.link_steps.Given as goal

abbrev pub invariant-loop-term : goal.invariant-loop-term
invariant-loop-term g l = l.steps.items ≡ flat_map steps_of (take l.term-index l.terms)
