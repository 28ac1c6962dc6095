use Rattle.std.proofs.Common.{◌≡◌, take}
use Rattle.std.specs.Prelude.{flat_map}
use Rattle.watch_asked.specs.Asked.{asks_of}
use Rattle.watch_asked.proofs.asked.asks_of.Given as goal

abbrev pub invariant-loop-term : goal.invariant-loop-term
invariant-loop-term g l = l.asks.items ≡ flat_map (asks_of l.variable) (take l.term-index l.terms)
