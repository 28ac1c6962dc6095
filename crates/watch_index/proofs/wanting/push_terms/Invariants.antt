use Rattle.std.specs.Prelude.{flat_map}
use Rattle.std.proofs.Common.{◌≡◌, ◌++◌, take}
use Rattle.watch_index.specs.Occasions.{term_occasions}
use Rattle.watch_index.proofs.wanting.push_terms.Given as goal

abbrev pub invariant-loop-term : goal.invariant-loop-term
invariant-loop-term g l = l.found.items ≡ l.initial.found.items ++ flat_map (term_occasions l.way) (take l.term-index l.terms)
