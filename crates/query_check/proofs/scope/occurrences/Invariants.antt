use Rattle.std.proofs.Common.{[], map}
use Rattle.query_check.specs.Seen.{seen_use, seen_occurrence, sighting_of}
use Rattle.query_check.proofs.PartReferences.{HasLeft}
use Rattle.query_check.proofs.scope.occurrences.Given as goal

abbrev pub invariant-loop-used : goal.invariant-loop-used
invariant-loop-used g l = HasLeft sighting_of (map seen_use l.uses) l.used-index [] (map seen_occurrence l.found.items)
