use Rattle.query_check.specs.Seen.{seen_occurrence}
use Rattle.query_model.specs.Scope.{is_sighting_of}
use Rattle.query_check.proofs.PartReferences.{NoneYet}
use Rattle.query_check.proofs.scope.occurs_in.Given as goal

abbrev pub invariant-loop-occurrence : goal.invariant-loop-occurrence
invariant-loop-occurrence l = NoneYet (is_sighting_of l.name l.level) seen_occurrence l.occurrences l.occurrence-index
