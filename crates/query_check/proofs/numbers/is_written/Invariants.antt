use Rattle.query_check.specs.Seen.{seen_occurrence}
use Rattle.query_model.specs.Numbers.{is_this}
use Rattle.query_check.proofs.PartReferences.{NoneYet}
use Rattle.query_check.proofs.numbers.is_written.Given as goal

abbrev pub invariant-loop-occurrence : goal.invariant-loop-occurrence
invariant-loop-occurrence l = NoneYet is_this seen_occurrence l.found l.occurrence-index
