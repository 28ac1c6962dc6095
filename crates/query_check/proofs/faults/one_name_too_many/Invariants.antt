use Rattle.std.proofs.Common.{map}
use Rattle.query_check.specs.Seen.{seen_occurrence}
use Rattle.query_check.proofs.VariableNames.{IsNaming}
use Rattle.query_check.proofs.faults.one_name_too_many.Given as goal

abbrev pub invariant-loop-occurrence : goal.invariant-loop-occurrence
invariant-loop-occurrence g l = IsNaming (map seen_occurrence l.occurrences) l.occurrence-index (map (λ n. n.now) l.seen.items)
