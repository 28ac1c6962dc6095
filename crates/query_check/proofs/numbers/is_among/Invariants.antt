use Rattle.query_check.specs.Seen.{seen_variable}
use Rattle.query_model.specs.Numbers.{same_variable}
use Rattle.query_check.proofs.PartReferences.{NoneYet}
use Rattle.query_check.proofs.numbers.is_among.Given as goal

abbrev pub invariant-loop-other : goal.invariant-loop-other
invariant-loop-other l = NoneYet (same_variable (seen_variable l.variable)) seen_variable l.variables l.other-index
