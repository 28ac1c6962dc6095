use Rattle.std.proofs.Common.{map}
use Rattle.query_check.specs.Seen.{seen_variable}
use Rattle.query_check.proofs.VariableNumbers.{IsSeeking}
use Rattle.query_check.proofs.numbers.place_among.Given as goal

abbrev pub invariant-loop-i : goal.invariant-loop-i
invariant-loop-i l = IsSeeking (seen_variable l.variable) (map seen_variable l.numbered) l.i
