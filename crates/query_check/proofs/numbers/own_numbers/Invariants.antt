use Rattle.std.proofs.Common.{map}
use Rattle.query_check.specs.Seen.{seen_variable}
use Rattle.query_check.proofs.VariableNumbers.{IsListing}
use Rattle.query_check.proofs.numbers.own_numbers.Given as goal

abbrev pub invariant-loop-i : goal.invariant-loop-i
invariant-loop-i g l = IsListing l.level (map seen_variable l.numbered) l.i l.own.items
