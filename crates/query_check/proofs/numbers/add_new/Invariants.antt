use Rattle.std.proofs.Common.{map}
use Rattle.query_check.specs.Seen.{seen_variable}
use Rattle.query_check.proofs.VariableNumbers.{IsAdding}
use Rattle.query_check.proofs.numbers.add_new.Given as goal

abbrev pub invariant-loop-variable : goal.invariant-loop-variable
invariant-loop-variable g l = IsAdding l.whole (map seen_variable l.owned) l.variable-index (map seen_variable l.initial.numbered.items) (map seen_variable l.numbered.items)
