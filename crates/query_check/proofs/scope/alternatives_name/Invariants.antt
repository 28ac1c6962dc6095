use Rattle.std.proofs.Common.{map}
use Rattle.query_model.specs.Scope.{names_variable}
use Rattle.query_model.specs.Seen.{seen_part}
use Rattle.query_check.proofs.PartReferences.{AlternativesYet}
use Rattle.query_check.proofs.scope.alternatives_name.Given as goal

abbrev pub invariant-loop-part : goal.invariant-loop-part
invariant-loop-part l = AlternativesYet (names_variable l.name) (map seen_part l.parts) l.part-index
