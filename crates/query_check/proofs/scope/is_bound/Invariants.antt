use Rattle.std.proofs.Common.{map}
use Rattle.query_model.specs.Seen.{seen_part}
use Rattle.query_check.proofs.PartReferences.{IsBoundBehind}
use Rattle.query_check.proofs.scope.is_bound.Given as goal

abbrev pub invariant-loop-i : goal.invariant-loop-i
invariant-loop-i l = IsBoundBehind (map seen_part l.parts) l.name l.level l.i
