use Rattle.std.proofs.Common.{map}
use Rattle.query_model.specs.Check.{counted_spans, most_terms}
use Rattle.query_model.specs.Seen.{seen_part}
use Rattle.query_check.proofs.ItemCounts.{IsCounting}
use Rattle.query_check.proofs.faults.one_too_many.Given as goal

abbrev pub invariant-loop-part : goal.invariant-loop-part
invariant-loop-part l = IsCounting counted_spans most_terms (map seen_part l.parts) l.part-index l.left
