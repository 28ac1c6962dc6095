use Rattle.query_model.specs.Numbers.{understands_this}
use Rattle.query_model.specs.Seen.{seen_part}
use Rattle.query_check.proofs.PartReferences.{NoneYet}
use Rattle.query_check.proofs.numbers.is_understood.Given as goal

abbrev pub invariant-loop-part : goal.invariant-loop-part
invariant-loop-part l = NoneYet understands_this seen_part l.parts l.part-index
