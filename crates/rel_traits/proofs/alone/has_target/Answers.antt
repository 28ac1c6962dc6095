use Rattle.std.proofs.Common.{arith, rules}
use Rattle.rel_traits.proofs.LoneFacts.{none_more}
use Rattle.rel_traits.proofs.alone.has_target.Goals as goal

pub loop-id-preserved : goal.loop-id-preserved
loop-id-preserved c = none_more c.args.ids.now c.loop-id.id-index c.id-item.result c.args.relationship (omega arith) c.id-item.is (search rules) c.loop-id.invariant
