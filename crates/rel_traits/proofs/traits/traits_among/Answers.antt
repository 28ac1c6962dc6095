use Rattle.std.proofs.Common.{ap, arith}
use Rattle.std.specs.Int.{bit_at}
use Rattle.rel_traits.proofs.Bits.{none_held, of_all, tells, tells_no_more, with_one_more}
use Rattle.rel_traits.proofs.traits.traits_among.Goals as goal

pub loop-id-init : goal.loop-id-init
loop-id-init c b = ap (λ n. bit_at n b) (none_held c.empty-traits.result.0 (c.empty-traits.ensures tt))

pub loop-id-preserved : goal.loop-id-preserved
loop-id-preserved c =
    with_one_more c.args.ids.now c.loop-id.id-index c.id-item.result c.loop-id.traits.0 c.flag_of.result.0 c.insert.new.self.0 (omega arith) c.id-item.is c.loop-id.invariant c.flag_of.ensures (c.insert.ensures tt)

pub returns-clause-held : goal.returns-clause-held
returns-clause-held c b l = tells c.args.ids.now b c.loop-id.traits.0 (of_all c.args.ids.now c.loop-id.id-index c.loop-id.traits.0 (omega arith) c.loop-id.invariant) l

pub returns-clause-no_more : goal.returns-clause-no_more
returns-clause-no_more c b l = tells_no_more c.args.ids.now b c.loop-id.traits.0 (of_all c.args.ids.now c.loop-id.id-index c.loop-id.traits.0 (omega arith) c.loop-id.invariant) l
