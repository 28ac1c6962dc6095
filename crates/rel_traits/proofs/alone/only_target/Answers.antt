use Rattle.std.proofs.Common.{arith, ap, ◌∙◌, []}
use Rattle.std.specs.List.{cons_option}
use Rattle.rel_traits.proofs.LoneFacts.{one_more}
use Rattle.rel_traits.proofs.alone.only_target.Goals as goal

pub loop-id-preserved : goal.loop-id-preserved
loop-id-preserved c =
    one_more c.args.ids.now c.loop-id.id-index c.id-item.result c.args.relationship c.loop-id.only c.in_ok-only.only (omega arith) c.id-item.is c.loop-id.invariant
    (c.in_ok-only.ensures ∙ ap (λ o. cons_option c.loop-id.only (cons_option o [])) c.target_under.ensures)
