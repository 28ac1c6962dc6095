use Rattle.std.proofs.lemmas.Grind.{common_steps}
use Rattle.std.proofs.Common.{sym, arith}
use Rattle.rel_travel.proofs.ForbiddenDeletions.{mentioned_below}
use Rattle.rel_travel.proofs.forbidding.forbids_one.Goals as goal

pub is_forbidding-requires : goal.is_forbidding-requires
is_forbidding-requires g c =
    mentioned_below c.size.ensures.links c.args.members.now.size c.requires.members c.args.entity c.id-item.result (rw (← c.ids-id-items.ensures) (c.loop-id.id-index, omega arith, sym c.id-item.is))

pub loop-id-init : goal.loop-id-init
loop-id-init g c = grind arith

pub offset_bounds-id-items-id-index : goal.offset_bounds-id-items-id-index
offset_bounds-id-items-id-index g c = grind arith

pub returns-then-is_forbidding : goal.returns-then-is_forbidding
returns-then-is_forbidding g c = grind (arith, common_steps)

pub loop-id-preserved : goal.loop-id-preserved
loop-id-preserved g c = grind (arith, common_steps)

pub returns : goal.returns
returns g c = grind (arith, common_steps)
