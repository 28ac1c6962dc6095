use Rattle.std.proofs.Common.{sym, arith}
use Rattle.rel_traits.proofs.SeenWorlds.{mentioned_below}
use Rattle.rel_traits.proofs.deletion.push_lost.Goals as goal

pub mentions_found-requires : goal.mentions_found-requires
mentions_found-requires g c =
    mentioned_below c.size.ensures.links c.args.scratch.now.size c.requires c.args.entity c.id-item.result (rw (← c.ids-id-items.ensures) (c.loop-id.id-index, omega arith, sym c.id-item.is))
