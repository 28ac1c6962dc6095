-- The dead ones are passed, and then the greatest is found.
use Rattle.std.proofs.Common.{arith, ap, not, ◌∙◌}
use Rattle.entity_index.proofs.Tops.{found_there, size_is}
use Rattle.entity_index.proofs.sized.reach_below.Goals as goal

pub returns-else-is_none : goal.returns-else-is_none
returns-else-is_none g c = size_is c.args.index.now.live c.requires.well_formed.live_rise c.loop-size.size (record { bound = c.loop-size.invariant.bound; hit = λ some. found_there _ _ c.at.result c.at.ensures (c.is_none.ensures ∙ ap not c.if-is_none.false) })

pub returns-after-loop-size : goal.returns-after-loop-size
returns-after-loop-size g c = size_is c.args.index.now.live c.requires.well_formed.live_rise c.loop-size.size (record { bound = c.loop-size.invariant.bound; hit = λ some. absurd (omega (arith, some, c.loop-size-test.false)) })
