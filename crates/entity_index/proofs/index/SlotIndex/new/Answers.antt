-- The slots of the indexes that are not given out.
use Rattle.std.proofs.Common.{arith}
use Rattle.entity_index.proofs.FirstSlots.{meaning-first, IsSound-first}
use Rattle.entity_index.proofs.Soundness.{IsWellFormed-sound}
use Rattle.entity_index.proofs.index.SlotIndex.new.Goals as goal

pub invariant_of-result : goal.invariant_of-result
invariant_of-result g c =
    IsSound-first c.in_ok-slots.slots.items c.in_ok-places.places.items c.in_ok-free.free c.args.last c.in_ok-slots.ensures c.in_ok-places.ensures c.requires.least (omega arith)
    c.in_ok-free.ensures.items c.in_ok-free.ensures.len c.in_ok-free.ensures.capacity c.in_ok-free.ensures.heap_order

pub returns-clause-built_in : goal.returns-clause-built_in
returns-clause-built_in g c = meaning-first c.args.last c.in_ok-slots.slots.items c.in_ok-places.places.items c.in_ok-slots.ensures c.in_ok-places.ensures

pub returns-clause-well_formed : goal.returns-clause-well_formed
returns-clause-well_formed g c = IsWellFormed-sound _ _ c.in_ok-free.free c.args.last (invariant_of-result g c)
