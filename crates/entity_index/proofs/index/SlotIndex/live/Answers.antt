-- The slots from the first on.
use Rattle.std.proofs.Common.{ap, ◌∙◌}
use Rattle.entity_index.specs.Slots.{live_from}
use Rattle.entity_index.proofs.LiveSlots.{live_from-entries}
use Rattle.entity_index.proofs.index.SlotIndex.live.Goals as goal

pub returns : goal.returns
returns g c = rw (← c.self.view_is) (c.new.ensures ∙ ap (live_from 0) c.deref.ensures.value ∙ live_from-entries 0 c.self.inside.slots.items)
