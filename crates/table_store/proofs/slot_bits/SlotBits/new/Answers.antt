use Rattle.std.proofs.Common.{ap, ◌∙◌}
use Rattle.table_store.specs.SlotBits.{bits_of}
use Rattle.table_store.proofs.BitLists.{no_bits}
use Rattle.table_store.proofs.slot_bits.SlotBits.new.Goals as goal

pub returns : goal.returns
returns g c = ap bits_of c.new.ensures.items ∙ no_bits
