use Rattle.std.proofs.Common.{◌+◌, arith, eqb-true, false, slice_index_or}
use Rattle.table_store.proofs.BitLists.{set_behind}
use Rattle.table_store.proofs.slot_bits.SlotBits.are_set_behind.Goals as goal

pub returns : goal.returns
returns g c = λ none n within.
    set_behind c.window.result c.args.width n (omega (arith, c.window.type_inv)) c.requires within (eqb-true _ 0 none)
    (slice_index_or c.args.self.now (c.args.slot + (n + 1)) false) (c.window.ensures (n + 1) (omega (arith, within, c.requires)))
