use Rattle.std.proofs.Common.{◌+◌, cond, false, ap, slice_index_or, sym, ◌∙◌}
use Rattle.table_store.specs.SlotBits.{is_set}
use Rattle.table_store.proofs.BitLists.{bit_is}
use Rattle.table_store.proofs.slot_bits.SlotBits.window.Goals as goal

pub returns : goal.returns
returns g c = λ n low.
    c.window_of.ensures n low
    ∙ ap (λ b. cond b 1 0) (
    ap (λ l. is_set l (c.args.slot + n)) c.as_slice.ensures.value
    ∙ sym (bit_is c.self.inside.words.items (c.args.slot + n))
    ∙ ap (λ l. slice_index_or l (c.args.slot + n) false) c.self.view_is
    )
