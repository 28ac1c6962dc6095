use Rattle.std.proofs.Common.{◌==◌, ◌%◌, false, ap, slice_index_or, sym, ◌∙◌}
use Rattle.std.specs.Int.{bit_at}
use Rattle.std.proofs.lemmas.Nat.Bits.{shr_and_one}
use Rattle.table_store.specs.SlotBits.{is_set}
use Rattle.table_store.proofs.BitLists.{bit_is}
use Rattle.table_store.proofs.slot_bits.SlotBits.has.Goals as goal

pub returns : goal.returns
returns g c =
    ap (λ x. x == 1) (shr_and_one c.word_at-word.result (c.args.slot % 64) ∙ ap (λ w. bit_at w (c.args.slot % 64)) c.word_at-word.ensures)
    ∙ ap (λ l. is_set l c.args.slot) c.as_slice.ensures.value
    ∙ sym (bit_is c.self.inside.words.items c.args.slot)
    ∙ ap (λ l. slice_index_or l c.args.slot false) c.self.view_is
