use Rattle.std.specs.Prelude.{bit_or}
use Rattle.std.proofs.Common.{◌-◌, ◌*◌, ◌/◌, ◌%◌, ◌^◌, ap, arith, get_or, ◌∙◌}
use Rattle.std.specs.Int.{bit_at}
use Rattle.table_store.proofs.BitLists.{window_two}
use Rattle.table_store.proofs.slot_bits.window_of.Goals as goal

pub returns : goal.returns
returns c = λ n low.
    let s = c.args.slot % 64 in
    ap (λ w. bit_at (bit_or (w / 2 ^ s) (c.word_at-2.result * 2 ^ (64 - s) % 2 ^ 64)) n) c.word_at.ensures
    ∙ ap (λ w. bit_at (bit_or (get_or c.args.words.now (c.args.slot / 64) 0 / 2 ^ s) (w * 2 ^ (64 - s) % 2 ^ 64)) n) c.word_at-2.ensures
    ∙ window_two c.args.words.now c.args.slot n low (let h = c.type_inv.words (c.args.slot / 64) in omega (arith, h))
