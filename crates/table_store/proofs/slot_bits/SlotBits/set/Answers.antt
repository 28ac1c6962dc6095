use Rattle.std.proofs.Common.{true, ◌<◌, ap, arith, length, rules, slice_set, subst, sym, vec_len, ◌≡◌, ◌∙◌}
use Rattle.std.proofs.lemmas.List.{length-set}
use Rattle.table_store.proofs.BitLists.{bit_set, bit_set_others, bits_written, place_within}
use Rattle.table_store.proofs.slot_bits.SlotBits.set.Goals as goal

pub index_mut-requires : goal.index_mut-requires
index_mut-requires g c =
    let words = c.self.inside.words in
    let long : length words.items ≡ vec_len words = search rules in
    omega (arith, long, place_within words.items c.args.slot (subst (λ l. c.args.slot < length l) (sym c.self.view_is) c.requires))

pub returns : goal.returns
returns g c =
    let words = c.self.inside.words.items in
    let has_bit = subst (λ l. c.args.slot < length l) (sym c.self.view_is) c.requires in
    let within = place_within words c.args.slot has_bit in
    bits_written words _ c.args.slot true (length-set words _ _) (bit_set words c.args.slot within c.index_mut.result.now _ c.index_mut.ensures.value) (bit_set_others words c.args.slot within c.index_mut.result.now _ c.index_mut.ensures.value) has_bit
    ∙ ap (λ l. slice_set l c.args.slot true) c.self.view_is
