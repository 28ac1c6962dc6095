use Rattle.std.specs.Prelude.{◌++◌, bit_and}
use Rattle.std.specs.Int.{bit_not}
use Rattle.std.proofs.Common.{◌≡◌, ◌<◌, ◌^◌, ap, append-nil, arith, get_or, sym, w64, ◌∙◌}
use Rattle.entity_set.proofs.SetBits.{bits_more, word_none, word_whole}
use Rattle.entity_set.proofs.bits.push_others.Goals as goal

pub returns-then-others_are_in : goal.returns-then-others_are_in
returns-then-others_are_in g c =
    let words = c.args.words.now in
    let others = c.args.others.now in
    let place = c.args.place in
    let none : bit_and (get_or words place 0) (bit_not w64 (get_or others place 0)) ≡ 0
    = (λ i. bit_and (sym c.word_at.ensures i) (bit_not w64 (sym c.word_at-2.ensures i))) ∙ c.if-others_are_in.true in
    let fits : get_or others place 0 < 2 ^ 64 = omega (arith, c.word_at-2.ensures, c.word_at-2.type_inv) in
    sym (ap (λ xs. c.args.found.now.items ++ xs) (word_none words others place fits none) ∙ append-nil c.args.found.now.items)

pub loop-bit-preserved : goal.loop-bit-preserved
loop-bit-preserved g c =
    bits_more c.args.words.now c.args.others.now c.args.place c.loop-bit.bit _ c.args.found.now.items c.loop-bit.found.items _ c.has_else.result (omega arith) c.has_else.ensures c.loop-bit.invariant c.in_ok-push_if.ensures

pub returns : goal.returns
returns g c =
    c.loop-bit.invariant ∙ ap (λ xs. c.args.found.now.items ++ xs) (word_whole c.args.words.now c.args.others.now c.args.place c.loop-bit.bit (omega (arith, c.loop-bit-test.false)))
