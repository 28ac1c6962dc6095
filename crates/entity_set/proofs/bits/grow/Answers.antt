use Rattle.std.proofs.Common.{◌≡◌, ◌+◌, ◌/◌, arith, length, refl, rules, true, vec_len, ◌∙◌}
use Rattle.entity_set.proofs.Words.{grown_has}
use Rattle.entity_set.proofs.bits.grow.Goals as goal

pub returns-clause-same : goal.returns-clause-same
returns-clause-same g c =
    let words = c.args.words.now in
    let new = c.resize.new.self in
    let before : length words.items ≡ vec_len words = search rules in
    let now : length new.items ≡ vec_len new = search rules in
    grown_has words.items new.items (vec_len words) (c.args.number / 64 + 1) before (now ∙ c.in_ok-resize.ensures.len)
    c.in_ok-resize.ensures.by_index.0 (λ k d low high. c.in_ok-resize.ensures.by_index.1 k d (refl {a = true}) low high) (omega (arith, c.if-place-len.false, c.len.ensures))
