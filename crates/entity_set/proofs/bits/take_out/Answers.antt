use Rattle.std.specs.Prelude.{◌==◌, ◌&&◌, not}
use Rattle.std.proofs.Common.{ap, length, rules, vec_len, ◌≡◌, ◌∙◌}
use Rattle.ecs_model.specs.BitWords.{has_bit}
use Rattle.entity_set.proofs.Words.{written_back}
use Rattle.entity_set.proofs.bits.take_out.Goals as goal

pub returns-clause-has : goal.returns-clause-has
returns-clause-has g c = λ e.
    let words = c.args.words.now in
    let long : length words.items ≡ vec_len words = search rules in
    let same : length c.clear.new.words ≡ length words.items = c.clear.ensures.length ∙ ap length c.as_mut_slice.ensures.value in
    ap (λ xs. has_bit xs e) (written_back c.clear.new.words words.items _ same long)
    ∙ c.clear.ensures.has e
    ∙ ap (λ xs. has_bit xs e && not (e == c.args.number)) c.as_mut_slice.ensures.value
