use Rattle.std.specs.Prelude.{◌==◌, ◌||◌}
use Rattle.std.proofs.Common.{ap, length, rules, vec_len, ◌≡◌, ◌∙◌}
use Rattle.ecs_model.specs.BitWords.{has_bit}
use Rattle.entity_set.proofs.Words.{written_back}
use Rattle.entity_set.proofs.bits.put.Goals as goal

pub returns-clause-has : goal.returns-clause-has
returns-clause-has g c = λ e.
    let grown = c.grow.new.words in
    let long : length grown.items ≡ vec_len grown = search rules in
    let same : length c.set.new.words ≡ length grown.items = c.set.ensures.length ∙ ap length c.as_mut_slice.ensures.value in
    ap (λ xs. has_bit xs e) (written_back c.set.new.words grown.items _ same long)
    ∙ c.set.ensures.has e
    ∙ ap (λ b. e == c.args.number || b) (ap (λ xs. has_bit xs e) c.as_mut_slice.ensures.value ∙ c.in_ok-grow.ensures.same e)
