use Rattle.std.specs.Prelude.{◌==◌, ◌&&◌, ◌||◌, not}
use Rattle.std.specs.List.{list_any}
use Rattle.std.proofs.Common.{ap, length, rules, subst, vec_len, ◌≡◌, ◌<◌, ◌*◌, ◌∙◌, sym}
use Rattle.ecs_model.specs.BitWords.{has_bit}
use Rattle.entity_set.proofs.Words.{written_back}
use Rattle.entity_set.proofs.bits.exchange.Goals as goal

pub returns-clause-has : goal.returns-clause-has
returns-clause-has g c = λ e low.
    let words = c.args.words.now in
    let long : length words.items ≡ vec_len words = search rules in
    let same : length c.exchange_in.new.words ≡ length words.items = c.exchange_in.ensures.length ∙ ap length c.as_mut_slice.ensures.value in
    ap (λ xs. has_bit xs e) (written_back c.exchange_in.new.words words.items _ same long)
    ∙ c.exchange_in.ensures.has e (subst (λ xs. e < 64 * length xs) (sym c.as_mut_slice.ensures.value) low)
    ∙ ap (λ xs. (has_bit xs e && not (list_any (λ x. x == e) c.args.left.now)) || list_any (λ x. x == e) c.args.entered.now) c.as_mut_slice.ensures.value
