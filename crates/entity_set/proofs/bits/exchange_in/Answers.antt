use Rattle.std.specs.Prelude.{◌==◌, ◌&&◌, ◌||◌, not}
use Rattle.std.specs.List.{list_any}
use Rattle.std.proofs.Common.{◌<◌, ◌*◌, ap, refl, subst, sym, ◌∙◌}
use Rattle.std.proofs.lemmas.List.{take_all}
use Rattle.ecs_model.specs.BitWords.{has_bit}
use Rattle.entity_set.proofs.SetBits.{and_all, or_none, puts_one, takes_one}
use Rattle.entity_set.proofs.bits.exchange_in.Goals as goal

pub loop-number-init : goal.loop-number-init
loop-number-init c = record { long = refl; has = λ e. and_all (has_bit c.args.words.now e) }

pub loop-number-preserved : goal.loop-number-preserved
loop-number-preserved c = record {
  long = c.clear.ensures.length ∙ c.loop-number.invariant.long;
  has = λ e. takes_one e c.args.left.now c.loop-number.number-index _ _ (has_bit c.args.words.now e) c.loop-number-test.true (c.clear.ensures.has e) (c.loop-number.invariant.has e);
}

pub loop-number-2-init : goal.loop-number-2-init
loop-number-2-init c = record {
  long = c.loop-number.invariant.long;
  has = λ e low.
      c.loop-number.invariant.has e
      ∙ ap (λ xs. has_bit c.args.words.now e && not (list_any (λ x. x == e) xs)) (take_all c.loop-number.number-index c.args.left.now c.loop-number-test.false)
      ∙ or_none (has_bit c.args.words.now e && not (list_any (λ x. x == e) c.args.left.now));
}

pub loop-number-2-preserved : goal.loop-number-2-preserved
loop-number-2-preserved c = record {
  long = c.set_if_within.ensures.length ∙ c.loop-number-2.invariant.long;
  has = λ e low.
      puts_one e c.args.entered.now c.loop-number-2.number-index _ _ (has_bit c.args.words.now e && not (list_any (λ x. x == e) c.args.left.now)) c.loop-number-2-test.true
      (c.set_if_within.ensures.has e (subst (λ n. e < 64 * n) (sym c.loop-number-2.invariant.long) low)) (c.loop-number-2.invariant.has e low);
}

pub returns-clause-has : goal.returns-clause-has
returns-clause-has c = λ e low.
    c.loop-number-2.invariant.has e low
    ∙ ap (λ xs. (has_bit c.args.words.now e && not (list_any (λ x. x == e) c.args.left.now)) || list_any (λ x. x == e) xs) (take_all c.loop-number-2.number-index c.args.entered.now c.loop-number-2-test.false)
