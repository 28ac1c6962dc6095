use Rattle.std.specs.Prelude.{All}
use Rattle.std.proofs.Common.{ℕ, ◌*◌, ◌<◌, arith, get_or, length, refl, subst, sym, take}
use Rattle.std.proofs.lemmas.List.{take_all, take_more}
use Rattle.std.proofs.lemmas.List.Elements.{All-push}
use Rattle.entity_set.proofs.bits.have_words.Goals as goal

pub loop-number-preserved : goal.loop-number-preserved
loop-number-preserved c =
    let numbers = c.args.numbers.now in
    let i = c.loop-number.number-index in
    let room : ℕ = 64 * length c.args.words.now in
    subst (All (λ e. e < room)) (sym (take_more numbers i 0 c.loop-number-test.true))
    (All-push (λ e. e < room) (take i numbers) (get_or numbers i 0) c.loop-number.invariant (omega (arith, c.if-number-words.false)))

pub returns : goal.returns
returns c = (
  λ t. subst (All (λ e. e < 64 * length c.args.words.now)) (take_all c.loop-number.number-index c.args.numbers.now c.loop-number-test.false) c.loop-number.invariant,
  λ all. refl,
)
