use Rattle.std.proofs.Common.{refl}
use Rattle.entity_set.proofs.Words.{has_one_less, past_words}
use Rattle.entity_set.proofs.bits.clear.Goals as goal

pub returns-then-place-words-clause-has : goal.returns-then-place-words-clause-has
returns-then-place-words-clause-has c = has_one_less c.args.words.now _ c.args.number c.if-place-words.true refl

pub returns-else-place-words-clause-has : goal.returns-else-place-words-clause-has
returns-else-place-words-clause-has c = past_words c.args.words.now c.args.number c.if-place-words.false
