use Rattle.entity_set.proofs.SetExchanges.{set_elsewhere}
use Rattle.entity_set.proofs.bits.set_if_within.Goals as goal

pub returns-else-place-words-clause-has : goal.returns-else-place-words-clause-has
returns-else-place-words-clause-has c = λ e low. set_elsewhere c.args.words.now c.args.number e c.if-place-words.false low
