use Rattle.watch_index.proofs.WordNumbers.{one_less}
use Rattle.watch_index.proofs.words.Word.without.Goals as goal

pub returns-clause-numbers : goal.returns-clause-numbers
returns-clause-numbers c = one_less c.args.self.block c.args.self.bits c.args.number c.requires.block
