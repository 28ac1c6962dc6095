use Rattle.watch_index.proofs.WordNumbers.{one_more}
use Rattle.watch_index.proofs.words.Word.with.Goals as goal

pub returns-clause-numbers : goal.returns-clause-numbers
returns-clause-numbers c = one_more c.args.self.block c.args.self.bits c.args.number c.requires.block
