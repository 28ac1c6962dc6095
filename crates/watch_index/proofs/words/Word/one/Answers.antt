use Rattle.watch_index.proofs.WordNumbers.{one_number}
use Rattle.watch_index.proofs.words.Word.one.Goals as goal

pub returns-clause-numbers : goal.returns-clause-numbers
returns-clause-numbers c = one_number c.args.number
