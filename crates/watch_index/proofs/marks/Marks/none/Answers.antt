use Rattle.watch_index.specs.Marks.{mark_of}
use Rattle.watch_index.proofs.MarkChanges.{none_set}
use Rattle.watch_index.proofs.marks.Marks.none.Goals as goal

pub returns : goal.returns
returns c = λ o. none_set 64 (mark_of o)
