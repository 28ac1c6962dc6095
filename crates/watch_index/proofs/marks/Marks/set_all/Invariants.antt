use Rattle.std.proofs.Common.{take}
use Rattle.watch_index.proofs.MarkChanges.{AreSet}
use Rattle.watch_index.proofs.marks.Marks.set_all.Given as goal

abbrev pub invariant-loop-occasion : goal.invariant-loop-occasion
invariant-loop-occasion l = AreSet l.initial.self.words l.self.words (take l.occasion-index l.occasions)
