use Rattle.std.proofs.Common.{◌≡◌, ℕ, Option, Some, length}
use Rattle.rel_travel.specs.UpWords.{AllFind, AreKnown}
use Rattle.rel_travel.proofs.line.note_way.Given as goal

abbrev pub invariant-way : goal.invariant-way
invariant-way g l = record {
  room : l.path.room ≡ l.initial.path.room;
  known : (above : ℕ → Option ℕ) → AllFind above (Some l.found) l.initial.path.steps → AreKnown above (g.K.Known.words l.initial.known)
      → AllFind above (Some l.found) l.path.steps × AreKnown above (g.K.Known.words l.known);
}

abbrev pub decreases-way : goal.decreases-way
decreases-way g l = length l.path.steps
