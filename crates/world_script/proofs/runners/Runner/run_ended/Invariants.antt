use Rattle.std.proofs.Common.{◌≡◌, ℕ, ◌+◌, ◌≤◌, List, None, Option, length}
use Rattle.script_streams.specs.Lines.{most_bytes}
use Rattle.script_streams.specs.Streams.{IsCalm}
use Rattle.world_script.specs.Running.{IsUnderWay}
use Rattle.world_script.proofs.runners.Runner.run_ended.Given as goal

abbrev pub invariant-loop-self : goal.invariant-loop-self
invariant-loop-self g l = record {
  running : (told left old : Option (List ℕ))
      → IsUnderWay told left old (g.W.Sink.contents l.initial.writer) l.initial.self
      → IsUnderWay told left old (g.W.Sink.contents l.writer) l.self;
  none_wait : l.self.interpreter.session.waiting ≡ None;
  room : l.self.interpreter.summary.lines + length l.self.lines.unread ≤ most_bytes;
  few : l.self.interpreter.summary.refused ≤ l.self.interpreter.summary.lines;
  read : l.self.lines.read ≡ l.initial.self.lines.read;
  writes : IsCalm (g.W.Sink.calls l.initial.writer) → IsCalm (g.W.Sink.calls l.writer);
}

abbrev pub decreases-loop-self : goal.decreases-loop-self
decreases-loop-self g l = length l.self.lines.unread
