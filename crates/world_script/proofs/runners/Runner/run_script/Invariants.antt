use Rattle.std.proofs.Common.{◌≡◌, ◌+◌, ◌-◌, false, [], None, cond}
use Rattle.std.specs.Io.KnownBytes.{IsAtEnd}
use Rattle.script_streams.specs.Lines.{most_bytes}
use Rattle.script_streams.specs.Streams.{IsCalm}
use Rattle.world_script.specs.Running.{IsUnderWay}
use Rattle.world_script.proofs.runners.Runner.run_script.Given as goal

abbrev pub invariant-loop-has_more : goal.invariant-loop-has_more
invariant-loop-has_more g l = record {
  running : IsUnderWay (g.R.Source.remaining l.initial.reader) (g.R.Source.remaining l.reader) (g.W.Sink.contents l.initial.writer) (g.W.Sink.contents l.writer) l.self;
  none_wait : l.self.interpreter.session.waiting ≡ None;
  taken : l.has_more ≡ false → l.self.lines.unread ≡ [];
  written : l.has_more ≡ false → l.self.interpreter.output.items ≡ [];
  at_end : l.has_more ≡ false → IsAtEnd (g.R.Source.remaining l.reader);
  reads : IsCalm (g.R.Source.calls l.initial.reader) → IsCalm (g.R.Source.calls l.reader);
  writes : IsCalm (g.W.Sink.calls l.initial.writer) → IsCalm (g.W.Sink.calls l.writer);
}

abbrev pub decreases-loop-has_more : goal.decreases-loop-has_more
decreases-loop-has_more g l = cond l.has_more 1 0 + (most_bytes - l.self.lines.read)
