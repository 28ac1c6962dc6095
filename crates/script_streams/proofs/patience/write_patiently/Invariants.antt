use Rattle.std.proofs.Common.{◌≤◌}
use Rattle.std.specs.Io.KnownBytes.{Keeps}
use Rattle.script_streams.specs.Streams.{IsCalm, IsInterrupted}
use Rattle.script_streams.proofs.patience.write_patiently.Given as goal

abbrev pub invariant-loop : goal.invariant-loop
invariant-loop g l = record {
  tries : l.counter ≤ 65;
  kept : Keeps (g.W.Sink.contents l.initial.writer) (g.W.Sink.contents l.writer);
  calm : IsCalm (g.W.Sink.calls l.initial.writer) → IsInterrupted l.counter (g.W.Sink.calls l.writer);
}
