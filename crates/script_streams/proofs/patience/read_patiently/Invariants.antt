use Rattle.std.proofs.Common.{◌<◌, ◌≤◌, length}
use Rattle.std.specs.Io.KnownBytes.{Keeps}
use Rattle.script_streams.specs.Streams.{IsCalm, IsInterrupted}
use Rattle.script_streams.proofs.patience.read_patiently.Given as goal

abbrev pub invariant-loop : goal.invariant-loop
invariant-loop g l = record {
  tries : l.counter ≤ 65;
  room : 0 < length l.piece;
  kept : Keeps (g.R.Source.remaining l.initial.reader) (g.R.Source.remaining l.reader);
  calm : IsCalm (g.R.Source.calls l.initial.reader) → IsInterrupted l.counter (g.R.Source.calls l.reader);
}
