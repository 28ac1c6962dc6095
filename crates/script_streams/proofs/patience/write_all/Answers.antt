use Rattle.std.proofs.Common.{rules}
use Rattle.script_streams.proofs.AppendedBytes.{Appends-more}
use Rattle.script_streams.proofs.patience.write_all.Goals as goal

pub loop-at-preserved : goal.loop-at-preserved
loop-at-preserved g c = record {
  within = search rules;
  written = Appends-more _ _ _ _ _ _ c.loop-at.invariant.written c.in_ok-count.ensures.bytes;
  calm = λ calm. c.in_ok-count.ensures.calm (c.loop-at.invariant.calm calm);
}
