use Rattle.std.proofs.Common.{length}
use Rattle.flecsq_c.proofs.Written.{IsWriting}
use Rattle.flecsq_c.proofs.tables.write_tables.Given as goal

abbrev pub invariant-written : goal.invariant-written
invariant-written l = IsWriting l.initial.chunks.chunks l.initial.tables l.chunks.chunks l.tables l.count

abbrev pub decreases-written : goal.decreases-written
decreases-written l = length l.chunks.chunks
