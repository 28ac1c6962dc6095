use Rattle.std.proofs.Common.{◌≡◌, length}
use Rattle.query_chunks.specs.Chunk.{column_of_terms as column_of}
use Rattle.query_chunks.proofs.chunk.column_of_terms.Given as goal

abbrev pub invariant-loop-term : goal.invariant-loop-term
invariant-loop-term g l = column_of l.world.state l.table l.rest ≡ column_of l.world.state l.table l.terms

abbrev pub decreases-loop-term : goal.decreases-loop-term
decreases-loop-term g l = length l.rest
