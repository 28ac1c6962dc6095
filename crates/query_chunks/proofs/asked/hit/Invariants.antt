use Rattle.std.proofs.Common.{◌≡◌, length}
use Rattle.query_chunks.specs.Asked.{hit as hit_of}
use Rattle.query_chunks.proofs.asked.hit.Given as goal

abbrev pub invariant-loop-id : goal.invariant-loop-id
invariant-loop-id l = hit_of l.rest l.term ≡ hit_of l.ids l.term

abbrev pub decreases-loop-id : goal.decreases-loop-id
decreases-loop-id l = length l.rest
