use Rattle.query_cache.proofs.LowestBits.{ArePushed}
use Rattle.query_cache.proofs.table_block.Block.push_onto.Given as goal

abbrev pub invariant-bits : goal.invariant-bits
invariant-bits g l = ArePushed l.self l.initial.keys.items l.keys.items l.left

abbrev pub decreases-bits : goal.decreases-bits
decreases-bits g l = l.left
