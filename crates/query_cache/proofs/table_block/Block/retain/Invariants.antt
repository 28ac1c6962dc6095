use Rattle.query_cache.specs.TableList.{keeps}
use Rattle.query_cache.proofs.BlockBits.{AreLeft}
use Rattle.query_cache.proofs.table_block.Block.retain.Given as goal

abbrev pub invariant-loop-bit : goal.invariant-loop-bit
invariant-loop-bit g l = AreLeft l.fn.self (keeps l.keep) l.bit l.kept
