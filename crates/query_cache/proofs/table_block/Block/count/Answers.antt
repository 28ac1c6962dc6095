use Rattle.std.proofs.Common.{arith}
use Rattle.query_cache.proofs.CountedTables.{block_count}
use Rattle.query_cache.proofs.table_block.Block.count.Goals as goal

pub returns : goal.returns
returns c = block_count c.args.self.now c.requires.block (omega (arith, c.well_formed))
