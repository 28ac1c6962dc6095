use Rattle.std.proofs.Common.{arith}
use Rattle.query_cache.proofs.BlockBits.{one_block, one_key}
use Rattle.query_cache.proofs.table_block.Block.of.Goals as goal

pub returns-clause-keys : goal.returns-clause-keys
returns-clause-keys c = one_key c.args.key _ _ c.slot.ensures c.serial.ensures

pub returns-clause-block : goal.returns-clause-block
returns-clause-block c = one_block c.args.key _ _ c.slot.ensures c.serial.ensures (omega (arith, c.well_formed)) (omega (arith, c.well_formed))
