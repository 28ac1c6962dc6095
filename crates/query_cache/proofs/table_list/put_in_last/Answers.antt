use Rattle.std.proofs.Common.{arith}
use Rattle.query_cache.proofs.BlockTables.{more_in_last}
use Rattle.query_cache.proofs.table_list.put_in_last.Goals as goal

pub returns-clause-keys : goal.returns-clause-keys
returns-clause-keys c = more_in_last c.args.blocks.now c.in-Some.last c.put.new.self _ _ (omega (arith, c.in-Some.ensures)) c.put.ensures.keys
