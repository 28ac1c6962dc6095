use Rattle.std.proofs.Common.{◌≡◌, length, take}
use Rattle.query_cache.specs.TableList.{keys_in}
use Rattle.query_cache.proofs.table_list.TableList.count.Given as goal

abbrev pub invariant-loop-block : goal.invariant-loop-block
invariant-loop-block g l = l.count ≡ length (keys_in (take l.block-index l.block-items))
