use Rattle.std.specs.Prelude.{filter}
use Rattle.std.proofs.Common.{◌≡◌, ◌++◌, take}
use Rattle.query_cache.specs.Kept.{has_rows}
use Rattle.query_cache.specs.TableList.{keys_in}
use Rattle.query_cache.proofs.table_list.TableList.push_filled_onto.Given as goal

abbrev pub invariant-loop-block : goal.invariant-loop-block
invariant-loop-block g l = l.keys.items ≡ l.initial.keys.items ++ filter (has_rows l.store) (keys_in (take l.block-index l.block-items))
