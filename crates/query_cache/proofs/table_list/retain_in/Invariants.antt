use Rattle.query_cache.specs.TableList.{keeps}
use Rattle.query_cache.proofs.BlockTables.{AreRetained}
use Rattle.query_cache.proofs.table_list.retain_in.Given as goal

abbrev pub invariant-loop-place : goal.invariant-loop-place
invariant-loop-place g l = AreRetained (keeps l.keep) l.fn.blocks l.blocks l.place
