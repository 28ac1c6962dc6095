use Rattle.std.proofs.Common.{ap, arith, length, ◌∙◌}
use Rattle.query_cache.specs.TableList.{keys_in}
use Rattle.query_cache.proofs.CountedTables.{part_counted}
use Rattle.query_cache.proofs.table_list.TableList.count.Goals as goal

pub returns-in_default : goal.returns-in_default
returns-in_default g c =
    let part = part_counted c.deref-block-items.result.now c.loop-block.block-index _ _ c.count.ensures c.loop-block-test.true in
    let all = ap (λ bs. length (keys_in bs)) c.deref-block-items.ensures.value ∙ ap (λ list. length list.items) c.self.view_is in
    omega (arith, part, all, c.in_default.ensures, c.loop-block.invariant)
