use Rattle.std.proofs.Common.{◌≡◌, ◌-◌, ◌<◌, length, sym, ◌∙◌, arith, slice_index_or}
use Rattle.std.proofs.lemmas.List.{get_or_default}
use Rattle.std.specs.declared.cmp.Ordering.TheVariants.{Less}
use Rattle.ecs_id.specs.Id.{Id, id_cmp}
use Rattle.ecs_table.proofs.Order.{ascend_more}
use Rattle.ecs_table.proofs.data_ids.ascend.Goals as goal

pub loop-k-preserved : goal.loop-k-preserved
loop-k-preserved c =
    let ids = c.args.ids.now in let k = c.loop-k.k in let x : Id = c.index-ids-k.result in let y : Id = c.index-ids-k-in-loop-k.result in
    let lt : k < length ids = omega arith in let lt2 : k - 1 < length ids = omega arith in let some : 0 < k = omega arith in
    let first : (d : Id) → slice_index_or ids (k - 1) d ≡ x = λ d. get_or_default ids (k - 1) d x lt2 ∙ sym c.index-ids-k.is in
    let second : (d : Id) → slice_index_or ids k d ≡ y = λ d. get_or_default ids k d y lt ∙ sym c.index-ids-k-in-loop-k.is in
    let less : id_cmp x y ≡ Less = sym c.cmp.ensures ∙ c.in-Less.is in
    ascend_more ids k x y c.loop-k.invariant some first second less
