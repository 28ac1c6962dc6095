use Rattle.std.proofs.Common.{◌≡◌, sym, ap, ◌∙◌, arith, slice_index_or, inl, inr}
use Rattle.std.proofs.lemmas.Bool.{cases_lt}
use Rattle.std.specs.declared.cmp.Ordering.TheVariants.{Equal, Greater, Less}
use Rattle.ecs_id.specs.Id.{Id, id_cmp, id_cmp_itself, id_cmp_same}
use Rattle.ecs_table.proofs.Order.{index_at, index_none, search_rises}
use Rattle.ecs_table.proofs.data_ids.search.Goals as goal

pub returns-in-Ok-clause-index : goal.returns-in-Ok-clause-index
returns-in-Ok-clause-index c =
    let ids = c.args.ids.now in let i : Id = c.args.id in let k = c.in-Ok.index in
    let same : slice_index_or ids k i ≡ i = id_cmp_same (slice_index_or ids k i) i (c.in-Ok.ensures.ok i) in
    sym (index_at ids k i c.requires c.in-Ok.ensures.bound same)

pub returns-in-Err-clause-index : goal.returns-in-Err-clause-index
returns-in-Err-clause-index c =
    let ids = c.args.ids.now in let i : Id = c.args.id in let point = c.in-Err.ensures.position (search_rises ids i c.requires) in
    sym (index_none ids i (λ k lt e. elim (cases_lt k c.in-Err.field-0) [
      | inl a ↦ let less = point.0 k i (omega arith) a in let equal : id_cmp (slice_index_or ids k i) i ≡ Equal = ap (λ x. id_cmp x i) e ∙ id_cmp_itself i in let clash : Less ≡ Equal = sym less ∙ equal in cc
      | inr b ↦ let more = point.1 k i b lt in let equal : id_cmp (slice_index_or ids k i) i ≡ Equal = ap (λ x. id_cmp x i) e ∙ id_cmp_itself i in let clash : Greater ≡ Equal = sym more ∙ equal in cc
    ]))
