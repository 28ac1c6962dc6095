use Rattle.std.proofs.Common.{◌≡◌, ◌≢◌, ◌<◌, length, sym, ap, ◌∙◌, arith, slice_index_or, inl, inr}
use Rattle.std.proofs.lemmas.Bool.{cases_lt}
use Rattle.std.proofs.lemmas.List.{get_or_default}
use Rattle.std.specs.declared.cmp.Ordering.TheVariants.{Equal, Greater, Less}
use Rattle.ecs_id.specs.Id.{Id, id_cmp, id_cmp_itself, id_cmp_same}
use Rattle.ecs_table.proofs.Order.{index_at, index_none}
use Rattle.ecs_table.proofs.data_ids.search_from.Goals as goal

-- an id that comes before another is another one
other : (x i : Id) → id_cmp x i ≡ Less → x ≢ i
other x i less e = let equal : id_cmp x i ≡ Equal = ap (λ y. id_cmp y i) e ∙ id_cmp_itself i in let clash : Less ≡ Equal = sym less ∙ equal in cc

pub returns-in-Equal-clause-index : goal.returns-in-Equal-clause-index
returns-in-Equal-clause-index c =
    let ids = c.args.ids.now in let i : Id = c.args.id in let k = c.loop-at.at in let x : Id = c.index-ids-at.result in let lt : k < length ids = omega arith in
    let here : slice_index_or ids k i ≡ x = get_or_default ids k i x lt ∙ sym c.index-ids-at.is in
    sym (index_at ids k i c.requires lt (here ∙ id_cmp_same x i (sym c.cmp.ensures ∙ c.in-Equal.is)))

pub returns-in-Greater-clause-index : goal.returns-in-Greater-clause-index
returns-in-Greater-clause-index c =
    let ids = c.args.ids.now in let i : Id = c.args.id in let n = c.loop-at.at in let x : Id = c.index-ids-at.result in let lt : n < length ids = omega arith in
    let here : slice_index_or ids n i ≡ x = get_or_default ids n i x lt ∙ sym c.index-ids-at.is in let more : id_cmp x i ≡ Greater = sym c.cmp.ensures ∙ c.in-Greater.is in
    let at : id_cmp (slice_index_or ids n i) i ≡ Greater = ap (λ y. id_cmp y i) here ∙ more in
    sym (index_none ids i (λ k le e. elim (cases_lt k n) [
      | inl a ↦ absurd (other (slice_index_or ids k i) i (c.loop-at.invariant k i a) e)
      | inr b ↦ elim (cases_lt n k) [
        | inl a ↦
            let less : id_cmp (slice_index_or ids n i) i ≡ Less = ap (id_cmp (slice_index_or ids n i)) (sym e) ∙ c.requires n k i a le in
            let clash : Greater ≡ Less = sym at ∙ less in cc
        | inr a ↦
            let same : k ≡ n = omega arith in
            let equal : id_cmp (slice_index_or ids n i) i ≡ Equal = ap (λ j. id_cmp (slice_index_or ids j i) i) (sym same) ∙ ap (λ y. id_cmp y i) e ∙ id_cmp_itself i in
            let clash : Greater ≡ Equal = sym at ∙ equal in cc
      ]
    ]))

pub returns-clause-index : goal.returns-clause-index
returns-clause-index c =
    let ids = c.args.ids.now in let i : Id = c.args.id in
    sym (index_none ids i (λ k lt. other (slice_index_or ids k i) i (c.loop-at.invariant k i (omega (arith, c.loop-at-test.false)))))
