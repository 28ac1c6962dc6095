use Rattle.std.proofs.Common.{◌≡◌, ℕ, ◌-◌, ◌<◌, length, sym, ap, ◌∙◌, arith, slice_index_or, inl, inr}
use Rattle.std.proofs.lemmas.Bool.{cases_lt}
use Rattle.std.proofs.lemmas.List.{get_or_default}
use Rattle.std.specs.declared.cmp.Ordering.TheVariants.{Less}
use Rattle.ecs_id.specs.Id.{Id, id_cmp, id_cmp_total}
use Rattle.ecs_table.proofs.data_ids.begin.Goals as goal

pub returns-in-Less-clause-before : goal.returns-in-Less-clause-before
returns-in-Less-clause-before c = λ k d lt.
    let ids = c.args.ids.now in let i : Id = c.args.id in let x : Id = c.index-ids-from.result in let n : ℕ = c.args.from - 1 in
    let within : n < length ids = omega (arith, c.if-from-eq0.false, c.if-ids-from.false) in
    let last : slice_index_or ids n d ≡ x = get_or_default ids n d x within ∙ sym c.index-ids-from.is in
    let less : id_cmp x i ≡ Less = sym c.cmp.ensures ∙ c.in-Less.is in
    elim (cases_lt k n) [
      | inl a ↦ id_cmp_total.trans (slice_index_or ids k d) x i (ap (id_cmp (slice_index_or ids k d)) (sym last) ∙ c.requires k n d a within) less
      | inr b ↦ let same : k ≡ n = omega arith in ap (λ j. id_cmp (slice_index_or ids j d) i) same ∙ ap (λ y. id_cmp y i) last ∙ less
    ]
