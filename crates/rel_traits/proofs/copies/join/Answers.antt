use Rattle.std.proofs.Common.{inl, inr, subst, sym}
use Rattle.std.specs.List.{Contains}
use Rattle.std.proofs.lemmas.List.Elements.{Contains-append_cases, Contains-append_left, Contains-append_right}
use Rattle.rel_traits.proofs.copies.join.Goals as goal

pub returns-clause-same : goal.returns-clause-same
returns-clause-same g c k =
    let same = c.put_in_order.ensures.same k in
    let both = c.in_ok-extend_from_slice.ensures.items in (
      λ h. Contains-append_cases c.args.all.now.items c.args.facts.now k (subst (λ xs. Contains xs k) both (same.0 h)),
      λ h. same.1 (subst (λ xs. Contains xs k) (sym both) (elim h [ inl o ↦ Contains-append_left c.args.all.now.items c.args.facts.now k o | inr n ↦ Contains-append_right c.args.all.now.items c.args.facts.now k n ])),
    )
