use Rattle.std.specs.Prelude.{◌==◌, filter, not}
use Rattle.std.specs.List.{list_any, range_with_len}
use Rattle.std.proofs.Common.{◌≡◌, ◌*◌, arith, ap, length, sym, ◌∙◌}
use Rattle.entity_set.specs.Members.{has_else}
use Rattle.entity_set.proofs.SetBits.{others_are, others_more}
use Rattle.entity_set.proofs.set.EntitySet.without.Goals as goal

pub loop-place-preserved : goal.loop-place-preserved
loop-place-preserved g c =
    others_more c.as_slice-words.result.now c.as_slice-others.result.now c.loop-place.place c.loop-place.found.items _ c.loop-place.invariant c.in_ok-push_others.ensures

pub returns : goal.returns
returns g c =
    let words = c.as_slice-words.result.now in
    let others = c.as_slice-others.result.now in
    let end : c.loop-place.place ≡ length words = omega (arith, c.loop-place-test.false, c.loop-place.auto.place-end) in
    c.loop-place.invariant
    ∙ ap (λ n. filter (has_else words others) (range_with_len 0 (64 * n))) end
    ∙ (λ i. filter (has_else (c.as_slice-words.ensures.value i) (c.as_slice-others.ensures.value i)) (range_with_len 0 (64 * length (c.as_slice-words.ensures.value i))))
    ∙ sym (others_are c.self.inside.words.items c.other.inside.words.items)
    ∙ (λ i. filter (λ x. not (list_any (λ y. y == x) (c.other.view_is i).items)) (c.self.view_is i).items)
