use Rattle.std.proofs.Common.{◌≡◌, ◌∙◌, ◌++◌, ◌+◌, ◌-◌, arith, drop, length, take, ℕ}
use Rattle.std.proofs.lemmas.List.{length-drop, take_all}
use Rattle.name_index.proofs.ShortLemmas.{both_ends}
use Rattle.name_index.proofs.short.put_ends.Goals as goal
use borrow.Rule.Slice.PartMut.{put_mid}

pub returns : goal.returns
returns c =
    let text = c.args.text.now in
    let size : ℕ = c.args.size in
    let last : ℕ = length text - size in
    let front : c.copy_from_slice.new.self ≡ take size text = c.copy_from_slice.ensures.after in
    let left = length-drop last text in
    let back : c.copy_from_slice-2.new.self ≡ drop last text = c.copy_from_slice-2.ensures.after ∙ take_all (last + size - last) (drop last text) (omega (arith, left, c.requires)) in
    let width : last + size - last ≡ size = omega arith in
    (λ i. put_mid last (width i) (front i ++ drop size c.args.bytes.now) (back i)) ∙ both_ends text c.args.bytes.now size last (omega (arith, c.requires)) (omega (arith, c.requires))
