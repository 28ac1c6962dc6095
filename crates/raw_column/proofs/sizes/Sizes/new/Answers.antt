use Rattle.std.proofs.Common.{◌≡◌, ℕ, ◌+◌, ◌^◌, ◌<◌, ◌++◌, ◌∷◌, [], length, ap, sym, subst, ◌∙◌, slice_index, arith}
use Rattle.std.proofs.lemmas.List.{map-append, take_more}
use Rattle.raw_column.specs.Sizes.{IsSpread, sizes_of}
use Rattle.raw_column.specs.declared.sizes.Span.{Span}
use Rattle.raw_column.proofs.SizeLemmas.{spread_push}
use Rattle.raw_column.proofs.sizes.Sizes.new.Goals as goal

pub loop-size-preserved : goal.loop-size-preserved
loop-size-preserved g c =
    let spans = c.loop-size.spans.items in let w = c.loop-size.width in let ss = c.args.sizes.now in let k = c.loop-size.size-index in
    let lt : k < length ss = omega arith in let s : ℕ = slice_index ss k in let p : Span = record { before = w; size = s } in
    let within = c.requires k lt in
    let more : c.in-Some.more ≡ w + s = c.in-Some.ensures.1 in
    let fits : w + s < 2 ^ 32 = c.in-Some.ensures.0 in
    let pushed : c.push.new.list.items ≡ spans ++ p ∷ [] = c.in_ok-push.ensures.items in
    record {
      sizes = ap sizes_of pushed ∙ map-append (λ (q : Span). q.size) spans (p ∷ []) ∙ ap (λ l. l ++ s ∷ []) c.loop-size.invariant.sizes ∙ sym (take_more ss k 0 lt);
      spread = subst (λ l. IsSpread l c.in-Some.more) (sym pushed) (subst (IsSpread (spans ++ p ∷ [])) (sym more) (spread_push spans w s c.loop-size.invariant.spread within.0 within.1 fits));
    }
