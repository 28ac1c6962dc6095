-- The spans of a block's columns.
use Rattle.std.proofs.Common.{◌≡◌, ℕ, ◌+◌, ◌*◌, ◌^◌, ◌≤◌, ◌<◌, List, [], ◌∷◌, ◌++◌, take, length, slice_index, sym, ap, ap₂, subst, ◌∙◌, arith, inl, inr}
use Rattle.std.proofs.lemmas.List.{get_or-map, get_or_append_left, get_or_push, length-map, length_push, map-append, take-append-le, take_all}
use Rattle.std.proofs.lemmas.List.Sums.{sum_by_push}
use Rattle.std.proofs.lemmas.Bool.{cases_lt}
use Rattle.std.specs.List.{sum}
use native.Mathlib.Nat.{mul_comm}
use lib.ListN.{get_or}
use Rattle.raw_column.specs.Places.{place_of}
use Rattle.raw_column.specs.Sizes.{IsSpread, sizes_of}
use Rattle.raw_column.specs.declared.sizes.Span.{Span}
use Rattle.raw_column.proofs.PlaceLemmas.{place_is}

pub size_of_span : (spans : List Span) (k : ℕ) (d : Span) → k < length spans → get_or (sizes_of spans) k 0 ≡ (get_or spans k d).size
size_of_span spans k d lt = get_or-map (λ (p : Span). p.size) spans k d 0 lt

-- where a column's place begins, by its span
pub offset_is : (spans : List Span) (w c k i : ℕ) (item : Span) → IsSpread spans w → k < length spans → item ≡ get_or spans k item → place_of c (sizes_of spans) k i ≡ item.before * c + i * item.size
offset_is spans w c k i item h lt e =
    let ss = sizes_of spans in let within : k < length ss = subst (λ n. k < n) (sym (length-map spans (λ (p : Span). p.size))) lt in
    let before : sum (take k ss) ≡ item.before = sym (h.before k item lt) ∙ ap (λ (p : Span). p.before) (sym e) in
    let size : get_or ss k 0 ≡ item.size = size_of_span spans k item lt ∙ ap (λ (p : Span). p.size) (sym e) in
    place_is c ss k i within ∙ ap₂ (λ m n. m + i * n) (ap (λ n. c * n) before ∙ mul_comm c item.before) size

-- one more column
pub spread_push : (spans : List Span) (w s : ℕ) → IsSpread spans w → 0 < s → s ≤ 64 → w + s < 2 ^ 32 → IsSpread (spans ++ record { before = w; size = s } ∷ []) (w + s)
spread_push spans w s h some small fits =
    let ss = sizes_of spans in let p : Span = record { before = w; size = s } in
    let all : sizes_of (spans ++ p ∷ []) ≡ ss ++ s ∷ [] = map-append (λ (q : Span). q.size) spans (p ∷ []) in
    let long : length ss ≡ length spans = length-map spans (λ (q : Span). q.size) in
    record {
      sized = subst (λ l. (k : ℕ) → k < length l → (0 < slice_index l k) × (slice_index l k ≤ 64)) (sym all) (λ k lt. elim (cases_lt k (length ss)) [
        | inl a ↦ subst (λ n. (0 < n) × (n ≤ 64)) (sym (get_or_append_left ss (s ∷ []) 0 k a)) (h.sized k a)
        | inr b ↦ let last : length ss ≡ k = omega (arith, length_push ss s) in subst (λ n. (0 < n) × (n ≤ 64)) (sym (get_or_push ss s 0 k last)) (some, small)
      ]);
      before = λ k d lt. let upto : k ≤ length ss = omega (arith, length_push spans p) in
          let sums : sum (take k (sizes_of (spans ++ p ∷ []))) ≡ sum (take k ss) = ap (λ l. sum (take k l)) all ∙ ap sum (take-append-le k ss (s ∷ []) upto) in
          elim (cases_lt k (length spans)) [
            | inl a ↦ ap (λ (q : Span). q.before) (get_or_append_left spans (p ∷ []) d k a) ∙ h.before k d a ∙ sym sums
            | inr b ↦ let last : length spans ≡ k = omega arith in let past : length ss ≤ k = omega arith in
                ap (λ (q : Span). q.before) (get_or_push spans p d k last) ∙ h.whole ∙ ap sum (sym (take_all k ss past)) ∙ sym sums
          ];
      whole = ap (λ n. n + s) h.whole ∙ sym (sum_by_push (λ n. n) ss s) ∙ ap sum (sym all);
      small = fits;
    }
