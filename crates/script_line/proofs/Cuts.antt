-- Where a text may be cut at blanks, and what is left without the bytes at its end.
use Rattle.std.proofs.Common.{not, ◌≡◌, ℕ, zero, suc, ◌+◌, ◌-◌, ◌<◌, ◌≤◌, Bool, true, List, ◌++◌, length, get_or, take, drop, refl, ap, ◌∙◌, sym, subst, inl, inr, add-one, arith, length-drop}
use Rattle.std.specs.Prelude.{reverse}
use Rattle.std.specs.List.{prefix_len, position_or_len}
use Rattle.std.specs.Str.{IsUtf8, IsCharBoundary}
use Rattle.std.proofs.Math.Seq.{drop-append_seam}
use Rattle.std.proofs.lemmas.List.{get_or-reverse, length-reverse, reverse-append, reverse-reverse, take-append-drop}
use Rattle.std.proofs.lemmas.List.Sums.{prefix_len_passes, passes_at_first, prefix_len-le-length}
use Rattle.std.proofs.lemmas.Bool.{cases_lt}
use Rattle.std.proofs.lemmas.Bool.Decides.{nat_tests}
use Rattle.std.proofs.lemmas.Str.{IsCharBoundary-start, IsCharBoundary-end, IsCharBoundary-before_ascii, IsCharBoundary-after_ascii}
use Rattle.query_model.specs.Text.{is_digit}
use Rattle.ecs_model.specs.Text.{is_blank}
use Rattle.script_line.specs.Line.{ends_reference}

-- blanks are ASCII
blank_is_ascii : (b : ℕ) → is_blank b ≡ true → b < 128
blank_is_ascii b h = grind (arith, nat_tests)

-- digits and the bytes that end a reference are ASCII too
digit_is_ascii : (b : ℕ) → is_digit b ≡ true → b < 128
digit_is_ascii b h = grind (arith, nat_tests)

end_is_ascii : (b : ℕ) → ends_reference b ≡ true → b < 128
end_is_ascii b h = grind (arith, nat_tests)

-- bytes that pass are ASCII
abbrev AreAscii : (ℕ → Bool) → Type 0
AreAscii p = (b : ℕ) → p b ≡ true → b < 128

-- after the n bytes at its beginning that pass
cut_behind : (p : ℕ → Bool) → AreAscii p → (bs : List ℕ) (n : ℕ) → IsUtf8 bs → prefix_len p bs ≡ n → IsCharBoundary bs n
cut_behind p ascii bs zero u e = IsCharBoundary-start bs u
cut_behind p ascii bs (suc n) u e =
    let fits : prefix_len p bs ≤ length bs = prefix_len-le-length p bs in
    let passes : p (get_or bs n 0) ≡ true = prefix_len_passes p bs n 0 (omega arith) in
    rw (← add-one n) (IsCharBoundary-after_ascii bs n u (omega arith) (ascii (get_or bs n 0) passes))

-- after the blanks and after the digits at its beginning
pub cut_behind_blanks : (bs : List ℕ) → IsUtf8 bs → IsCharBoundary bs (prefix_len is_blank bs)
cut_behind_blanks bs u = cut_behind is_blank blank_is_ascii bs (prefix_len is_blank bs) u refl

pub cut_behind_digits : (bs : List ℕ) → IsUtf8 bs → IsCharBoundary bs (prefix_len is_digit bs)
cut_behind_digits bs u = cut_behind is_digit digit_is_ascii bs (prefix_len is_digit bs) u refl

-- before the first byte that passes
cut_at : (p : ℕ → Bool) → AreAscii p → (bs : List ℕ) → IsCharBoundary bs (position_or_len p bs)
cut_at p ascii bs =
    let P : ℕ → Type 0 = IsCharBoundary bs in
    let i : ℕ = position_or_len p bs in
    elim (cases_lt i (length bs)) [
      | inl before ↦ IsCharBoundary-before_ascii bs i before (ascii (get_or bs i 0) (passes_at_first p bs 0 before))
      | inr behind ↦ subst P (omega (arith, prefix_len-le-length (λ b. not (p b)) bs)) (IsCharBoundary-end bs)
    ]

-- before the first blank, and before the first byte that ends a reference
pub cut_at_blank : (bs : List ℕ) → IsCharBoundary bs (position_or_len is_blank bs)
cut_at_blank = cut_at is_blank blank_is_ascii

pub cut_at_end : (bs : List ℕ) → IsCharBoundary bs (position_or_len ends_reference bs)
cut_at_end = cut_at ends_reference end_is_ascii

-- before the last n bytes, which are blanks
cut_before : (bs : List ℕ) (n : ℕ) → prefix_len is_blank (reverse bs) ≡ n → n ≤ length bs → IsCharBoundary bs (length bs - n)
cut_before bs zero e h =
    let P : ℕ → Type 0 = IsCharBoundary bs in
    let all : length bs ≡ length bs - 0 = omega arith in
    subst P all (IsCharBoundary-end bs)
cut_before bs (suc n) e h =
    let blank : is_blank (get_or (reverse bs) n 0) ≡ true = prefix_len_passes is_blank (reverse bs) n 0 (omega arith) in
    let same : get_or (reverse bs) n 0 ≡ get_or bs (length bs - 1 - n) 0 = get_or-reverse bs n 0 (omega arith) in
    let place : length bs - 1 - n ≡ length bs - suc n = omega arith in
    let here : is_blank (get_or bs (length bs - suc n) 0) ≡ true = ap is_blank (ap (λ k. get_or bs k 0) (sym place) ∙ sym same) ∙ blank in
    IsCharBoundary-before_ascii bs (length bs - suc n) (omega arith) (blank_is_ascii (get_or bs (length bs - suc n) 0) here)

-- how many blanks stand at the end
pub blanks_at_end_fit : (bs : List ℕ) → prefix_len is_blank (reverse bs) ≤ length bs
blanks_at_end_fit bs = omega (arith, prefix_len-le-length is_blank (reverse bs), length-reverse bs)

-- before the blanks at its end
pub cut_before_blanks : (bs : List ℕ) → IsCharBoundary bs (length bs - prefix_len is_blank (reverse bs))
cut_before_blanks bs = cut_before bs (prefix_len is_blank (reverse bs)) refl (blanks_at_end_fit bs)

-- without the last n items
without_end : {A : Type 0} (xs : List A) (m n : ℕ) → m + n ≡ length xs → take m xs ≡ reverse (drop n (reverse xs))
without_end xs m n h =
    let turned : reverse xs ≡ reverse (drop m xs) ++ reverse (take m xs) = ap reverse (sym (take-append-drop m xs)) ∙ reverse-append (take m xs) (drop m xs) in
    let len : n ≡ length (reverse (drop m xs)) = omega (arith, length-reverse (drop m xs), length-drop m xs) in
    let front : drop n (reverse xs) ≡ reverse (take m xs) =
    ap (drop n) turned ∙ ap (λ k. drop k (reverse (drop m xs) ++ reverse (take m xs))) len ∙ drop-append_seam (reverse (drop m xs)) (reverse (take m xs)) in
    sym (reverse-reverse (take m xs)) ∙ ap reverse (sym front)

-- without the blanks at its end
pub without_blanks_at_end : (bs : List ℕ) → take (length bs - prefix_len is_blank (reverse bs)) bs ≡ reverse (drop (prefix_len is_blank (reverse bs)) (reverse bs))
without_blanks_at_end bs =
    let fits : prefix_len is_blank (reverse bs) ≤ length bs = blanks_at_end_fit bs in
    without_end bs (length bs - prefix_len is_blank (reverse bs)) (prefix_len is_blank (reverse bs)) (omega arith)
