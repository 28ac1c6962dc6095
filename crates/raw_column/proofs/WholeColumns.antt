-- All rows of a column are written at once.
use Rattle.std.proofs.Common.{◌≡◌, ℕ, zero, suc, ◌+◌, ◌-◌, ◌*◌, ◌≤◌, ◌<◌, List, [], ◌∷◌, ◌++◌, map, take, drop, take-append-drop, length, length-take-le, length-drop, sym, ap, ap₂, subst, ◌∙◌, arith}
use Rattle.std.proofs.lemmas.List.{get_or-map, map-set}
use Rattle.std.proofs.lemmas.List.Elements.{All-set}
use Rattle.std.proofs.Math.Seq.{take-append_seam, drop-append_seam, drop-append-add}
use Rattle.std.specs.List.{All, sum}
use native.Mathlib.Nat.{zero-mul, suc-mul, mul-le-mul_right}
use lib.ListN.{set, get_or}
use lib.Seq.{drop-drop}
use Rattle.raw_column.specs.Contents.{HasZeros, first_of, no_values, with_bytes}
use Rattle.raw_column.specs.Places.{Values, columns_in, over, place_of, rows}
use Rattle.raw_column.proofs.PlaceLemmas.{all_cons, drop_seam, length_rows, over_past, over_zero, rows_append, rows_prefix}

-- the first n values are those of these bytes
abbrev pub with_first : ℕ → List ℕ → Values → Values
with_first n ws v = record v { items = rows v.size n ws ++ drop n v.items }

rows_drop : (s n r : ℕ) (bs : List ℕ) → rows s r (drop (n * s) bs) ≡ drop n (rows s (n + r) bs)
rows_drop s zero r bs = let none : 0 * s ≡ 0 = zero-mul s in let all : r ≡ 0 + r = omega arith in ap (λ k. rows s r (drop k bs)) none ∙ ap (λ k. rows s k bs) all
rows_drop s (suc n) r bs =
    let next : suc n * s ≡ s + n * s = omega (arith, suc-mul n s) in let more : suc n + r ≡ suc (n + r) = omega arith in
    ap (λ k. rows s r (drop k bs)) next ∙ ap (rows s r) (sym (drop-drop (n * s) s bs)) ∙ rows_drop s n r (drop s bs) ∙ ap (λ k. drop (suc n) (rows s k bs)) (sym more)

rows_over : (s c n : ℕ) (bs ws : List ℕ) → n ≤ c → length ws ≡ n * s → rows s c (ws ++ drop (n * s) bs) ≡ rows s n ws ++ drop n (rows s c bs)
rows_over s c n bs ws le e =
    let r : ℕ = c - n in let both : c ≡ n + r = omega arith in
    ap (λ k. rows s k (ws ++ drop (n * s) bs)) both ∙ rows_append s n r ws (drop (n * s) bs) e ∙ ap (λ l. rows s n ws ++ l) (rows_drop s n r bs)
    ∙ ap (λ k. rows s n ws ++ drop n (rows s k bs)) (sym both)

-- the columns after a write of the first n rows of one of them
pub columns_over : (c : ℕ) (ss bs : List ℕ) (k n : ℕ) (ws : List ℕ) (d : Values) → k < length ss → n ≤ c → length bs ≡ c * sum ss → length ws ≡ n * get_or ss k 0
    → columns_in c ss (over (place_of c ss k 0) (n * get_or ss k 0) bs ws) ≡ set (columns_in c ss bs) k (with_first n ws (get_or (columns_in c ss bs) k d))
columns_over c [] bs k n ws d lt le all e = absurd (omega arith)
columns_over c (s ∷ ss) bs zero n ws d lt le all e =
    let none : 0 * s ≡ 0 = zero-mul s in let up : n * s ≤ c * s = mul-le-mul_right s le in let j : ℕ = c * s - n * s in let there : n * s + j ≡ c * s = omega arith in
    let at : c * s ≡ length ws + j = omega arith in
    let rest : drop (c * s) (ws ++ drop (n * s) bs) ≡ drop (c * s) bs =
    ap (λ i. drop i (ws ++ drop (n * s) bs)) at ∙ drop-append-add ws (drop (n * s) bs) j ∙ drop-drop j (n * s) bs ∙ ap (λ i. drop i bs) there in
    ap (λ i. columns_in c (s ∷ ss) (over i (n * s) bs ws)) none ∙ ap (columns_in c (s ∷ ss)) (over_zero (n * s) bs ws)
    ∙ ap₂ (λ xs ys. record { size = s; items = xs } ∷ columns_in c ss ys) (rows_over s c n bs ws le e) rest
columns_over c (s ∷ ss) bs (suc k) n ws d lt le all e =
    let q = c * s in let p = place_of c ss k 0 in let t = n * get_or ss k 0 in let ys = drop q bs in
    let here : q ≤ length bs = omega (arith, all_cons c s ss) in let first : length (take q bs) ≡ q = length-take-le q bs here in
    let rest : length ys ≡ c * sum ss = omega (arith, all_cons c s ss, length-drop q bs) in
    let new : over (q + p) t bs ws ≡ take q bs ++ over p t ys ws = over_past q p t bs ws here in
    let fits : c * s ≤ length (take q bs) = omega arith in
    let head : rows s c (over (q + p) t bs ws) ≡ rows s c bs =
    ap (rows s c) new ∙ rows_prefix s c (take q bs) (over p t ys ws) fits ∙ sym (rows_prefix s c (take q bs) ys fits) ∙ ap (rows s c) (take-append-drop q bs) in
    let tail : drop q (over (q + p) t bs ws) ≡ over p t ys ws = ap (drop q) new ∙ drop_seam q (take q bs) (over p t ys ws) first in
    ap₂ (λ xs zs. record { size = s; items = xs } ∷ columns_in c ss zs) head tail
    ∙ ap (λ l. record { size = s; items = rows s c bs } ∷ l) (columns_over c ss ys k n ws d (omega arith) le rest e)

-- what is seen of such columns, and the zeros after their rows
module _ (c n : ℕ) (cols : List Values) (k : ℕ) (ws : List ℕ) (d : Values) (lt : k < length cols) where
  first_seen : (v : Values) → first_of n (with_first n ws v) ≡ with_bytes (first_of n v) n ws
  first_seen v = ap (λ xs. record v { items = xs }) (subst (λ m. take m (rows v.size n ws ++ drop n v.items) ≡ rows v.size n ws) (length_rows v.size n ws) (take-append_seam (rows v.size n ws) (drop n v.items)))

  rest_seen : (v : Values) → drop n (rows v.size n ws ++ drop n v.items) ≡ drop n v.items
  rest_seen v = subst (λ m. drop m (rows v.size n ws ++ drop n v.items) ≡ drop n v.items) (length_rows v.size n ws) (drop-append_seam (rows v.size n ws) (drop n v.items))

  pub column_seen : map (first_of n) (set cols k (with_first n ws (get_or cols k d))) ≡ set (map (first_of n) cols) k (with_bytes (get_or (map (first_of n) cols) k (no_values 0)) n ws)
  column_seen =
      map-set (first_of n) cols k (with_first n ws (get_or cols k d)) ∙ ap (set (map (first_of n) cols) k) (first_seen (get_or cols k d))
      ∙ ap (λ (x : Values). set (map (first_of n) cols) k (with_bytes x n ws)) (sym (get_or-map (first_of n) cols k d (no_values 0) lt))

  pub zeros_seen : All (HasZeros c n) cols → All (HasZeros c n) (set cols k (with_first n ws (get_or cols k d)))
  zeros_seen zeros = All-set (HasZeros c n) cols k (with_first n ws (get_or cols k d)) (rest_seen (get_or cols k d) ∙ zeros k d lt) zeros
