-- The bytes of a column are those of its rows, one after another.
use Rattle.std.proofs.Common.{◌≡◌, ℕ, zero, suc, ◌+◌, ◌*◌, ◌≤◌, ◌<◌, List, [], ◌∷◌, ◌++◌, map, take, drop, length, sym, ap, subst, ◌∙◌, arith}
use Rattle.std.proofs.lemmas.List.{get_or-map}
use Rattle.std.specs.List.{concat, sum}
use native.Mathlib.Nat.{zero-mul, suc-mul}
use lib.ListN.{get_or}
use lib.Seq.{drop-drop, take-nil}
use Rattle.raw_column.specs.Contents.{first_of, no_values}
use Rattle.raw_column.specs.Places.{Values, columns_in, place_of, rows}
use Rattle.raw_column.proofs.PlaceLemmas.{length_columns, place_next, place_within}

take_both : (i j : ℕ) (xs : List ℕ) → take (i + j) xs ≡ take i xs ++ take j (drop i xs)
take_both zero j xs = let e : 0 + j ≡ j = omega arith in ap (λ k. take k xs) e
take_both (suc i) j [] = let e : suc i + j ≡ suc (i + j) = omega arith in ap (λ k. take {A = ℕ} k []) e ∙ sym (take-nil j)
take_both (suc i) j (x ∷ xs) = let e : suc i + j ≡ suc (i + j) = omega arith in ap (λ k. take k (x ∷ xs)) e ∙ ap (λ l. x ∷ l) (take_both i j xs)

rows_joined : (s m n : ℕ) (bs : List ℕ) → m ≤ n → concat (take m (rows s n bs)) ≡ take (m * s) bs
rows_joined s zero n bs le = let none : 0 * s ≡ 0 = zero-mul s in sym (ap (λ k. take k bs) none)
rows_joined s (suc m) zero bs le = absurd (omega arith)
rows_joined s (suc m) (suc n) bs le =
    let e : s + m * s ≡ suc m * s = omega (arith, suc-mul m s) in
    ap (λ l. take s bs ++ l) (rows_joined s m n (drop s bs) (omega arith)) ∙ sym (take_both s (m * s) bs) ∙ ap (λ k. take k bs) e

columns_joined : (c : ℕ) (ss bs : List ℕ) (k n : ℕ) (d : Values) → k < length ss → n ≤ c → concat (take n (get_or (columns_in c ss bs) k d).items) ≡ take (n * get_or ss k 0) (drop (place_of c ss k 0) bs)
columns_joined c [] bs k n d lt le = absurd (omega arith)
columns_joined c (s ∷ ss) bs zero n d lt le = let none : 0 ≡ 0 * s = sym (zero-mul s) in rows_joined s n c bs le ∙ ap (λ k. take (n * s) (drop k bs)) none
columns_joined c (s ∷ ss) bs (suc k) n d lt le =
    columns_joined c ss (drop (c * s) bs) k n d (omega arith) le ∙ ap (take (n * get_or ss k 0)) (drop-drop (place_of c ss k 0) (c * s) bs)

-- what is seen of a column, by the bytes of the block
pub bytes_shown : (c n : ℕ) (ss bs : List ℕ) (k : ℕ) → k < length ss → n ≤ c
    → concat (get_or (map (first_of n) (columns_in c ss bs)) k (no_values 0)).items ≡ take (n * get_or ss k 0) (drop (place_of c ss k 0) bs)
bytes_shown c n ss bs k lt le =
    let within : k < length (columns_in c ss bs) = subst (λ m. k < m) (sym (length_columns c ss bs)) lt in
    ap (λ (v : Values). concat v.items) (get_or-map (first_of n) (columns_in c ss bs) k (no_values 0) (no_values 0) within) ∙ columns_joined c ss bs k n (no_values 0) lt le

-- the rows of a column end within the block
pub column_fits : (c n : ℕ) (ss : List ℕ) (k : ℕ) → k < length ss → n ≤ c → place_of c ss k 0 + n * get_or ss k 0 ≤ c * sum ss
column_fits c n ss k lt le =
    let start : 0 + n ≡ n = omega arith in
    let from : place_of c ss k (0 + n) ≡ place_of c ss k n = ap (place_of c ss k) start in
    omega (arith, place_next c ss k 0 n lt, from, place_within c ss k n lt le)
