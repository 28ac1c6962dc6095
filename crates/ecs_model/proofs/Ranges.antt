-- Numbers in a row, and those of them that pass a test.
use Rattle.std.specs.Prelude.{◌&&◌, filter}
use Rattle.std.specs.List.{range_with_len}
use Rattle.std.proofs.Common.{◌≡◌, ℕ, zero, suc, ◌+◌, ◌<◌, ◌≤◌, Bool, true, false, cond, List, [], ◌∷◌, ◌++◌, ap, ◌∙◌, arith, refl}
use Rattle.std.proofs.lemmas.List.Elements.{filter-append}

pub ranges_join : (a m n : ℕ) → range_with_len a (m + n) ≡ range_with_len a m ++ range_with_len (a + m) n
ranges_join a zero n =
    let none : zero + n ≡ n = omega arith in
    let still : a ≡ a + zero = omega arith in
    ap (range_with_len a) none ∙ ap (λ b. range_with_len b n) still
ranges_join a (suc m) n =
    let more : suc m + n ≡ suc (m + n) = omega arith in
    let next : a + 1 + m ≡ a + suc m = omega arith in
    ap (range_with_len a) more ∙ ap (λ xs. a ∷ xs) (ranges_join (a + 1) m n ∙ ap (λ b. range_with_len (a + 1) m ++ range_with_len b n) next)

pub filter_alike : (p q : ℕ → Bool) (a n : ℕ) → ((k : ℕ) → a ≤ k → k < a + n → p k ≡ q k) → filter p (range_with_len a n) ≡ filter q (range_with_len a n)
filter_alike p q a zero same = refl
filter_alike p q a (suc n) same =
    let first : p a ≡ q a = same a (omega arith) (omega arith) in
    let rest : filter p (range_with_len (a + 1) n) ≡ filter q (range_with_len (a + 1) n) = filter_alike p q (a + 1) n (λ k low high. same k (omega arith) (omega arith)) in
    λ i. cond (first i) (a ∷ rest i) (rest i)

pub none_between : (p : ℕ → Bool) (a n : ℕ) → ((k : ℕ) → a ≤ k → k < a + n → p k ≡ false) → filter p (range_with_len a n) ≡ []
none_between p a zero none = refl
none_between p a (suc n) none =
    ap (λ b. cond b (a ∷ filter p (range_with_len (a + 1) n)) (filter p (range_with_len (a + 1) n))) (none a (omega arith) (omega arith))
    ∙ none_between p (a + 1) n (λ k low high. none k (omega arith) (omega arith))

pub number_more : (p : ℕ → Bool) (a n : ℕ) → filter p (range_with_len a (n + 1)) ≡ filter p (range_with_len a n) ++ cond (p (a + n)) ((a + n) ∷ []) []
number_more p a n = ap (filter p) (ranges_join a n 1) ∙ filter-append p (range_with_len a n) (range_with_len (a + n) 1)

pub filter_twice : (p q : ℕ → Bool) (xs : List ℕ) → filter q (filter p xs) ≡ filter (λ x. p x && q x) xs
filter_twice p q [] = refl
filter_twice p q (x ∷ xs) =
    elim (p x) as (λ b. filter q (cond b (x ∷ filter p xs) (filter p xs)) ≡ cond (b && q x) (x ∷ filter (λ x. p x && q x) xs) (filter (λ x. p x && q x) xs)) [
      | true ↦ ap (λ ys. cond (q x) (x ∷ ys) ys) (filter_twice p q xs)
      | false ↦ filter_twice p q xs
    ]
