-- The sixteen bytes of a short name: they are those of one name, and two words distinguish them.
use Rattle.std.proofs.Common.{◌≡◌, ℕ, zero, suc, ◌+◌, ◌-◌, ◌<◌, ◌≤◌, Bool, true, false, List, [], ◌∷◌, ◌++◌, append_assoc, drop, length, length-append, get_or, replicate, take, refl, sym, ap, subst, ◌∙◌, arith}
use Rattle.std.specs.Prelude.{nat_eq, slice_index}
use Rattle.std.specs.Cmp.Lexicographic.{bytes_decides, pointwise}
use Rattle.std.proofs.lemmas.List.{drop-drop, ext_get_or, length-replicate, length-take-le, take-append-drop, take-append-le, take-take, take_all}
use Rattle.std.proofs.lemmas.Slice.{drop-append-drop}
use Rattle.std.proofs.lemmas.Bool.Decides.{Decides-eqb}
use Rattle.std.proofs.lemmas.Nat.{le_bytes_8}
use Rattle.std.specs.Str.{IsUtf8}
use Rattle.name_index.specs.Short.{IsKey, padded, text_in, word_at}

eight : (bs : List ℕ) (at : ℕ) → List ℕ
eight bs at = slice_index bs at ∷ slice_index bs (at + 1) ∷ slice_index bs (at + 2) ∷ slice_index bs (at + 3) ∷ slice_index bs (at + 4) ∷ slice_index bs (at + 5) ∷ slice_index bs (at + 6) ∷ slice_index bs (at + 7) ∷ []

small_eight : (bs : List ℕ) (at : ℕ) → ((i : ℕ) → get_or bs i 0 < 256) → (i : ℕ) → get_or (eight bs at) i 0 < 256
unfolding eight
small_eight bs at small zero = small at
small_eight bs at small (suc zero) = small (at + 1)
small_eight bs at small (suc (suc zero)) = small (at + 2)
small_eight bs at small (suc (suc (suc zero))) = small (at + 3)
small_eight bs at small (suc (suc (suc (suc zero)))) = small (at + 4)
small_eight bs at small (suc (suc (suc (suc (suc zero))))) = small (at + 5)
small_eight bs at small (suc (suc (suc (suc (suc (suc zero)))))) = small (at + 6)
small_eight bs at small (suc (suc (suc (suc (suc (suc (suc zero))))))) = small (at + 7)
small_eight bs at small (suc (suc (suc (suc (suc (suc (suc (suc i)))))))) = omega arith

same_eight : (xs ys : List ℕ) (at : ℕ) → ((i : ℕ) → get_or xs i 0 < 256) → ((i : ℕ) → get_or ys i 0 < 256) → word_at xs at ≡ word_at ys at → eight xs at ≡ eight ys at
unfolding eight
same_eight xs ys at small_a small_b same = sym (le_bytes_8 (eight xs at) (word_at xs at) refl (small_eight xs at small_a) refl)
    ∙ le_bytes_8 (eight ys at) (word_at xs at) refl (small_eight ys at small_b) same

-- two words distinguish keys
module _ (xs ys : List ℕ) (long_a : length xs ≡ 16) (long_b : length ys ≡ 16) (low : eight xs 0 ≡ eight ys 0) (high : eight xs 8 ≡ eight ys 8) where
  each : (i : ℕ) → i < 16 → get_or xs i 0 ≡ get_or ys i 0
  unfolding eight
  each zero h = ap (λ l. get_or l 0 0) low
  each (suc zero) h = ap (λ l. get_or l 1 0) low
  each (suc (suc zero)) h = ap (λ l. get_or l 2 0) low
  each (suc (suc (suc zero))) h = ap (λ l. get_or l 3 0) low
  each (suc (suc (suc (suc zero)))) h = ap (λ l. get_or l 4 0) low
  each (suc (suc (suc (suc (suc zero))))) h = ap (λ l. get_or l 5 0) low
  each (suc (suc (suc (suc (suc (suc zero)))))) h = ap (λ l. get_or l 6 0) low
  each (suc (suc (suc (suc (suc (suc (suc zero))))))) h = ap (λ l. get_or l 7 0) low
  each (suc (suc (suc (suc (suc (suc (suc (suc zero)))))))) h = ap (λ l. get_or l 0 0) high
  each (suc (suc (suc (suc (suc (suc (suc (suc (suc zero))))))))) h = ap (λ l. get_or l 1 0) high
  each (suc (suc (suc (suc (suc (suc (suc (suc (suc (suc zero)))))))))) h = ap (λ l. get_or l 2 0) high
  each (suc (suc (suc (suc (suc (suc (suc (suc (suc (suc (suc zero))))))))))) h = ap (λ l. get_or l 3 0) high
  each (suc (suc (suc (suc (suc (suc (suc (suc (suc (suc (suc (suc zero)))))))))))) h = ap (λ l. get_or l 4 0) high
  each (suc (suc (suc (suc (suc (suc (suc (suc (suc (suc (suc (suc (suc zero))))))))))))) h = ap (λ l. get_or l 5 0) high
  each (suc (suc (suc (suc (suc (suc (suc (suc (suc (suc (suc (suc (suc (suc zero)))))))))))))) h = ap (λ l. get_or l 6 0) high
  each (suc (suc (suc (suc (suc (suc (suc (suc (suc (suc (suc (suc (suc (suc (suc zero))))))))))))))) h = ap (λ l. get_or l 7 0) high
  each (suc (suc (suc (suc (suc (suc (suc (suc (suc (suc (suc (suc (suc (suc (suc (suc i)))))))))))))))) h = absurd (omega arith)

  same_bytes : xs ≡ ys
  same_bytes = ext_get_or 0 xs ys (long_a ∙ sym long_b) (λ i h. each i (omega (arith, long_a, h)))

same_test : (p q : Bool) → (p ≡ true → q ≡ true) → (q ≡ true → p ≡ true) → p ≡ q
same_test true true f g = refl
same_test true false f g = sym (f refl)
same_test false true f g = g refl
same_test false false f g = refl

-- so bytes whose first words are one are compared by their second
pub compared : (xs ys : List ℕ) → length xs ≡ 16 → length ys ≡ 16 → ((i : ℕ) → get_or xs i 0 < 256) → ((i : ℕ) → get_or ys i 0 < 256)
    → word_at xs 0 ≡ word_at ys 0 → nat_eq (word_at xs 8) (word_at ys 8) ≡ pointwise nat_eq xs ys
compared xs ys long_a long_b small_a small_b low = same_test _ _
    (λ h. (bytes_decides xs ys).1 (same_bytes xs ys long_a long_b (same_eight xs ys 0 small_a small_b low)
    (same_eight xs ys 8 small_a small_b ((Decides-eqb (word_at xs 8) (word_at ys 8)).0 h))))
    (λ h. (Decides-eqb (word_at xs 8) (word_at ys 8)).1 (ap (λ l. word_at l 8) ((bytes_decides xs ys).0 h)))

-- and keys are compared by their bytes
pub keys_compared : (xs ys : List ℕ) → xs ≡ padded (text_in xs) → ys ≡ padded (text_in ys) → pointwise nat_eq xs ys ≡ pointwise nat_eq (text_in xs) (text_in ys)
keys_compared xs ys is_a is_b = same_test _ _
    (λ h. (bytes_decides (text_in xs) (text_in ys)).1 (ap text_in ((bytes_decides xs ys).0 h)))
    (λ h. (bytes_decides xs ys).1 (is_a ∙ ap padded ((bytes_decides (text_in xs) (text_in ys)).0 h) ∙ sym is_b))

-- a text that is put over some bytes by its first ones and its last ones, which may overlap
pub both_ends : (t b : List ℕ) (s l : ℕ) → l + s ≡ length t → l ≤ s
    → take l (take s t ++ drop s b) ++ (drop l t ++ drop s (drop l (take s t ++ drop s b))) ≡ t ++ drop (length t) b
both_ends t b s l e le =
    let short : length (take s t) ≡ s = length-take-le s t (omega arith) in
    let front : take l (take s t ++ drop s b) ≡ take l t = take-append-le l (take s t) (drop s b) (omega arith) ∙ take-take l s t le in
    let back : drop s (drop l (take s t ++ drop s b)) ≡ drop (length t) b =
    drop-drop s l (take s t ++ drop s b) ∙ ap (λ n. drop n (take s t ++ drop s b)) e ∙ drop-append-drop s b (take s t) (length t) (omega arith) short in
    (λ i. front i ++ (drop l t ++ back i)) ∙ sym (append_assoc (take l t) (drop l t) (drop (length t) b)) ∙ ap (λ xs. xs ++ drop (length t) b) (take-append-drop l t)

-- the key of a text
last_at : (xs : List ℕ) (x k : ℕ) → length xs ≡ k → get_or (xs ++ x ∷ []) k 0 ≡ x
last_at [] x zero h = refl
last_at [] x (suc k) h = absurd (omega (arith, h))
last_at (y ∷ xs) x zero h = absurd (omega (arith, h))
last_at (y ∷ xs) x (suc k) h = last_at xs x k (omega (arith, h))

module _ (t : List ℕ) (short : length t ≤ 15) where
  filled : length (t ++ replicate (15 - length t) 0) ≡ 15
  filled = length-append t (replicate (15 - length t) 0) ∙ ap (λ n. length t + n) (length-replicate (15 - length t) 0) ∙ omega arith

  count_of : slice_index (padded t) 15 ≡ length t
  count_of = last_at (t ++ replicate (15 - length t) 0) (length t) 15 filled

  pub text_in-padded : text_in (padded t) ≡ t
  text_in-padded = ap (λ n. take n (padded t)) count_of ∙ take-append-le (length t) (t ++ replicate (15 - length t) 0) (length t ∷ []) (omega (arith, filled)) ∙ take-append-le (length t) t (replicate (15 - length t) 0) (omega arith)
      ∙ take_all (length t) t (omega arith)

  pub key_of : IsUtf8 t → (bytes : List ℕ) → bytes ≡ padded t → IsKey bytes
  key_of text bytes e = subst IsKey (sym e) (record {
    whole = ap padded (sym text_in-padded);
    count = subst (λ n. n ≤ 15) (sym count_of) short;
    utf8 = subst IsUtf8 (sym text_in-padded) text;
  })
