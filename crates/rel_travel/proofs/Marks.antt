-- Marks and the order of what was found, as one more is found.
use Rattle.std.proofs.Common.{◌≡◌, subst, ℕ, ◌+◌, ◌-◌, ◌*◌, ◌/◌, ◌%◌, ◌^◌, ◌<◌, ◌≤◌, ◌==◌, Bool, true, false, ◌||◌, List, [], ◌∷◌, ◌++◌, append-nil, append_assoc, length, length-append, get_or, set, replicate, max, not, bit_and, bit_or, ◌≢◌, refl, sym, ap, ◌∙◌, inl, inr, arith}
use Rattle.std.specs.Int.{bit_at, div_ceil}
use Rattle.std.specs.List.{IsDistinct}
use Rattle.std.specs.Cmp.{nat_eq_equiv}
use Rattle.std.proofs.lemmas.Bool.{cases_Bool, cases_lt, eq-eqb, eqb-true, true≢false}
use Rattle.std.proofs.lemmas.List.Folds.{list_any-append}
use Rattle.std.proofs.lemmas.List.{get_or-append_right, get_or-replicate, get_or-set_other, get_or-set_same, get_or_append_left, get_or_past, length-replicate, length-set, replicate-append-replicate}
use Rattle.std.proofs.lemmas.Grind.{get_or-set_at}
use Rattle.std.proofs.lemmas.Map.Keys.{IsDistinct-push}
use Rattle.std.proofs.lemmas.Map.Steps.{length-le_from_distinct_below}
use Rattle.std.proofs.lemmas.Nat.{pow_pos}
use Rattle.std.proofs.Math.Nat.{one-mul, zero-mul}
use Rattle.std.proofs.lemmas.Nat.Bits.{and_pow, bit_at-lt, bit_at-pow_other, bit_at-pow_same, bit_at-zero, bit_at_or}
use Rattle.rel_travel.specs.Finds.{AreMarked, is_among, is_marked, with_find, with_mark}

-- ---- one mark

-- a number below the size has a word
pub has_word : (size y : ℕ) → y < size → y / 64 < div_ceil size 64
has_word size y l = omega (arith, l)

-- a number is given by its word and its bit
same_place : (y z : ℕ) → z / 64 ≡ y / 64 → z % 64 ≡ y % 64 → z ≡ y
same_place y z word bit = omega (arith, word, bit)

bit_set : (n k : ℕ) → bit_at (bit_or n (2 ^ k)) k ≡ 1
bit_set n k =
    let other : bit_at n k < 2 = bit_at-lt n k in
    let most : max (bit_at n k) 1 ≡ 1 = omega (arith, other) in
    bit_at_or n (2 ^ k) k ∙ ap (max (bit_at n k)) (bit_at-pow_same k) ∙ most

bit_stays : (n k i : ℕ) → i ≢ k → bit_at (bit_or n (2 ^ k)) i ≡ bit_at n i
bit_stays n k i apart =
    let most : max (bit_at n i) 0 ≡ bit_at n i = omega arith in
    bit_at_or n (2 ^ k) i ∙ ap (max (bit_at n i)) (bit_at-pow_other k i apart) ∙ most

not_below : {p : ℕ} → 0 < p → p ≢ 0
not_below l e = omega (arith, l, e)

told : (b p : ℕ) → b < 2 → 0 < p → not (b * p == 0) ≡ (b == 1)
told b p l more = elim (cases_lt b 1) [
  | inl none ↦
      let e : b ≡ 0 = omega (arith, none) in
      let product : b * p ≡ 0 = ap (λ n. n * p) e ∙ zero-mul p in
      ap (λ n. not (n == 0)) product ∙ ap (λ n. n == 1) (sym e)
  | inr one ↦
      let e : b ≡ 1 = omega (arith, one, l) in
      let product : b * p ≡ p = ap (λ n. n * p) e ∙ one-mul p in
      let some : (p == 0) ≡ false = elim (cases_Bool (p == 0)) [ inl t ↦ absurd (not_below more (eqb-true p 0 t)) | inr f ↦ f ] in
      ap (λ n. not (n == 0)) product ∙ ap not some ∙ ap (λ n. n == 1) (sym e)
]

-- the test by `&` and the bit
pub mark_read : (words : List ℕ) (y : ℕ) → not (bit_and (get_or words (y / 64) 0) (2 ^ (y % 64)) == 0) ≡ is_marked words y
mark_read words y =
    let word = get_or words (y / 64) 0 in
    ap (λ n. not (n == 0)) (and_pow word (y % 64)) ∙ told (bit_at word (y % 64)) (2 ^ (y % 64)) (bit_at-lt word (y % 64)) (pow_pos (y % 64))

pub mark_set : (words : List ℕ) (y : ℕ) → y / 64 < length words → is_marked (with_mark words y) y ≡ true
mark_set words y l =
    let word = get_or words (y / 64) 0 in
    ap (λ n. bit_at n (y % 64) == 1) (get_or-set_same words (y / 64) (bit_or word (2 ^ (y % 64))) 0 l) ∙ ap (λ b. b == 1) (bit_set word (y % 64))

pub mark_stays : (words : List ℕ) (y z : ℕ) → y / 64 < length words → (z == y) ≡ false → is_marked (with_mark words y) z ≡ is_marked words z
mark_stays words y z l apart =
    let word = get_or words (y / 64) 0 in
    let more = bit_or word (2 ^ (y % 64)) in
    elim (cases_Bool (z / 64 == y / 64)) [
      | inl t ↦
          let e : z / 64 ≡ y / 64 = eqb-true (z / 64) (y / 64) t in
          let differ : z % 64 ≢ y % 64 = λ b. true≢false (sym (eq-eqb z y (same_place y z e b)) ∙ apart) in
          ap (λ n. bit_at n (z % 64) == 1) (get_or-set_at words (y / 64) (z / 64) more 0 e l) ∙ ap (λ b. b == 1) (bit_stays word (y % 64) (z % 64) differ)
          ∙ ap (λ k. bit_at (get_or words k 0) (z % 64) == 1) (sym e)
      | inr f ↦
          ap (λ n. bit_at n (z % 64) == 1) (get_or-set_other words (y / 64) (z / 64) more 0 (λ e. true≢false (sym (eq-eqb (z / 64) (y / 64) e) ∙ f)))
    ]

-- ---- one more that is found

pub or_found : (a b : Bool) → b ≡ true → (a || (b || false)) ≡ true
or_found true b e = refl
or_found false b e = ap (λ c. c || false) e

or_none : (a b : Bool) → b ≡ false → (a || (b || false)) ≡ a
or_none true b e = refl
or_none false b e = ap (λ c. c || false) e

among_last : (xs : List ℕ) (y z : ℕ) → (z == y) ≡ true → is_among (xs ++ y ∷ []) z ≡ true
among_last xs y z e = list_any-append (λ x. z == x) xs (y ∷ []) ∙ or_found (is_among xs z) (z == y) e

among_others : (xs : List ℕ) (y z : ℕ) → (z == y) ≡ false → is_among (xs ++ y ∷ []) z ≡ is_among xs z
among_others xs y z e = list_any-append (λ x. z == x) xs (y ∷ []) ∙ or_none (is_among xs z) (z == y) e

-- what is found with one more
pub found_more : (found : List ℕ) (y : ℕ) → is_among found y ≡ false → found ++ y ∷ [] ≡ with_find found y
found_more found y e = rw e refl

pub AreMarked-more : (size : ℕ) (words found : List ℕ) (y : ℕ) → AreMarked size words found → y < size → is_marked words y ≡ false
    → AreMarked size (with_mark words y) (found ++ y ∷ [])
AreMarked-more size words found y m l e =
    let word : y / 64 < length words = rw m.long (has_word size y l) in
    record {
      long = length-set words (y / 64) (bit_or (get_or words (y / 64) 0) (2 ^ (y % 64))) ∙ m.long;
      below = λ z a. elim (cases_Bool (z == y)) [
        | inl t ↦ subst (λ u. u < size) (sym (eqb-true z y t)) l
        | inr f ↦ m.below z (sym (among_others found y z f) ∙ a)
      ];
      marked = λ z. elim (cases_Bool (z == y)) [
        | inl t ↦ ap (is_marked (with_mark words y)) (eqb-true z y t) ∙ mark_set words y word ∙ sym (among_last found y z t)
        | inr f ↦ mark_stays words y z word f ∙ m.marked z ∙ sym (among_others found y z f)
      ];
      distinct = IsDistinct-push nat_eq_equiv found y m.distinct (sym (m.marked y) ∙ e);
    }

-- there are no more finds than marks
pub finds_fit : (size : ℕ) (words found : List ℕ) → AreMarked size words found → length found ≤ size
finds_fit size words found m = length-le_from_distinct_below found size m.distinct m.below

-- a mark that is missing leaves room for one more
pub room_left : (size : ℕ) (words found : List ℕ) (y : ℕ) → AreMarked size words found → y < size → is_marked words y ≡ false → length found < size
room_left size words found y m l e =
    let more = finds_fit size (with_mark words y) (found ++ y ∷ []) (AreMarked-more size words found y m l e) in
    omega (arith, more, length-append found (y ∷ []))

-- ---- more room

blank : (n i : ℕ) → get_or {A = ℕ} (replicate n 0) i 0 ≡ 0
blank n i = elim (cases_lt i n) [
  | inl l ↦ get_or-replicate n i 0 0 l
  | inr past ↦ get_or_past (replicate n 0) i 0 (rw (length-replicate {A = ℕ} n 0) past)
]

pub read_wider : (words : List ℕ) (n i : ℕ) → get_or (words ++ replicate n 0) i 0 ≡ get_or words i 0
read_wider words n i = elim (cases_lt i (length words)) [
  | inl l ↦ get_or_append_left words (replicate n 0) 0 i l
  | inr past ↦ get_or-append_right words (replicate n 0) (length words) i 0 refl past ∙ blank n (i - length words) ∙ sym (get_or_past words i 0 past)
]

pub AreMarked-wider : (size : ℕ) (words found : List ℕ) (n : ℕ) → AreMarked size words found → size ≤ n → AreMarked n (words ++ replicate (div_ceil n 64 - length words) 0) found
AreMarked-wider size words found n m more =
    let long : length words ≤ div_ceil n 64 = omega (arith, m.long, more) in
    record {
      long = omega (arith, length-append words (replicate (div_ceil n 64 - length words) 0), length-replicate {A = ℕ} (div_ceil n 64 - length words) 0, long);
      below = λ z a. let l = m.below z a in omega (arith, l, more);
      marked = λ z. ap (λ w. bit_at w (z % 64) == 1) (read_wider words (div_ceil n 64 - length words) (z / 64)) ∙ m.marked z;
      distinct = m.distinct;
    }

-- there are no more words than a larger size has
pub words_within : (size : ℕ) (words found : List ℕ) (n : ℕ) → AreMarked size words found → size ≤ n → length words ≤ div_ceil n 64
words_within size words found n m more = omega (arith, m.long, more)

-- blank words after others, before the first and after some more
pub blank_none : (words : List ℕ) (n : ℕ) → words ≡ words ++ replicate (n - n) 0
blank_none words n =
    let none : n - n ≡ 0 = omega arith in
    sym (ap (λ k. words ++ replicate k 0) none ∙ append-nil words)

pub blank_more : (old now new block : List ℕ) (k more n : ℕ) → now ≡ old ++ replicate k 0 → block ≡ replicate more 0 → new ≡ now ++ block → k + more ≡ n → new ≡ old ++ replicate n 0
blank_more old now new block k more n was blank is sum =
    is ∙ (λ i. was i ++ blank i) ∙ append_assoc old (replicate k 0) (replicate more 0) ∙ ap (λ b. old ++ b) (replicate-append-replicate k more 0) ∙ ap (λ s. old ++ replicate s 0) sum

-- nothing is found where there is room for nothing
pub AreMarked-none : AreMarked 0 [] []
unfolding IsDistinct
AreMarked-none = record { long = refl; below = λ y a. absurd (true≢false (sym a)); marked = λ y. ap (λ b. b == 1) (bit_at-zero (y % 64)); distinct = tt }

-- ---- what is forgotten

-- all that is still marked is still in order
pub record AreLeft (size : ℕ) (words found : List ℕ) : Type 0 where
  pub long : length words ≡ div_ceil size 64
  pub below : (y : ℕ) → is_among found y ≡ true → y < size
  pub left : (y : ℕ) → is_marked words y ≡ true → is_among found y ≡ true

pub all_left : (size : ℕ) (words found : List ℕ) → AreMarked size words found → AreLeft size words found
all_left size words found m = record { long = m.long; below = m.below; left = λ y e. sym (m.marked y) ∙ e }

pub none_left : (size : ℕ) (words : List ℕ) → AreLeft size words [] → AreMarked size words []
unfolding IsDistinct
none_left size words h = record {
  long = h.long;
  below = h.below;
  marked = λ y. elim (cases_Bool (is_marked words y)) [ inl t ↦ absurd (true≢false (sym (h.left y t))) | inr f ↦ f ];
  distinct = tt;
}

-- a word that is cleared has no mark
cleared_word : (words : List ℕ) (k z : ℕ) → k < length words → z / 64 ≡ k → is_marked (set words k 0) z ≡ false
cleared_word words k z l e = ap (λ n. bit_at n (z % 64) == 1) (get_or-set_at words k (z / 64) 0 0 e l) ∙ ap (λ b. b == 1) (bit_at-zero (z % 64))

other_word : (words : List ℕ) (k z : ℕ) → z / 64 ≢ k → is_marked (set words k 0) z ≡ is_marked words z
other_word words k z apart = ap (λ n. bit_at n (z % 64) == 1) (get_or-set_other words k (z / 64) 0 0 apart)

pub last_word : (size : ℕ) (words found : List ℕ) (y : ℕ) → AreLeft size words (found ++ y ∷ []) → y / 64 < length words
last_word size words found y h = rw h.long (has_word size y (h.below y (among_last found y y (eq-eqb y y refl))))

front_among : (xs : List ℕ) (y z : ℕ) → is_among xs z ≡ true → is_among (xs ++ y ∷ []) z ≡ true
front_among xs y z e = list_any-append (λ x. z == x) xs (y ∷ []) ∙ ap (λ a. a || ((z == y) || false)) e

pub last_cleared : (size : ℕ) (words found : List ℕ) (y : ℕ) → AreLeft size words (found ++ y ∷ []) → AreLeft size (set words (y / 64) 0) found
last_cleared size words found y h =
    let word = last_word size words found y h in
    record {
      long = length-set words (y / 64) 0 ∙ h.long;
      below = λ z a. h.below z (front_among found y z a);
      left = λ z t. elim (cases_Bool (z / 64 == y / 64)) [
        | inl e ↦ absurd (true≢false (sym t ∙ cleared_word words (y / 64) z word (eqb-true (z / 64) (y / 64) e)))
        | inr f ↦
            let apart : z / 64 ≢ y / 64 = λ e. true≢false (sym (eq-eqb (z / 64) (y / 64) e) ∙ f) in
            let other : (z == y) ≡ false = elim (cases_Bool (z == y)) [ inl s ↦ absurd (apart (ap (λ n. n / 64) (eqb-true z y s))) | inr g ↦ g ] in
            sym (among_others found y z other) ∙ h.left z (sym (other_word words (y / 64) z apart) ∙ t)
      ];
    }
