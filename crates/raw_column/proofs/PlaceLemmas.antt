-- The values of a block's columns, read from its bytes and written to them.
use Rattle.std.proofs.Common.{◌≡◌, ℕ, zero, suc, ◌+◌, ◌-◌, ◌*◌, ◌≤◌, ◌<◌, List, [], ◌∷◌, ◌++◌, map, take, drop, take-append-drop, length, length-append, length-take-le, length-drop, replicate, slice_index, refl, sym, ap, ap₂, subst, ◌∙◌, arith, inl, inr}
use Rattle.std.proofs.lemmas.List.{append_assoc, append-nil, drop_all, set-set, take_all, length-replicate, replicate-append-replicate}
use Rattle.std.proofs.lemmas.List.Sums.{sum_by-cons, sum_by-take-le}
use Rattle.std.proofs.lemmas.Grind.{get_or-set_at}
use Rattle.std.proofs.lemmas.Bool.{cases_lt}
use Rattle.std.proofs.Math.Seq.{take-append_seam, drop-append_seam, take-append-add, drop-append-add}
use Rattle.std.specs.List.{sum}
use native.Mathlib.Nat.{zero-mul, mul-zero, suc-mul, add-mul, mul-add, mul-le-mul_right, mul-le-mul_left}
use lib.ListN.{set, get_or}
use lib.Seq.{drop-drop}
use Rattle.raw_column.specs.Places.{Values, columns_in, gap_filled, over, place_of, resized, rows}
use Rattle.raw_column.specs.Contents.{with_item}

-- ---- bytes
pub length_over : (k s : ℕ) (bs ws : List ℕ) → length ws ≡ s → k + s ≤ length bs → length (over k s bs ws) ≡ length bs
length_over k s bs ws e le =
    omega (arith, length-append (take k bs ++ ws) (drop (k + s) bs), length-append (take k bs) ws, length-take-le k bs (omega arith), length-drop (k + s) bs)

pub take_seam : (k : ℕ) (xs ys : List ℕ) → length xs ≡ k → take k (xs ++ ys) ≡ xs
take_seam k xs ys e = subst (λ j. take j (xs ++ ys) ≡ xs) e (take-append_seam xs ys)

pub drop_seam : (k : ℕ) (xs ys : List ℕ) → length xs ≡ k → drop k (xs ++ ys) ≡ ys
drop_seam k xs ys e = subst (λ j. drop j (xs ++ ys) ≡ ys) e (drop-append_seam xs ys)

-- a write after the first q bytes leaves them
pub over_past : (q k s : ℕ) (bs ws : List ℕ) → q ≤ length bs → over (q + k) s bs ws ≡ take q bs ++ over k s (drop q bs) ws
over_past q k s bs ws le =
    let h = take q bs in let ys = drop q bs in let long : length h ≡ q = length-take-le q bs le in
    let whole : h ++ ys ≡ bs = take-append-drop q bs in
    let e1 : q + k ≡ length h + k = omega arith in let e2 : q + k + s ≡ length h + (k + s) = omega arith in
    let front : take (q + k) bs ≡ h ++ take k ys = ap₂ take e1 (sym whole) ∙ take-append-add h ys k in
    let back : drop (q + k + s) bs ≡ drop (k + s) ys = ap₂ drop e2 (sym whole) ∙ drop-append-add h ys (k + s) in
    ap₂ (λ a b. a ++ ws ++ b) front back ∙ ap (λ a. a ++ drop (k + s) ys) (append_assoc h (take k ys) ws) ∙ append_assoc h (take k ys ++ ws) (drop (k + s) ys)

pub over_zero : (s : ℕ) (bs ws : List ℕ) → over 0 s bs ws ≡ ws ++ drop s bs
over_zero s bs ws = let all : 0 + s ≡ s = omega arith in ap (λ j. ws ++ drop j bs) all

-- bytes that are written over themselves
pub over_same : (k s : ℕ) (bs : List ℕ) → over k s bs (take s (drop k bs)) ≡ bs
over_same k s bs =
    append_assoc (take k bs) (take s (drop k bs)) (drop (k + s) bs) ∙ ap (λ l. take k bs ++ (take s (drop k bs) ++ l)) (let e : k + s ≡ k + s = refl in sym (drop-drop s k bs))
    ∙ ap (λ l. take k bs ++ l) (take-append-drop s (drop k bs)) ∙ take-append-drop k bs

-- no bytes
pub nil_of : (bs : List ℕ) → length bs ≡ 0 → bs ≡ []
nil_of [] e = refl
nil_of (b ∷ bs) e = absurd (omega arith)

-- ---- one column
module _ (s : ℕ) where
  pub length_rows : (n : ℕ) (bs : List ℕ) → length (rows s n bs) ≡ n
  length_rows zero bs = refl
  length_rows (suc n) bs = ap suc (length_rows n (drop s bs))

  rows_cons : (n : ℕ) (h ys : List ℕ) → length h ≡ s → rows s (suc n) (h ++ ys) ≡ h ∷ rows s n ys
  rows_cons n h ys e = ap₂ (λ x zs. x ∷ rows s n zs) (take_seam s h ys e) (drop_seam s h ys e)

  pub rows_get : (n : ℕ) (bs : List ℕ) (i : ℕ) (d : List ℕ) → i < n → get_or (rows s n bs) i d ≡ take s (drop (i * s) bs)
  rows_get zero bs i d lt = absurd (omega arith)
  rows_get (suc n) bs zero d lt = let none : 0 ≡ 0 * s = sym (zero-mul s) in ap (λ k. take s (drop k bs)) none
  rows_get (suc n) bs (suc i) d lt =
      let e : s + i * s ≡ suc i * s = omega (arith, suc-mul i s) in
      rows_get n (drop s bs) i d (omega arith) ∙ ap (take s) (drop-drop (i * s) s bs ∙ ap (λ k. drop k bs) e)

  rows_write : (n : ℕ) (bs : List ℕ) (i : ℕ) (ws : List ℕ) → i < n → length ws ≡ s → n * s ≤ length bs → rows s n (over (i * s) s bs ws) ≡ set (rows s n bs) i ws
  rows_write zero bs i ws lt e le = absurd (omega arith)
  rows_write (suc n) bs zero ws lt e le =
      let none : 0 * s ≡ 0 = zero-mul s in
      ap (λ k. rows s (suc n) (over k s bs ws)) none ∙ ap (rows s (suc n)) (over_zero s bs ws) ∙ rows_cons n ws (drop s bs) e
  rows_write (suc n) bs (suc i) ws lt e le =
      let h = take s bs in let ys = drop s bs in let fits : s ≤ length bs = omega (arith, suc-mul n s) in let first : length h ≡ s = length-take-le s bs fits in
      let next : suc i * s ≡ s + i * s = omega (arith, suc-mul i s) in
      ap (λ k. rows s (suc n) (over k s bs ws)) next ∙ ap (rows s (suc n)) (over_past s (i * s) s bs ws fits) ∙ rows_cons n h (over (i * s) s ys ws) first
      ∙ ap (λ t. h ∷ t) (rows_write n ys i ws (omega arith) e (omega (arith, suc-mul n s, length-drop s bs)))

  pub rows_prefix : (n : ℕ) (bs cs : List ℕ) → n * s ≤ length bs → rows s n (bs ++ cs) ≡ rows s n bs
  rows_prefix zero bs cs le = refl
  rows_prefix (suc n) bs cs le =
      let h = take s bs in let ys = drop s bs in let fits : s ≤ length bs = omega (arith, suc-mul n s) in let first : length h ≡ s = length-take-le s bs fits in
      ap (λ l. rows s (suc n) (l ++ cs)) (sym (take-append-drop s bs)) ∙ ap (rows s (suc n)) (append_assoc h ys cs) ∙ rows_cons n h (ys ++ cs) first
      ∙ ap (λ t. h ∷ t) (rows_prefix n ys cs (omega (arith, suc-mul n s, length-drop s bs)))

  rows_take : (m n : ℕ) (bs : List ℕ) → m ≤ n → rows s m bs ≡ take m (rows s n bs)
  rows_take zero n bs le = refl
  rows_take (suc m) zero bs le = absurd (omega arith)
  rows_take (suc m) (suc n) bs le = ap (λ t. take s bs ∷ t) (rows_take m n (drop s bs) (omega arith))

  rows_zeros : (n : ℕ) → rows s n (replicate (n * s) 0) ≡ replicate n (replicate s 0)
  rows_zeros zero = refl
  rows_zeros (suc n) =
      let e : suc n * s ≡ s + n * s = omega (arith, suc-mul n s) in
      ap (λ k. rows s (suc n) (replicate k 0)) e ∙ ap (rows s (suc n)) (sym (replicate-append-replicate s (n * s) 0)) ∙ rows_cons n (replicate s 0) (replicate (n * s) 0) (length-replicate s 0)
      ∙ ap (λ t. replicate s 0 ∷ t) (rows_zeros n)

  pub rows_append : (m n : ℕ) (xs ys : List ℕ) → length xs ≡ m * s → rows s (m + n) (xs ++ ys) ≡ rows s m xs ++ rows s n ys
  rows_append zero n xs ys e =
      let none : length xs ≡ 0 = e ∙ zero-mul s in let all : 0 + n ≡ n = omega arith in
      ap (λ k. rows s k (xs ++ ys)) all ∙ ap (λ l. rows s n (l ++ ys)) (nil_of xs none)
  rows_append (suc m) n xs ys e =
      let h = take s xs in let zs = drop s xs in let fits : s ≤ length xs = omega (arith, suc-mul m s) in let first : length h ≡ s = length-take-le s xs fits in
      let next : suc m + n ≡ suc (m + n) = omega arith in let rest : length zs ≡ m * s = omega (arith, suc-mul m s, length-drop s xs) in
      ap₂ (λ k l. rows s k (l ++ ys)) next (sym (take-append-drop s xs)) ∙ ap (rows s (suc (m + n))) (append_assoc h zs ys) ∙ rows_cons (m + n) h (zs ++ ys) first
      ∙ ap (λ t. h ∷ t) (rows_append m n zs ys rest)

-- ---- places
sum_cons : (s : ℕ) (ss : List ℕ) → sum (s ∷ ss) ≡ s + sum ss
sum_cons s ss = sum_by-cons (λ x. x) s ss

pub all_cons : (c s : ℕ) (ss : List ℕ) → c * sum (s ∷ ss) ≡ c * s + c * sum ss
all_cons c s ss = ap (λ n. c * n) (sum_cons s ss) ∙ mul-add c s (sum ss)

pub place_is : (c : ℕ) (ss : List ℕ) (k i : ℕ) → k < length ss → place_of c ss k i ≡ c * sum (take k ss) + i * get_or ss k 0
place_is c [] k i lt = absurd (omega arith)
place_is c (s ∷ ss) zero i lt = omega (arith, mul-zero c)
place_is c (s ∷ ss) (suc k) i lt =
    let rest = place_is c ss k i (omega arith) in
    omega (arith, rest, all_cons c s (take k ss))

pub place_within : (c : ℕ) (ss : List ℕ) (k i : ℕ) → k < length ss → i ≤ c → place_of c ss k i ≤ c * sum ss
place_within c [] k i lt le = absurd (omega arith)
place_within c (s ∷ ss) zero i lt le = omega (arith, all_cons c s ss, mul-le-mul_right s le)
place_within c (s ∷ ss) (suc k) i lt le = omega (arith, all_cons c s ss, place_within c ss k i (omega arith) le)

pub place_next : (c : ℕ) (ss : List ℕ) (k i j : ℕ) → k < length ss → place_of c ss k (i + j) ≡ place_of c ss k i + j * get_or ss k 0
place_next c [] k i j lt = absurd (omega arith)
place_next c (s ∷ ss) zero i j lt = add-mul i j s
place_next c (s ∷ ss) (suc k) i j lt = omega (arith, place_next c ss k i j (omega arith))

pub place_inside : (c : ℕ) (ss : List ℕ) (k i : ℕ) → k < length ss → i < c → place_of c ss k i + get_or ss k 0 ≤ c * sum ss
place_inside c ss k i lt below =
    let one : 1 * get_or ss k 0 ≡ get_or ss k 0 = omega arith in
    omega (arith, place_next c ss k i 1 lt, place_within c ss k (i + 1) lt (omega arith))

-- ---- all columns
pub length_columns : (c : ℕ) (ss bs : List ℕ) → length (columns_in c ss bs) ≡ length ss
length_columns c [] bs = refl
length_columns c (s ∷ ss) bs = ap suc (length_columns c ss (drop (c * s) bs))

pub sizes_of_columns : (c : ℕ) (ss bs : List ℕ) → map (λ v. v.size) (columns_in c ss bs) ≡ ss
sizes_of_columns c [] bs = refl
sizes_of_columns c (s ∷ ss) bs = ap (λ l. s ∷ l) (sizes_of_columns c ss (drop (c * s) bs))

pub size_at : (c : ℕ) (ss bs : List ℕ) (k : ℕ) (d : Values) → k < length ss → (get_or (columns_in c ss bs) k d).size ≡ get_or ss k 0
size_at c [] bs k d lt = absurd (omega arith)
size_at c (s ∷ ss) bs zero d lt = refl
size_at c (s ∷ ss) bs (suc k) d lt = size_at c ss (drop (c * s) bs) k d (omega arith)

pub length_at : (c : ℕ) (ss bs : List ℕ) (k : ℕ) (d : Values) → k < length ss → length (get_or (columns_in c ss bs) k d).items ≡ c
length_at c [] bs k d lt = absurd (omega arith)
length_at c (s ∷ ss) bs zero d lt = length_rows s c bs
length_at c (s ∷ ss) bs (suc k) d lt = length_at c ss (drop (c * s) bs) k d (omega arith)

pub columns_get : (c : ℕ) (ss bs : List ℕ) (k i : ℕ) (d : Values) (e : List ℕ) → k < length ss → i < c → get_or (get_or (columns_in c ss bs) k d).items i e ≡ take (get_or ss k 0) (drop (place_of c ss k i) bs)
columns_get c [] bs k i d e lt below = absurd (omega arith)
columns_get c (s ∷ ss) bs zero i d e lt below = rows_get s c bs i e below
columns_get c (s ∷ ss) bs (suc k) i d e lt below =
    let p = place_of c ss k i in let both : c * s + p ≡ c * s + p = refl in
    columns_get c ss (drop (c * s) bs) k i d e (omega arith) below ∙ ap (take (get_or ss k 0)) (drop-drop p (c * s) bs)

pub columns_write : (c : ℕ) (ss bs : List ℕ) (k i : ℕ) (ws : List ℕ) (d : Values) → k < length ss → i < c → length bs ≡ c * sum ss → length ws ≡ get_or ss k 0
    → columns_in c ss (over (place_of c ss k i) (get_or ss k 0) bs ws) ≡ set (columns_in c ss bs) k (with_item (get_or (columns_in c ss bs) k d) i ws)
columns_write c [] bs k i ws d lt below all e = absurd (omega arith)
columns_write c (s ∷ ss) bs zero i ws d lt below all e =
    let here : c * s ≤ length bs = omega (arith, all_cons c s ss) in
    let up : suc i * s ≤ c * s = mul-le-mul_right s (omega arith) in let upto : i * s + s ≤ c * s = omega (arith, suc-mul i s) in
    ap₂ (λ xs ys. record { size = s; items = xs } ∷ columns_in c ss ys) (rows_write s c bs i ws below e here) (drop_over (c * s) (i * s) s bs ws e upto here)
  where
    drop_over : (q k s : ℕ) (bs ws : List ℕ) → length ws ≡ s → k + s ≤ q → q ≤ length bs → drop q (over k s bs ws) ≡ drop q bs
    drop_over q k s bs ws e le fits =
        let t = take k bs ++ ws in let d = drop (k + s) bs in let j : ℕ = q - (k + s) in
        let long : length t ≡ k + s = omega (arith, length-append (take k bs) ws, length-take-le k bs (omega arith)) in
        let at : q ≡ length t + j = omega arith in let there : k + s + j ≡ q = omega arith in
        ap (λ i. drop i (t ++ d)) at ∙ drop-append-add t d j ∙ drop-drop j (k + s) bs ∙ ap (λ i. drop i bs) there
columns_write c (s ∷ ss) bs (suc k) i ws d lt below all e =
    let q = c * s in let p = place_of c ss k i in let t = get_or ss k 0 in let ys = drop q bs in
    let here : q ≤ length bs = omega (arith, all_cons c s ss) in let first : length (take q bs) ≡ q = length-take-le q bs here in
    let rest : length ys ≡ c * sum ss = omega (arith, all_cons c s ss, length-drop q bs) in
    let new : over (q + p) t bs ws ≡ take q bs ++ over p t ys ws = over_past q p t bs ws here in
    let fits : c * s ≤ length (take q bs) = omega arith in
    let head : rows s c (over (q + p) t bs ws) ≡ rows s c bs =
    ap (rows s c) new ∙ rows_prefix s c (take q bs) (over p t ys ws) fits ∙ sym (rows_prefix s c (take q bs) ys fits) ∙ ap (rows s c) (take-append-drop q bs) in
    let tail : drop q (over (q + p) t bs ws) ≡ over p t ys ws = ap (drop q) new ∙ drop_seam q (take q bs) (over p t ys ws) first in
    ap₂ (λ xs zs. record { size = s; items = xs } ∷ columns_in c ss zs) head tail
    ∙ ap (λ l. record { size = s; items = rows s c bs } ∷ l) (columns_write c ss ys k i ws d (omega arith) below rest e)

-- a gap that is filled, with zeros at the last place
pub columns_filled : (c : ℕ) (ss bs : List ℕ) (k row last : ℕ) (d : Values) → k < length ss → row ≤ last → last < c → length bs ≡ c * sum ss
    → (let t = get_or ss k 0 in let p = place_of c ss k last in columns_in c ss (over p t (over (place_of c ss k row) t bs (take t (drop p bs))) (replicate t 0)) ≡ set (columns_in c ss bs) k (gap_filled row last (get_or (columns_in c ss bs) k d)))
columns_filled c ss bs k row last d lt le below all =
    let t = get_or ss k 0 in let p = place_of c ss k last in let q = place_of c ss k row in let w = take t (drop p bs) in let b = over q t bs w in let zs : List ℕ = replicate t 0 in
    let cols = columns_in c ss bs in let v = get_or cols k d in let v1 = with_item v row w in
    let inside : p + t ≤ c * sum ss = place_inside c ss k last lt below in let inside2 : q + t ≤ c * sum ss = place_inside c ss k row lt (omega arith) in
    let width : length w ≡ t = length-take-le t (drop p bs) (omega (arith, length-drop p bs)) in
    let long : length b ≡ c * sum ss = length_over q t bs w width (omega arith) ∙ all in
    let there : k < length cols = subst (λ n. k < n) (sym (length_columns c ss bs)) lt in
    let first : columns_in c ss b ≡ set cols k v1 = columns_write c ss bs k row w d lt (omega arith) all width in
    let read : get_or (columns_in c ss b) k d ≡ v1 = ap (λ l. get_or l k d) first ∙ get_or-set_at cols k k v1 d refl there in
    let item : w ≡ get_or v.items last [] = sym (columns_get c ss bs k last d [] lt below) in
    let size : t ≡ v.size = sym (size_at c ss bs k d lt) in
    columns_write c ss b k last zs d lt below long (length-replicate t 0) ∙ ap₂ (λ l x. set l k (with_item x last zs)) first read
    ∙ set-set cols k v1 (with_item v1 last zs)
    ∙ ap₂ (λ x n. set cols k (record { size = v.size; items = set (set v.items row x) last (replicate n 0) })) item size

pub place_order : (c : ℕ) (ss : List ℕ) (k i j : ℕ) → k < length ss → i ≤ j → place_of c ss k i ≤ place_of c ss k j
place_order c ss k i j lt le =
    let n : ℕ = j - i in let both : i + n ≡ j = omega arith in let e : place_of c ss k j ≡ place_of c ss k i + n * get_or ss k 0 = ap (place_of c ss k) (sym both) ∙ place_next c ss k i n lt in
    omega arith

pub place_apart : (c : ℕ) (ss : List ℕ) (k i j : ℕ) → k < length ss → i ≤ j → place_of c ss k i < place_of c ss k j → place_of c ss k i + get_or ss k 0 ≤ place_of c ss k j
place_apart c ss k i j lt le below = elim (cases_lt i j) [
  | inl a ↦ let one : 1 * get_or ss k 0 ≡ get_or ss k 0 = omega arith in omega (arith, place_next c ss k i 1 lt, place_order c ss k (i + 1) j lt (omega arith))
  | inr b ↦ let same : j ≡ i = omega arith in let e : place_of c ss k j ≡ place_of c ss k i = ap (place_of c ss k) same in absurd (omega arith)
]

-- ---- another number of places
abbrev pub resized_in : ℕ → ℕ → Values → Values
resized_in n d v = record v { items = take n v.items ++ replicate (d - n) (replicate v.size 0) }

-- the bytes of one column after a growth
module _ (n c d s : ℕ) (le : n ≤ c) (ge : n ≤ d) (bs : List ℕ) (fits : c * s ≤ length bs) where
  kept_fits : n * s ≤ length bs
  kept_fits = omega (arith, mul-le-mul_right s le)

  pub length_column : length (take (n * s) bs ++ replicate ((d - n) * s) 0) ≡ d * s
  length_column =
      let none : ℕ = 0 in let r : ℕ = d - n in let both : n + r ≡ d = omega arith in
      let all : n * s + r * s ≡ d * s = sym (add-mul n r s) ∙ ap (λ k. k * s) both in
      omega (arith, length-append (take (n * s) bs) (replicate (r * s) none), length-take-le (n * s) bs kept_fits, length-replicate (r * s) none)

  column_resized : rows s d (take (n * s) bs ++ replicate ((d - n) * s) 0) ≡ take n (rows s c bs) ++ replicate (d - n) (replicate s 0)
  column_resized =
      let r : ℕ = d - n in let both : d ≡ n + r = omega arith in let xs = take (n * s) bs in let long : length xs ≡ n * s = length-take-le (n * s) bs kept_fits in
      let enough : n * s ≤ length xs = omega arith in
      ap (λ k. rows s k (xs ++ replicate (r * s) 0)) both ∙ rows_append s n r xs (replicate (r * s) 0) long
      ∙ ap₂ (λ a b. a ++ b) (sym (rows_prefix s n xs (drop (n * s) bs) enough) ∙ ap (rows s n) (take-append-drop (n * s) bs) ∙ rows_take s n c bs le) (rows_zeros s r)

pub columns_resized : (n c d : ℕ) → n ≤ c → n ≤ d → (ss bs : List ℕ) → length bs ≡ c * sum ss → columns_in d ss (resized n c d ss bs) ≡ map (resized_in n d) (columns_in c ss bs)
columns_resized n c d le ge [] bs all = refl
columns_resized n c d le ge (s ∷ ss) bs all =
    let x = take (n * s) bs ++ replicate ((d - n) * s) 0 in let ys = drop (c * s) bs in let y = resized n c d ss ys in
    let fits : c * s ≤ length bs = omega (arith, all_cons c s ss) in let long : length x ≡ d * s = length_column n c d s le ge bs fits in
    let enough : d * s ≤ length x = omega arith in let rest : length ys ≡ c * sum ss = omega (arith, all_cons c s ss, length-drop (c * s) bs) in
    ap₂ (λ a b. record { size = s; items = a } ∷ columns_in d ss b) (rows_prefix s d x y enough ∙ column_resized n c d s le ge bs fits) (drop_seam (d * s) x y long)
    ∙ ap (λ l. resized_in n d (record { size = s; items = rows s c bs }) ∷ l) (columns_resized n c d le ge ss ys rest)

pub length_resized : (n c d : ℕ) → n ≤ c → n ≤ d → (ss bs : List ℕ) → c * sum ss ≤ length bs → length (resized n c d ss bs) ≡ d * sum ss
length_resized n c d le ge [] bs all = sym (mul-zero d)
length_resized n c d le ge (s ∷ ss) bs all =
    let x = take (n * s) bs ++ replicate ((d - n) * s) 0 in let ys = drop (c * s) bs in
    let fits : c * s ≤ length bs = omega (arith, all_cons c s ss) in let rest : c * sum ss ≤ length ys = omega (arith, all_cons c s ss, length-drop (c * s) bs) in
    omega (arith, length-append x (resized n c d ss ys), length_column n c d s le ge bs fits, length_resized n c d le ge ss ys rest, all_cons d s ss)

-- one more column
pub resized_more : (n c d : ℕ) (ss bs : List ℕ) (k : ℕ) → k < length ss
    → resized n c d (take (k + 1) ss) bs ≡ resized n c d (take k ss) bs ++ (take (n * get_or ss k 0) (drop (place_of c ss k 0) bs) ++ replicate ((d - n) * get_or ss k 0) 0)
resized_more n c d [] bs k lt = absurd (omega arith)
resized_more n c d (s ∷ ss) bs zero lt = let none : 0 ≡ 0 * s = sym (zero-mul s) in
    append-nil (take (n * s) bs ++ replicate ((d - n) * s) 0) ∙ ap (λ j. take (n * s) (drop j bs) ++ replicate ((d - n) * s) 0) none
resized_more n c d (s ∷ ss) bs (suc k) lt =
    let x = take (n * s) bs ++ replicate ((d - n) * s) 0 in let ys = drop (c * s) bs in let t = get_or ss k 0 in let p = place_of c ss k 0 in
    let next : suc k + 1 ≡ suc (k + 1) = omega arith in
    ap (λ j. resized n c d (take j (s ∷ ss)) bs) next ∙ ap (λ l. x ++ l) (resized_more n c d ss ys k (omega arith))
    ∙ sym (append_assoc x (resized n c d (take k ss) ys) (take (n * t) (drop p ys) ++ replicate ((d - n) * t) 0))
    ∙ ap (λ l. x ++ resized n c d (take k ss) ys ++ (take (n * t) l ++ replicate ((d - n) * t) 0)) (drop-drop p (c * s) bs)

-- where the next column begins, and that it fits
pub filled_upto : (n c d : ℕ) → n ≤ c → n ≤ d → (ss bs : List ℕ) → length bs ≡ c * sum ss → (k : ℕ) → k < length ss → length (resized n c d (take k ss) bs) ≡ place_of d ss k 0
filled_upto n c d le ge ss bs all k lt =
    let none : 0 * get_or ss k 0 ≡ 0 = zero-mul (get_or ss k 0) in
    let front : c * sum (take k ss) ≤ c * sum ss = mul-le-mul_left c (sum_by-take-le (λ n. n) ss k) in
    length_resized n c d le ge (take k ss) bs (omega arith) ∙ omega (arith, place_is d ss k 0 lt)

pub resized_all : (n c d : ℕ) → n ≤ c → n ≤ d → (ss bs : List ℕ) → length bs ≡ c * sum ss → length (resized n c d ss bs) ≡ d * sum ss
resized_all n c d le ge ss bs all = length_resized n c d le ge ss bs (omega arith)

-- without bytes there are no columns
pub no_columns : (c : ℕ) (ss : List ℕ) → 0 < c → ((k : ℕ) → k < length ss → 0 < slice_index ss k) → c * sum ss ≡ 0 → ss ≡ []
no_columns c [] some sized e = refl
no_columns c (s ∷ ss) some sized e =
    let positive : 0 < s = sized 0 (omega arith) in let one : 1 * s ≤ c * s = mul-le-mul_right s some in let same : 1 * s ≡ s = omega arith in
    absurd (omega (arith, all_cons c s ss))

-- bytes that were lent as a whole
pub lent_whole : (n : ℕ) (bs new : List ℕ) → length bs ≡ n → length new ≡ n → take n (new ++ drop (length new) (take n bs)) ++ drop (0 + n) bs ≡ new
lent_whole n bs new e f =
    let past : length bs ≤ 0 + n = omega arith in
    ap₂ (λ a b. a ++ b) (take_seam n new (drop (length new) (take n bs)) f) (drop_all (0 + n) bs past) ∙ append-nil new

pub read_whole : (n : ℕ) (bs : List ℕ) → length bs ≡ n → take n (drop 0 bs) ≡ bs
read_whole n bs e = take_all n bs (omega arith)
