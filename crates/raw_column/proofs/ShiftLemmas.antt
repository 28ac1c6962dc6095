-- Bytes that are moved within a block, in runs that don't overlap, and columns that are moved apart or together.
use Rattle.std.proofs.Common.{◌≡◌, ℕ, zero, suc, ◌+◌, ◌-◌, ◌*◌, ◌≤◌, ◌<◌, List, [], ◌∷◌, ◌++◌, take, drop, take-append-drop, length, length-append, length-take-le, length-drop, replicate, refl, sym, ap, ap₂, ◌∙◌, arith}
use Rattle.std.proofs.lemmas.List.{append_assoc, append-nil, drop-append-le, drop-take, drop_all, drop_more, length-replicate, take-append-le, take_all}
use Rattle.std.proofs.Math.Seq.{drop-append-add, take-add}
use Rattle.std.specs.List.{sum}
use native.Mathlib.Nat.{mul-zero, zero-mul, add-mul, mul-le-mul_right}
use lib.ListN.{get_or}
use lib.Seq.{drop-drop}
use Rattle.raw_column.specs.Places.{column_resized, over, padded, place_of, resized}
use Rattle.raw_column.proofs.PlaceLemmas.{all_cons, drop_seam, filled_upto, length_column, length_resized, resized_more, take_seam, nil_of}

-- ---- what a write leaves
module _ (k s : ℕ) (bs ws : List ℕ) (e : length ws ≡ s) (le : k + s ≤ length bs) where
  front : length (take k bs ++ ws) ≡ k + s
  front = omega (arith, length-append (take k bs) ws, length-take-le k bs (omega arith))

  -- the bytes before it, and those up to its end
  take_over : take k (over k s bs ws) ≡ take k bs
  take_over =
      let long : length (take k bs) ≡ k = length-take-le k bs (omega arith) in
      ap (take k) (append_assoc (take k bs) ws (drop (k + s) bs)) ∙ take_seam k (take k bs) (ws ++ drop (k + s) bs) long

  take_with : take (k + s) (over k s bs ws) ≡ take k bs ++ ws
  take_with = take_seam (k + s) (take k bs ++ ws) (drop (k + s) bs) front

  -- the bytes from it on, and those after it
  drop_over : drop k (over k s bs ws) ≡ ws ++ drop (k + s) bs
  drop_over =
      let long : length (take k bs) ≡ k = length-take-le k bs (omega arith) in
      ap (drop k) (append_assoc (take k bs) ws (drop (k + s) bs)) ∙ drop_seam k (take k bs) (ws ++ drop (k + s) bs) long

  pub drop_past : (i : ℕ) → k + s ≤ i → drop i (over k s bs ws) ≡ drop i bs
  drop_past i past =
      let j : ℕ = i - (k + s) in let t = take k bs ++ ws in let at : i ≡ length t + j = omega (arith, front) in let there : k + s + j ≡ i = omega arith in
      ap (λ m. drop m (over k s bs ws)) at ∙ drop-append-add t (drop (k + s) bs) j ∙ drop-drop j (k + s) bs ∙ ap (λ m. drop m bs) there

-- bytes that are read before the place of a change
pub read_before : (i n k : ℕ) (bs cs : List ℕ) → i + n ≤ k → take k bs ≡ take k cs → take n (drop i bs) ≡ take n (drop i cs)
read_before i n k bs cs le same =
    let j : ℕ = k - (i + n) in let all : i + n + j ≡ k = omega arith in
    let short : take (i + n) bs ≡ take (i + n) cs = sym (cut (i + n) k bs le) ∙ ap (take (i + n)) same ∙ cut (i + n) k cs le in
    sym (drop-take i n bs) ∙ ap (drop i) short ∙ drop-take i n cs
  where
    cut : (a b : ℕ) (xs : List ℕ) → a ≤ b → take a (take b xs) ≡ take a xs
    cut zero b xs le = refl
    cut (suc a) zero xs le = absurd (omega arith)
    cut (suc a) (suc b) [] le = refl
    cut (suc a) (suc b) (x ∷ xs) le = ap (λ l. x ∷ l) (cut a b xs (omega arith))

-- ---- two writes side by side are one
pub over_before : (k s t : ℕ) (bs ws xs : List ℕ) → length ws ≡ s → length xs ≡ t → k + s + t ≤ length bs → over k s (over (k + s) t bs xs) ws ≡ over k (s + t) bs (ws ++ xs)
over_before k s t bs ws xs e f le =
    let b = over (k + s) t bs xs in let end : k + s + t ≡ k + (s + t) = omega arith in
    let first : take k b ≡ take k bs = shorter k s b bs (take_over (k + s) t bs xs f le) in
    ap₂ (λ p q. p ++ ws ++ q) first (drop_over (k + s) t bs xs f le) ∙ sym (append_assoc (take k bs ++ ws) xs (drop (k + s + t) bs))
    ∙ ap₂ (λ p i. p ++ drop i bs) (append_assoc (take k bs) ws xs) end
  where
    shorter : (k s : ℕ) (ys cs : List ℕ) → take (k + s) ys ≡ take (k + s) cs → take k ys ≡ take k cs
    shorter k s ys cs same = let le : 0 + k ≤ k + s = omega arith in read_before 0 k (k + s) ys cs le same

pub over_after : (k s t : ℕ) (bs ws xs : List ℕ) → length ws ≡ s → length xs ≡ t → k + s + t ≤ length bs → over (k + s) t (over k s bs ws) xs ≡ over k (s + t) bs (ws ++ xs)
over_after k s t bs ws xs e f le =
    let fits : k + s ≤ length bs = omega arith in let more : k + s ≤ k + s + t = omega arith in let end : k + s + t ≡ k + (s + t) = omega arith in
    ap₂ (λ p q. p ++ xs ++ q) (take_with k s bs ws e fits) (drop_past k s bs ws e fits (k + s + t) more) ∙ ap₂ (λ p i. p ++ drop i bs) (append_assoc (take k bs) ws xs) end

-- ---- bytes in runs
-- on the way up: all but the first l of n bytes are moved, and then the run before them
pub shifted_up : (to from n l r : ℕ) (bs : List ℕ) → from ≤ to → r ≤ l → l ≤ n → from + l ≤ to + (l - r) → to + n ≤ length bs
    → (let m : ℕ = l - r in let b = over (to + l) (n - l) bs (take (n - l) (drop (from + l) bs)) in over (to + m) r b (take r (drop (from + m) b)) ≡ over (to + m) (n - m) bs (take (n - m) (drop (from + m) bs)))
shifted_up to from n l r bs up some le apart fits =
    let m : ℕ = l - r in let t : ℕ = n - l in let w = take t (drop (from + l) bs) in let b = over (to + l) t bs w in let v = take r (drop (from + m) bs) in
    let start : to + m + r ≡ to + l = omega arith in let read : from + m + r ≡ from + l = omega arith in let whole : r + t ≡ n - m = omega arith in
    let width : length w ≡ t = length-take-le t (drop (from + l) bs) (omega (arith, length-drop (from + l) bs)) in
    let width2 : length v ≡ r = length-take-le r (drop (from + m) bs) (omega (arith, length-drop (from + m) bs)) in
    let seen : take r (drop (from + m) b) ≡ v = read_before (from + m) r (to + l) b bs (omega arith) (take_over (to + l) t bs w width (omega arith)) in
    let both : v ++ w ≡ take (r + t) (drop (from + m) bs) = ap (λ l. v ++ take t l) (sym (drop-drop r (from + m) bs ∙ ap (λ i. drop i bs) read)) ∙ sym (take-add r t (drop (from + m) bs)) in
    ap₂ (λ i x. over (to + m) r (over i t bs w) x) (sym start) seen ∙ over_before (to + m) r t bs v w width2 width (omega arith)
    ∙ ap (over (to + m) (r + t) bs) both ∙ ap (λ j. over (to + m) j bs (take j (drop (from + m) bs))) whole

-- on the way down: the first d bytes are moved, and then the run after them
pub shifted_down : (to from d r : ℕ) (bs : List ℕ) → to ≤ from → from + d + r ≤ length bs
    → (let b = over to d bs (take d (drop from bs)) in over (to + d) r b (take r (drop (from + d) b)) ≡ over to (d + r) bs (take (d + r) (drop from bs)))
shifted_down to from d r bs down fits =
    let w = take d (drop from bs) in let b = over to d bs w in let v = take r (drop (from + d) bs) in
    let width : length w ≡ d = length-take-le d (drop from bs) (omega (arith, length-drop from bs)) in
    let width2 : length v ≡ r = length-take-le r (drop (from + d) bs) (omega (arith, length-drop (from + d) bs)) in
    let seen : take r (drop (from + d) b) ≡ v = ap (take r) (drop_past to d bs w width (omega arith) (from + d) (omega arith)) in
    let both : w ++ v ≡ take (d + r) (drop from bs) = ap (λ l. w ++ take r l) (sym (drop-drop d from bs)) ∙ sym (take-add d r (drop from bs)) in
    ap (over (to + d) r b) seen ∙ over_after to d r bs w v width width2 (omega arith) ∙ ap (over to (d + r) bs) both

-- ---- places
place_first : (c : ℕ) (ss : List ℕ) → place_of c ss 0 0 ≡ 0
place_first c [] = refl
place_first c (s ∷ ss) = zero-mul s

pub place_step : (c : ℕ) (ss : List ℕ) (k : ℕ) → k < length ss → place_of c ss (k + 1) 0 ≡ place_of c ss k 0 + c * get_or ss k 0
place_step c [] k lt = absurd (omega arith)
place_step c (s ∷ ss) zero lt = omega (arith, place_first c ss, zero-mul s)
place_step c (s ∷ ss) (suc k) lt = let next : suc k + 1 ≡ suc (k + 1) = omega arith in ap (λ j. place_of c (s ∷ ss) j 0) next ∙ omega (arith, place_step c ss k (omega arith))

place_all : (c : ℕ) (ss : List ℕ) → place_of c ss (length ss) 0 ≡ c * sum ss
place_all c [] = sym (mul-zero c)
place_all c (s ∷ ss) = omega (arith, place_all c ss, all_cons c s ss)

pub place_more : (c d : ℕ) (ss : List ℕ) (k : ℕ) → c ≤ d → place_of c ss k 0 ≤ place_of d ss k 0
place_more c d [] k le = omega arith
place_more c d (s ∷ ss) zero le = omega arith
place_more c d (s ∷ ss) (suc k) le = omega (arith, place_more c d ss k le, mul-le-mul_right s le)

pub place_end : (c : ℕ) (ss : List ℕ) (k : ℕ) → k < length ss → place_of c ss k 0 + c * get_or ss k 0 ≤ c * sum ss
place_end c [] k lt = absurd (omega arith)
place_end c (s ∷ ss) zero lt = omega (arith, all_cons c s ss, zero-mul s)
place_end c (s ∷ ss) (suc k) lt = omega (arith, place_end c ss k (omega arith), all_cons c s ss)

-- ---- columns that are moved apart, from the last to the first
abbrev pub spread_from : ℕ → ℕ → ℕ → List ℕ → ℕ → List ℕ → List ℕ
spread_from n c d ss k bs = take (place_of d ss k 0) bs ++ resized n c d (drop k ss) (drop (place_of c ss k 0) bs)

pub spread_start : (n c d : ℕ) (ss bs : List ℕ) → length bs ≡ d * sum ss → spread_from n c d ss (length ss) bs ≡ bs
spread_start n c d ss bs all =
    let past : length ss ≤ length ss = omega arith in let long : length bs ≤ place_of d ss (length ss) 0 = omega (arith, place_all d ss) in
    ap₂ (λ a l. a ++ resized n c d l (drop (place_of c ss (length ss) 0) bs)) (take_all (place_of d ss (length ss) 0) bs long) (drop_all (length ss) ss past) ∙ append-nil bs

pub spread_end : (n c d : ℕ) (ss bs : List ℕ) → spread_from n c d ss 0 bs ≡ resized n c d ss bs
spread_end n c d ss bs = ap₂ (λ i j. take i bs ++ resized n c d ss (drop j bs)) (place_first d ss) (place_first c ss)

pub spread_step : (n c d : ℕ) (ss : List ℕ) (k : ℕ) (bs : List ℕ) → n ≤ c → c ≤ d → k < length ss → length bs ≡ d * sum ss
    → (let b = spread_from n c d ss (k + 1) bs in let s = get_or ss k 0 in over (place_of d ss k 0) (d * s) b (column_resized n d s (drop (place_of c ss k 0) b)) ≡ spread_from n c d ss k bs)
spread_step n c d ss k bs le ge lt all =
    let s = get_or ss k 0 in let p = place_of d ss k 0 in let q = place_of d ss (k + 1) 0 in let i = place_of c ss k 0 in let j = place_of c ss (k + 1) 0 in
    let rest = resized n c d (drop (k + 1) ss) (drop j bs) in let b = take q bs ++ rest in let zs : List ℕ = replicate ((d - n) * s) 0 in
    let next : q ≡ p + d * s = place_step d ss k lt in let next2 : j ≡ i + c * s = place_step c ss k lt in
    let fits : p + d * s ≤ d * sum ss = place_end d ss k lt in let long : length (take q bs) ≡ q = length-take-le q bs (omega arith) in
    let few : n * s ≤ c * s = mul-le-mul_right s le in let more : c * s ≤ d * s = mul-le-mul_right s ge in let below : i ≤ p = place_more c d ss k ge in
    let front : take q b ≡ take q bs = take_seam q (take q bs) rest long in
    let seen : take (n * s) (drop i b) ≡ take (n * s) (drop i bs) = read_before i (n * s) q b bs (omega arith) front in
    let head : take p b ≡ take p bs = (let before : 0 + p ≤ q = omega arith in read_before 0 p q b bs before front) in
    let tail : drop (p + d * s) b ≡ rest = ap (λ m. drop m b) (sym next) ∙ drop_seam q (take q bs) rest long in
    let column : column_resized n d s (drop i b) ≡ column_resized n d s (drop i bs) = ap (λ l. l ++ zs) seen in
    let after : drop j bs ≡ drop (c * s) (drop i bs) = ap (λ m. drop m bs) next2 ∙ sym (drop-drop (c * s) i bs) in
    ap₂ (λ x y. x ++ column_resized n d s (drop i b) ++ y) head tail ∙ ap (λ x. take p bs ++ x ++ rest) column
    ∙ append_assoc (take p bs) (column_resized n d s (drop i bs)) rest
    ∙ ap (λ l. take p bs ++ (column_resized n d s (drop i bs) ++ resized n c d (drop (k + 1) ss) l)) after
    ∙ ap (λ l. take p bs ++ resized n c d l (drop i bs)) (sym (drop_more ss k 0 lt))

-- ---- columns that are moved together, from the first to the last
abbrev pub gathered_upto : ℕ → ℕ → ℕ → List ℕ → ℕ → List ℕ → List ℕ
gathered_upto n c d ss k bs = resized n c d (take k ss) bs ++ drop (place_of d ss k 0) bs

pub gathered_start : (n c d : ℕ) (ss bs : List ℕ) → gathered_upto n c d ss 0 bs ≡ bs
gathered_start n c d ss bs = ap (λ i. drop i bs) (place_first d ss)

pub gathered_end : (n c d : ℕ) (ss bs : List ℕ) (k : ℕ) → length ss ≤ k → k ≤ length ss → gathered_upto n c d ss k bs ≡ resized n c d ss bs ++ drop (d * sum ss) bs
gathered_end n c d ss bs k past le =
    let same : k ≡ length ss = omega arith in
    ap₂ (λ l i. resized n c d l bs ++ drop i bs) (take_all k ss past) (ap (λ j. place_of d ss j 0) same ∙ place_all d ss)

pub gathered_step : (n c d : ℕ) (ss : List ℕ) (k : ℕ) (bs : List ℕ) → n ≤ d → d ≤ c → k < length ss → length bs ≡ c * sum ss
    → (let b = gathered_upto n c d ss k bs in let s = get_or ss k 0 in over (place_of d ss k 0) (d * s) b (column_resized n d s (drop (place_of c ss k 0) b)) ≡ gathered_upto n c d ss (k + 1) bs)
gathered_step n c d ss k bs le ge lt all =
    let s = get_or ss k 0 in let p = place_of d ss k 0 in let q = place_of d ss (k + 1) 0 in let i = place_of c ss k 0 in
    let done = resized n c d (take k ss) bs in let b = done ++ drop p bs in
    let next : q ≡ p + d * s = place_step d ss k lt in let most : n ≤ c = omega arith in
    let long : length done ≡ p = filled_upto n c d most le ss bs all k lt in let below : p ≤ i = place_more d c ss k ge in
    let r : ℕ = i - p in let there : i ≡ length done + r = omega arith in let back : p + r ≡ i = omega arith in
    let seen : drop i b ≡ drop i bs = ap (λ m. drop m b) there ∙ drop-append-add done (drop p bs) r ∙ drop-drop r p bs ∙ ap (λ m. drop m bs) back in
    let after : p + d * s ≡ length done + d * s = omega arith in
    let tail : drop (p + d * s) b ≡ drop q bs = ap (λ m. drop m b) after ∙ drop-append-add done (drop p bs) (d * s) ∙ drop-drop (d * s) p bs ∙ ap (λ m. drop m bs) (sym next) in
    ap₂ (λ x y. x ++ column_resized n d s (drop i b) ++ y) (take_seam p done (drop p bs) long) tail
    ∙ ap (λ l. done ++ column_resized n d s l ++ drop q bs) seen
    ∙ ap (λ l. l ++ drop q bs) (sym (resized_more n c d ss bs k lt))

-- ---- one column at its new place
pub column_placed : (n c d : ℕ) (ss : List ℕ) (k : ℕ) (bs : List ℕ) → n ≤ c → n ≤ d → k < length ss → c * sum ss ≤ length bs → d * sum ss ≤ length bs
    → (let s = get_or ss k 0 in let p = place_of d ss k 0 in let w = take (n * s) (drop (place_of c ss k 0) bs) in
    over (p + n * s) ((d - n) * s) (over p (n * s) bs w) (replicate ((d - n) * s) 0) ≡ over p (d * s) bs (column_resized n d s (drop (place_of c ss k 0) bs)))
column_placed n c d ss k bs le ge lt has fits =
    let s = get_or ss k 0 in let p = place_of d ss k 0 in let i = place_of c ss k 0 in let w = take (n * s) (drop i bs) in let r : ℕ = d - n in let zs : List ℕ = replicate (r * s) 0 in
    let both : n + r ≡ d = omega arith in let parts : n * s + r * s ≡ d * s = sym (add-mul n r s) ∙ ap (λ j. j * s) both in let few : n * s ≤ c * s = mul-le-mul_right s le in
    let width : length w ≡ n * s = length-take-le (n * s) (drop i bs) (omega (arith, length-drop i bs, place_end c ss k lt)) in
    over_after p (n * s) (r * s) bs w zs width (length-replicate (r * s) 0) (omega (arith, place_end d ss k lt)) ∙ ap (λ j. over p j bs (w ++ zs)) parts

-- ---- a block of another length
-- the bytes that are padded are resized as they were
pub resized_front : (n c d : ℕ) (ss : List ℕ) (bs cs : List ℕ) → n ≤ c → length bs ≡ c * sum ss → resized n c d ss (bs ++ cs) ≡ resized n c d ss bs
resized_front n c d [] bs cs le all = refl
resized_front n c d (s ∷ ss) bs cs le all =
    let few : n * s ≤ c * s = mul-le-mul_right s le in let fits : c * s ≤ length bs = omega (arith, all_cons c s ss) in let here : n * s ≤ length bs = omega arith in
    let rest : length (drop (c * s) bs) ≡ c * sum ss = omega (arith, all_cons c s ss, length-drop (c * s) bs) in
    ap₂ (λ a b. a ++ replicate ((d - n) * s) 0 ++ resized n c d ss b) (take-append-le (n * s) bs cs here) (drop-append-le (c * s) bs cs fits)
    ∙ ap (λ l. take (n * s) bs ++ replicate ((d - n) * s) 0 ++ l) (resized_front n c d ss (drop (c * s) bs) cs le rest)

-- there and back
pub resized_back : (n c d e : ℕ) (ss : List ℕ) (bs : List ℕ) → n ≤ c → n ≤ d → length bs ≡ c * sum ss → resized n d e ss (resized n c d ss bs) ≡ resized n c e ss bs
resized_back n c d e [] bs le ge all = refl
resized_back n c d e (s ∷ ss) bs le ge all =
    let x = column_resized n d s bs in let ys = drop (c * s) bs in let y = resized n c d ss ys in
    let fits : c * s ≤ length bs = omega (arith, all_cons c s ss) in let long : length x ≡ d * s = length_column n c d s le ge bs fits in
    let few : n * s ≤ c * s = mul-le-mul_right s le in let width : length (take (n * s) bs) ≡ n * s = length-take-le (n * s) bs (omega arith) in
    let rest : length ys ≡ c * sum ss = omega (arith, all_cons c s ss, length-drop (c * s) bs) in
    let first : take (n * s) (x ++ y) ≡ take (n * s) bs = ap (take (n * s)) (append_assoc (take (n * s) bs) (replicate ((d - n) * s) 0) y) ∙ take_seam (n * s) (take (n * s) bs) (replicate ((d - n) * s) 0 ++ y) width in
    ap₂ (λ a b. a ++ replicate ((e - n) * s) 0 ++ resized n d e ss b) first (drop_seam (d * s) x y long)
    ∙ ap (λ l. take (n * s) bs ++ replicate ((e - n) * s) 0 ++ l) (resized_back n c d e ss ys le ge rest)

-- more bytes for the same columns, with zeros at the end
pub resized_padded : (n c d : ℕ) (ss bs : List ℕ) → n ≤ c → c ≤ d → length bs ≡ c * sum ss → resized n c d ss (padded (d * sum ss) (d * sum ss) bs) ≡ resized n c d ss bs
resized_padded n c d ss bs le ge all =
    let m = d * sum ss in let zs : List ℕ = replicate (m - length (take m bs)) 0 in let fits : length bs ≤ m = omega (arith, mul-le-mul_right (sum ss) ge) in
    ap (λ l. resized n c d ss (l ++ zs)) (take_all m bs fits) ∙ resized_front n c d ss bs zs le all

-- fewer bytes for the columns that were moved together
pub gathered_cut : (n c d : ℕ) (ss bs : List ℕ) → n ≤ d → d ≤ c → length bs ≡ c * sum ss → (let m = d * sum ss in padded m m (resized n c d ss bs ++ drop m bs) ≡ resized n c d ss bs)
gathered_cut n c d ss bs le ge all =
    let m = d * sum ss in let rs = resized n c d ss bs in let most : n ≤ c = omega arith in
    let long : length rs ≡ m = length_resized n c d most le ss bs (omega arith) in let front : take m (rs ++ drop m bs) ≡ rs = take_seam m rs (drop m bs) long in
    let none : m - length rs ≡ 0 = omega (arith, long) in
    ap (λ l. l ++ replicate (m - length l) 0) front ∙ ap (λ j. rs ++ replicate j 0) none ∙ append-nil rs

-- and back, where they weren't given back
pub gathered_back : (n c d : ℕ) (ss bs : List ℕ) → n ≤ d → d ≤ c → length bs ≡ c * sum ss
    → (let m = d * sum ss in let b = resized n c d ss bs ++ drop m bs in resized n d c ss (padded m (length b) b) ≡ resized n c c ss bs)
gathered_back n c d ss bs le ge all =
    let m = d * sum ss in let rs = resized n c d ss bs in let b = rs ++ drop m bs in let zs : List ℕ = replicate (length b - length (take m b)) 0 in let most : n ≤ c = omega arith in
    let long : length rs ≡ m = length_resized n c d most le ss bs (omega arith) in
    ap (λ l. resized n d c ss (l ++ zs)) (take_seam m rs (drop m bs) long) ∙ resized_front n d c ss rs zs le long ∙ resized_back n c d c ss bs most le all

pub length_gathered : (n c d : ℕ) (ss bs : List ℕ) → n ≤ d → d ≤ c → length bs ≡ c * sum ss → length (resized n c d ss bs ++ drop (d * sum ss) bs) ≡ c * sum ss
length_gathered n c d ss bs le ge all =
    let m = d * sum ss in let rs = resized n c d ss bs in let most : n ≤ c = omega arith in
    let long : length rs ≡ m = length_resized n c d most le ss bs (omega arith) in
    omega (arith, length-append rs (drop m bs), length-drop m bs, mul-le-mul_right (sum ss) ge)

-- no bytes
pub resized_none : (n c d : ℕ) (ss bs : List ℕ) → n ≤ c → c ≤ d → bs ≡ [] → length bs ≡ d * sum ss → resized n c d ss bs ≡ []
resized_none n c d ss bs le ge none all =
    let few : c * sum ss ≤ d * sum ss = mul-le-mul_right (sum ss) ge in let most : n ≤ d = omega arith in let zero_long : length bs ≡ 0 = ap length none in
    nil_of (resized n c d ss bs) (length_resized n c d le most ss bs (omega arith) ∙ sym all ∙ zero_long)

pub gathered_none : (n c d : ℕ) (ss bs : List ℕ) → n ≤ d → d ≤ c → bs ≡ [] → length bs ≡ c * sum ss → resized n c d ss bs ++ drop (d * sum ss) bs ≡ []
gathered_none n c d ss bs le ge none all = nil_of (resized n c d ss bs ++ drop (d * sum ss) bs) (length_gathered n c d ss bs le ge all ∙ sym all ∙ ap length none)

-- a block that was refused has as many bytes as before
pub length_padded : (m : ℕ) (bs : List ℕ) → length (padded m (length bs) bs) ≡ length bs
length_padded m bs =
    let t = take m bs in let zs : List ℕ = replicate (length bs - length t) 0 in let parts : length t + length (drop m bs) ≡ length bs = sym (length-append t (drop m bs)) ∙ ap length (take-append-drop m bs) in
    omega (arith, length-append t zs, length-replicate (length bs - length t) (let none : ℕ = 0 in none))
