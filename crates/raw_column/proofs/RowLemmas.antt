-- The rows of a block: the first values of each column, and zeros after them.
use Rattle.std.proofs.Common.{◌≡◌, ℕ, zero, suc, ◌+◌, ◌-◌, ◌*◌, ◌≤◌, ◌<◌, List, [], ◌∷◌, ◌++◌, map, max, ◌^◌, take, drop, length, length-take-le, slice_get, slice_index_or, Some, replicate, refl, sym, ap, ap₂, subst, ◌∙◌, arith}
use Rattle.std.proofs.lemmas.List.{drop-set, drop-set-lt, drop_more, get_or-map, get_or-take, length-map, length-set, map-set, take-append-le, take-set, take-take, take_more}
use Rattle.std.proofs.lemmas.List.Elements.{All-map, All-set}
use Rattle.std.proofs.Math.Seq.{drop-append_seam}
use Rattle.std.specs.List.{All, fold, sum}
use Rattle.std.proofs.lemmas.Option.{slice_get-get_or}
use native.Mathlib.Nat.{div-mul-le_self, mul-le-mul_left, mul-le-mul_right}
use lib.ListN.{set, get_or}
use Rattle.raw_column.specs.Contents.{Contents, HasZeros, IsLaidOut, column_at, first_of, most_rows, no_values, with_copied, with_item, with_zero, with_zeros, without_item}
use Rattle.raw_column.specs.Places.{Values, columns_in, gap_filled, place_of, resized}
use Rattle.raw_column.proofs.PlaceLemmas.{columns_get, columns_resized, length_at, length_columns, resized_all, resized_in, size_at, sizes_of_columns}

abbrev pub contents : ℕ → ℕ → List Values → Contents
contents n r cs = record { len = n; room = r; columns = cs }

abbrev pub values : ℕ → List (List ℕ) → Values
values s xs = record { size = s; items = xs }

-- ---- lists
take_set : {X : Type 0} (n : ℕ) (xs : List X) (i : ℕ) (y : X) → take n (set xs i y) ≡ set (take n xs) i y
take_set zero xs i y = refl
take_set (suc n) [] i y = refl
take_set (suc n) (x ∷ xs) zero y = refl
take_set (suc n) (x ∷ xs) (suc i) y = ap (λ l. x ∷ l) (take_set n xs i y)

map_all : {X Y : Type 0} (f g : X → Y) (xs : List X) → ((k : ℕ) (d : X) → k < length xs → f (get_or xs k d) ≡ g (get_or xs k d)) → map f xs ≡ map g xs
map_all f g [] same = refl
map_all f g (x ∷ xs) same = ap₂ (λ a b. a ∷ b) (same 0 x (omega arith)) (map_all f g xs (λ k d lt. same (suc k) d (omega arith)))

pub map_twice : {X Y Z : Type 0} (f : Y → Z) (g : X → Y) (xs : List X) → map f (map g xs) ≡ map (λ x. f (g x)) xs
map_twice f g [] = refl
map_twice f g (x ∷ xs) = ap (λ l. f (g x) ∷ l) (map_twice f g xs)

head_same : {X : Type 0} (x y : X) (xs ys : List X) → x ∷ xs ≡ y ∷ ys → x ≡ y
head_same x y xs ys e = cc

tail_same : {X : Type 0} (x y : X) (xs ys : List X) → x ∷ xs ≡ y ∷ ys → xs ≡ ys
tail_same x y xs ys e = cc

module _ (c n : ℕ) (le : n ≤ c) (ss bs : List ℕ) where
  abbrev cols : List Values
  cols = columns_in c ss bs

  long_at : (k : ℕ) (d : Values) → k < length cols → length (get_or cols k d).items ≡ c
  long_at k d lt = length_at c ss bs k d (subst (λ m. k < m) (length_columns c ss bs) lt)

  module _ (zeros : All (HasZeros c n) cols) where
    -- ---- one more row of zeros
    pushed_at : n < c → (k : ℕ) (d : Values) → k < length cols → (let xs = (get_or cols k d).items in let z : List ℕ = replicate (get_or cols k d).size 0 in (get_or xs n z ≡ z) × (drop (n + 1) xs ≡ replicate (c - (n + 1)) z))
    pushed_at free k d lt =
        let v = get_or cols k d in let xs = v.items in let z : List ℕ = replicate v.size 0 in let m : ℕ = c - (n + 1) in let more : c - n ≡ suc m = omega arith in
        let lt2 : n < length xs = subst (λ j. n < j) (sym (long_at k d lt)) free in
        let both : get_or xs n z ∷ drop (n + 1) xs ≡ z ∷ replicate m z = sym (drop_more xs n z lt2) ∙ zeros k d lt ∙ ap (λ j. replicate j z) more in
        (head_same (get_or xs n z) z (drop (n + 1) xs) (replicate m z) both, tail_same (get_or xs n z) z (drop (n + 1) xs) (replicate m z) both)

    pub rows_pushed : n < c → map (first_of (n + 1)) cols ≡ map with_zero (map (first_of n) cols)
    rows_pushed free = map_all (first_of (n + 1)) (λ v. with_zero (first_of n v)) cols (λ k d lt.
        let v = get_or cols k d in let z : List ℕ = replicate v.size 0 in let lt2 : n < length v.items = subst (λ j. n < j) (sym (long_at k d lt)) free in
        ap (values v.size) (take_more v.items n z lt2 ∙ ap (λ x. take n v.items ++ x ∷ []) (pushed_at free k d lt).0)) ∙ sym (map_twice with_zero (first_of n) cols)

    pub zeros_pushed : n < c → All (HasZeros c (n + 1)) cols
    zeros_pushed free = λ k d lt. (pushed_at free k d lt).1

    -- ---- another value
    pub rows_set : (k row : ℕ) (ws : List ℕ) (d : Values) → k < length cols → map (first_of n) (set cols k (with_item (get_or cols k d) row ws)) ≡ set (map (first_of n) cols) k (with_item (get_or (map (first_of n) cols) k (no_values 0)) row ws)
    rows_set k row ws d lt =
        let v = get_or cols k d in
        map-set (first_of n) cols k (with_item v row ws) ∙ ap (λ l. set (map (first_of n) cols) k (values v.size l)) (take_set n v.items row ws)
        ∙ ap (λ (x : Values). set (map (first_of n) cols) k (with_item x row ws)) (sym (get_or-map (first_of n) cols k d (no_values 0) lt))

    pub zeros_set : (k row : ℕ) (ws : List ℕ) (d : Values) → k < length cols → row < n → All (HasZeros c n) (set cols k (with_item (get_or cols k d) row ws))
    zeros_set k row ws d lt below = All-set (HasZeros c n) cols k (with_item (get_or cols k d) row ws) (drop-set-lt n (get_or cols k d).items row ws below ∙ zeros k d lt) zeros

    -- ---- a row less
    removed_at : (row last : ℕ) → row ≤ last → last + 1 ≡ n → (k : ℕ) (d : Values) → k < length cols → first_of last (gap_filled row last (get_or cols k d)) ≡ without_item row (first_of n (get_or cols k d))
    removed_at row last below one k d lt =
        let v = get_or cols k d in let xs = v.items in let z : List ℕ = replicate v.size 0 in let w = get_or xs last [] in let ys = take n xs in
        let long : length ys ≡ n = length-take-le n xs (omega (arith, long_at k d lt)) in let final : length ys - 1 ≡ last = omega arith in
        let item : w ≡ get_or ys last [] = sym (get_or-take n xs last [] (omega arith)) in
        let less : last ≤ n = omega arith in
        ap (values v.size) (take-set (set xs row w) last z ∙ sym (take-take last n (set xs row w) less) ∙ ap (take last) (take_set n xs row w)
        ∙ ap₂ (λ m x. take m (set ys row x)) (sym final) (item ∙ ap (λ m. get_or ys m []) (sym final)))

    pub rows_removed : (row last : ℕ) → row ≤ last → last + 1 ≡ n → map (first_of last) (map (gap_filled row last) cols) ≡ map (without_item row) (map (first_of n) cols)
    rows_removed row last below one =
        map_twice (first_of last) (gap_filled row last) cols ∙ map_all (λ v. first_of last (gap_filled row last v)) (λ v. without_item row (first_of n v)) cols (removed_at row last below one)
        ∙ sym (map_twice (without_item row) (first_of n) cols)

    pub zeros_removed : (row last : ℕ) → row ≤ last → last + 1 ≡ n → All (HasZeros c last) (map (gap_filled row last) cols)
    zeros_removed row last below one = All-map (HasZeros c last) (gap_filled row last) cols (λ k d lt.
        let v = get_or cols k d in let xs = v.items in let z : List ℕ = replicate v.size 0 in let w = get_or xs last [] in let ys = set xs row w in
        let lt2 : last < length ys = omega (arith, length-set xs row w, long_at k d lt) in let next : last + 1 ≡ n = one in let more : c - last ≡ suc (c - n) = omega arith in
        let below2 : row < n = omega arith in
        drop-set ys last z lt2 ∙ ap (λ j. z ∷ drop j ys) next ∙ ap (λ l. z ∷ l) (drop-set-lt n xs row w below2 ∙ zeros k d lt) ∙ ap (λ j. replicate j z) (sym more))

  -- ---- another number of places
  pub rows_resized : (d : ℕ) → map (first_of n) (map (resized_in n d) cols) ≡ map (first_of n) cols
  rows_resized d = map_twice (first_of n) (resized_in n d) cols ∙ map_all (λ v. first_of n (resized_in n d v)) (first_of n) cols (λ k e lt.
      let v = get_or cols k e in let z : List (List ℕ) = replicate (d - n) (replicate v.size 0) in
      let long : length (take n v.items) ≡ n = length-take-le n v.items (omega (arith, long_at k e lt)) in let fits : n ≤ length (take n v.items) = omega arith in
      let self : n ≤ n = omega arith in
      ap (values v.size) (take-append-le n (take n v.items) z fits ∙ take-take n n v.items self))

  pub zeros_resized : (d : ℕ) → All (HasZeros d n) (map (resized_in n d) cols)
  zeros_resized d = All-map (HasZeros d n) (resized_in n d) cols (λ k e lt.
      let v = get_or cols k e in let z : List (List ℕ) = replicate (d - n) (replicate v.size 0) in
      let long : length (take n v.items) ≡ n = length-take-le n v.items (omega (arith, long_at k e lt)) in
      subst (λ j. drop j (take n v.items ++ z) ≡ z) long (drop-append_seam (take n v.items) z))

-- ---- what is seen
pub fits_most : (n w : ℕ) → n ≤ most_rows w → n * w < 2 ^ 63
fits_most n w le =
    let m : ℕ = max w 1 in let more : w ≤ m = omega arith in
    omega (arith, mul-le-mul_left n more, mul-le-mul_right m le, div-mul-le_self (2 ^ 63 - 1) m)

pub few_rows : (n w : ℕ) → n ≤ most_rows w → n < 2 ^ 63
few_rows n w le =
    let m : ℕ = max w 1 in let more : 1 ≤ m = omega arith in let one : n * 1 ≡ n = omega arith in
    omega (arith, mul-le-mul_left n more, mul-le-mul_right m le, div-mul-le_self (2 ^ 63 - 1) m)

module _ (c n : ℕ) (ss bs : List ℕ) where
  abbrev shown : List Values
  shown = map (first_of n) (columns_in c ss bs)

  pub length_shown : length shown ≡ length ss
  length_shown = length-map (columns_in c ss bs) (first_of n) ∙ length_columns c ss bs

  pub sizes_shown : map (λ v. v.size) shown ≡ ss
  sizes_shown = map_twice (λ (v : Values). v.size) (first_of n) (columns_in c ss bs) ∙ sizes_of_columns c ss bs

  column_shown : (k : ℕ) → k < length ss → get_or shown k (no_values 0) ≡ first_of n (get_or (columns_in c ss bs) k (no_values 0))
  column_shown k lt = get_or-map (first_of n) (columns_in c ss bs) k (no_values 0) (no_values 0) (subst (λ m. k < m) (sym (length_columns c ss bs)) lt)

  pub size_shown : (k : ℕ) → k < length ss → (get_or shown k (no_values 0)).size ≡ get_or ss k 0
  size_shown k lt = ap (λ (v : Values). v.size) (column_shown k lt) ∙ size_at c ss bs k (no_values 0) lt

  pub value_shown : (k row : ℕ) → k < length ss → row < n → n ≤ c → slice_get (get_or shown k (no_values 0)).items row ≡ Some (take (get_or ss k 0) (drop (place_of c ss k row) bs))
  value_shown k row lt below le =
      let v = get_or (columns_in c ss bs) k (no_values 0) in
      let long : length (take n v.items) ≡ n = length-take-le n v.items (omega (arith, length_at c ss bs k (no_values 0) lt)) in let within : row < length (take n v.items) = omega arith in
      ap (λ (x : Values). slice_get x.items row) (column_shown k lt) ∙ slice_get-get_or (take n v.items) row [] within
      ∙ ap Some (get_or-take n v.items row [] below ∙ columns_get c ss bs k row (no_values 0) [] lt (omega arith))

-- no rows yet
pub shown_none : (ss bs : List ℕ) → map (first_of 0) (columns_in 0 ss bs) ≡ map no_values ss
shown_none [] bs = refl
shown_none (s ∷ ss) bs = ap (λ l. no_values s ∷ l) (shown_none ss (drop (0 * s) bs))

pub zeros_none : (ss bs : List ℕ) → All (HasZeros 0 0) (columns_in 0 ss bs)
zeros_none ss bs = λ k d lt. none (get_or (columns_in 0 ss bs) k d).items (length_at 0 ss bs k d (subst (λ m. k < m) (length_columns 0 ss bs) lt))
  where
    none : (xs : List (List ℕ)) → length xs ≡ 0 → xs ≡ []
    none [] e = refl
    none (x ∷ xs) e = absurd (omega arith)

-- ---- copies between blocks
sizes_set : (cs : List Values) (k : ℕ) (xs : List (List ℕ)) (d : Values) → map (λ v. v.size) (set cs k (record (get_or cs k d) { items = xs })) ≡ map (λ v. v.size) cs
sizes_set [] k xs d = refl
sizes_set (c ∷ cs) zero xs d = refl
sizes_set (c ∷ cs) (suc k) xs d = ap (λ l. c.size ∷ l) (sizes_set cs k xs d)

pub copied_shape : (s : Contents) (row : ℕ) (t : Contents) (ps : List (ℕ × ℕ)) → (let u = fold (with_copied s row) t ps in (u.len ≡ t.len) × (map (λ v. v.size) u.columns ≡ map (λ v. v.size) t.columns))
copied_shape s row t [] = (refl, refl)
copied_shape s row t (p ∷ ps) =
    let u = with_copied s row t p in let rest = copied_shape s row u ps in
    let w = with_item (column_at t p.1) (t.len - 1) (slice_index_or (column_at s p.0).items row []) in
    (rest.0, rest.1 ∙ sizes_set t.columns p.1 w.items (no_values 0))

pub zeros_shape : (t : Contents) → map (λ v. v.size) (with_zeros t).columns ≡ map (λ v. v.size) t.columns
zeros_shape t = map_twice (λ (v : Values). v.size) with_zero t.columns

-- columns of the same sizes
pub same_size : (cs ds : List Values) (k : ℕ) → map (λ v. v.size) cs ≡ map (λ v. v.size) ds → k < length ds → (k < length cs) × ((get_or cs k (no_values 0)).size ≡ (get_or ds k (no_values 0)).size)
same_size cs ds k e lt =
    let long : length cs ≡ length ds = sym (length-map cs (λ (v : Values). v.size)) ∙ ap length e ∙ length-map ds (λ (v : Values). v.size) in let within : k < length cs = omega arith in
    (within, sym (get_or-map (λ (v : Values). v.size) cs k (no_values 0) 0 within) ∙ ap (λ l. get_or l k 0) e ∙ get_or-map (λ (v : Values). v.size) ds k (no_values 0) 0 lt)

-- ---- a block with another number of places
pub shown_resized : (ss : List ℕ) (c n d : ℕ) (bs new : List ℕ) → IsLaidOut ss c n bs → n ≤ d → new ≡ resized n c d ss bs → map (first_of n) (columns_in d ss new) ≡ map (first_of n) (columns_in c ss bs)
shown_resized ss c n d bs new h le e = ap (map (first_of n)) (ap (columns_in d ss) e ∙ columns_resized n c d h.within le ss bs h.all) ∙ rows_resized c n h.within ss bs d

pub laid_resized : (ss : List ℕ) (c n d : ℕ) (bs new : List ℕ) → IsLaidOut ss c n bs → n ≤ d → d ≤ most_rows (sum ss) → new ≡ resized n c d ss bs → IsLaidOut ss d n new
laid_resized ss c n d bs new h le fits e = record {
  sized = h.sized;
  all = ap length e ∙ resized_all n c d h.within le ss bs h.all;
  within = le;
  in_block = fits;
  zeros = subst (All (HasZeros d n)) (sym (ap (columns_in d ss) e ∙ columns_resized n c d h.within le ss bs h.all)) (zeros_resized c n h.within ss bs d);
}
