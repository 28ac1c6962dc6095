-- Where the numbers of a value stand among its bytes.
use Rattle.std.proofs.Common.{◌≡◌, ℕ, zero, suc, ◌+◌, ◌-◌, ◌%◌, ◌^◌, ◌<◌, ◌≤◌, Bool, true, false, IsTrue, ◌&&◌, List, [], ◌∷◌, ◌++◌, length, get_or, take, drop, Some, ℤ, pos, negsuc, refl, sym, ap, ◌∙◌, arith, to_z, of_z, append_assoc, slice_get, add-one}
use Rattle.std.specs.Int.{w8, w16, w32, w64, w128}
use lib.Signed.{mag}
use borrow.Rule.Slice.PartMut.{put_mid}
use Rattle.std.proofs.lemmas.Int.{to_z-of_z, ints}
use Rattle.std.proofs.lemmas.Nat.{from_le_bytes-to_le_bytes_2, from_le_bytes-to_le_bytes_4, from_le_bytes-to_le_bytes_8}
use Rattle.std.proofs.lemmas.Bool.Decides.{nat_tests}
use Rattle.std.proofs.lemmas.List.{append-nil, take_all, take_at, drop_all, drop_at, drop-drop, length-append, length-take-le}
use Rattle.std.proofs.lemmas.List.Sums.{sum_by-cons, sum_by_more, sum_by_more_le}
use Rattle.ecs_model.specs.declared.Kind.{Kind}
use Rattle.ecs_model.specs.declared.Kind.TheVariants.{I8, U8, I16, U16, I32, U32, I64, U64}
use Rattle.ecs_model.specs.Schema.{Field, Schema, width, fits_kind, all_fit}
use Rattle.ecs_model.specs.Bytes.{number_bytes, number_in, size_of, value_bytes, values_in}
use Rattle.ecs_schema.proofs.Words.{first_true, SFits-I8, SFits-I16, SFits-I32, SFits-I64}

pub second_true : (a b : Bool) → (a && b) ≡ true → b ≡ true
second_true true b h = h
second_true false b h = cc

pub length-number_bytes : (k : Kind) (z : ℤ) → length (number_bytes k z) ≡ width k
unfolding number_bytes
length-number_bytes I8 z = refl
length-number_bytes U8 z = refl
length-number_bytes I16 z = refl
length-number_bytes U16 z = refl
length-number_bytes I32 z = refl
length-number_bytes U32 z = refl
length-number_bytes I64 z = refl
length-number_bytes U64 z = refl

mod-byte : (n : ℕ) → n < 256 → n % 256 ≡ n
mod-byte n h = omega arith

-- a number's bytes mean the number
pub number_in-number_bytes : (k : Kind) (z : ℤ) → IsTrue (fits_kind k z) → number_in k (number_bytes k z) ≡ z
unfolding number_bytes number_in
number_in-number_bytes I8 z h = let f = SFits-I8 z h in ap (to_z w8) (mod-byte (of_z w8 z) (omega (arith, ints))) ∙ to_z-of_z w8 z f
number_in-number_bytes I16 z h = let f = SFits-I16 z h in ap (to_z w16) (from_le_bytes-to_le_bytes_2 (of_z w16 z) (omega (arith, ints))) ∙ to_z-of_z w16 z f
number_in-number_bytes I32 z h = let f = SFits-I32 z h in ap (to_z w32) (from_le_bytes-to_le_bytes_4 (of_z w32 z) (omega (arith, ints))) ∙ to_z-of_z w32 z f
number_in-number_bytes I64 z h = let f = SFits-I64 z h in ap (to_z w64) (from_le_bytes-to_le_bytes_8 (of_z w64 z) (omega (arith, ints))) ∙ to_z-of_z w64 z f
number_in-number_bytes U8 (pos n) h = ap pos (mod-byte n (grind (arith, nat_tests)))
number_in-number_bytes U16 (pos n) h = ap pos (from_le_bytes-to_le_bytes_2 n (grind (arith, nat_tests)))
number_in-number_bytes U32 (pos n) h = ap pos (from_le_bytes-to_le_bytes_4 n (grind (arith, nat_tests)))
number_in-number_bytes U64 (pos n) h = ap pos (from_le_bytes-to_le_bytes_8 n (grind (arith, nat_tests)))
number_in-number_bytes U8 (negsuc n) h = cc
number_in-number_bytes U16 (negsuc n) h = cc
number_in-number_bytes U32 (negsuc n) h = cc
number_in-number_bytes U64 (negsuc n) h = cc

-- the size, with one more field
pub size_of-more : (fs : Schema) (n : ℕ) (f : Field) → n < length fs → f ≡ get_or fs n f → size_of (take (n + 1) fs) ≡ size_of (take n fs) + width f.kind
size_of-more fs n f h e = sum_by_more (λ g. width g.kind) fs n f h ∙ ap (λ (g : Field). size_of (take n fs) + width g.kind) (sym e)

pub size_of-more-le : (fs : Schema) (n : ℕ) (f : Field) → n < length fs → f ≡ get_or fs n f → size_of (take n fs) + width f.kind ≤ size_of fs
size_of-more-le fs n f h e = omega (arith, sum_by_more_le (λ g. width g.kind) fs n f h, ap (λ (g : Field). width g.kind) e)

pub size_of-first : (f : Field) (fs : Schema) → size_of (f ∷ fs) ≡ width f.kind + size_of fs
size_of-first f fs = sum_by-cons (λ g. width g.kind) f fs

-- a value has as many bytes as its fields
pub length-value_bytes : (fs : Schema) (vs : List ℤ) → length vs ≡ length fs → length (value_bytes fs vs) ≡ size_of fs
length-value_bytes [] vs h = refl
length-value_bytes (f ∷ fs) [] h = absurd (omega arith)
length-value_bytes (f ∷ fs) (v ∷ vs) h =
    omega (arith, length-append (number_bytes f.kind v) (value_bytes fs vs), length-number_bytes f.kind v, length-value_bytes fs vs (omega arith), size_of-first f fs)

-- the bytes of a value mean the value
pub values_in-value_bytes : (fs : Schema) (vs : List ℤ) → length vs ≡ length fs → IsTrue (all_fit fs vs) → values_in fs (value_bytes fs vs) ≡ vs
values_in-value_bytes [] [] h t = refl
values_in-value_bytes [] (v ∷ vs) h t = absurd (omega arith)
values_in-value_bytes (f ∷ fs) [] h t = absurd (omega arith)
values_in-value_bytes (f ∷ fs) (v ∷ vs) h t =
    let n = length-number_bytes f.kind v in
    rw (take_at (number_bytes f.kind v) (value_bytes fs vs) (width f.kind) n, drop_at (number_bytes f.kind v) (value_bytes fs vs) (width f.kind) n, number_in-number_bytes f.kind v (first_true (fits_kind f.kind v) (all_fit fs vs) t), values_in-value_bytes fs vs (omega arith) (second_true (fits_kind f.kind v) (all_fit fs vs) t))

-- the number of one field
pub slice_get-values_in : (fs : Schema) (bs : List ℕ) (i : ℕ) (f : Field) → i < length fs → f ≡ get_or fs i f → slice_get (values_in fs bs) i ≡ Some (number_in f.kind (take (width f.kind) (drop (size_of (take i fs)) bs)))
slice_get-values_in [] bs i f h e = absurd (omega arith)
slice_get-values_in (g ∷ fs) bs zero f h e = ap (λ (x : Field). Some (number_in x.kind (take (width x.kind) bs))) (sym e)
slice_get-values_in (g ∷ fs) bs (suc i) f h e =
    slice_get-values_in fs (drop (width g.kind) bs) i f (omega arith) e
    ∙ ap (λ rest. Some (number_in f.kind (take (width f.kind) rest))) (drop-drop (size_of (take i fs)) (width g.kind) bs ∙ ap (λ n. drop n bs) (sym (size_of-first g (take i fs))))

-- the number of one field, as it is read
pub slice_get-read : (fs : Schema) (bs : List ℕ) (i : ℕ) (f : Field) (k : Kind) (start w : ℕ) (r : ℤ) → i < length fs → f ≡ get_or fs i f → k ≡ f.kind → w ≡ width k → start ≡ size_of (take i fs) → mag r < 2 ^ 127 → r ≡ number_in k (take (start + w - start) (drop start bs)) → slice_get (values_in fs bs) i ≡ Some (to_z w128 (of_z w128 r))
slice_get-read fs bs i f k start w r h e kind wide at m read =
    let part : start + w - start ≡ w = omega arith in
    rw (to_z-of_z w128 r (record { sfits = m }), read, part, wide, kind, at) (slice_get-values_in fs bs i f h e)

-- the range of one field's number
pub all_fit-at : (fs : Schema) (vs : List ℤ) (i : ℕ) (f : Field) (v : ℤ) → IsTrue (all_fit fs vs) → i < length fs → i < length vs → f ≡ get_or fs i f → v ≡ get_or vs i v → IsTrue (fits_kind f.kind v)
all_fit-at [] vs i f v t h k e d = absurd (omega arith)
all_fit-at (g ∷ fs) [] i f v t h k e d = absurd (omega arith)
all_fit-at (g ∷ fs) (u ∷ vs) zero f v t h k e d = rw (e, d) (first_true _ _ t)
all_fit-at (g ∷ fs) (u ∷ vs) (suc i) f v t h k e d = all_fit-at fs vs i f v (second_true _ _ t) (omega arith) (omega arith) e d

-- one more number
value_bytes-more : (fs : Schema) (vs : List ℤ) (i : ℕ) (f : Field) (v : ℤ) → i < length fs → i < length vs → f ≡ get_or fs i f → v ≡ get_or vs i v → value_bytes (take (suc i) fs) (take (suc i) vs) ≡ value_bytes (take i fs) (take i vs) ++ number_bytes f.kind v
value_bytes-more [] vs i f v h k e d = absurd (omega arith)
value_bytes-more (g ∷ fs) [] i f v h k e d = absurd (omega arith)
value_bytes-more (g ∷ fs) (u ∷ vs) zero f v h k e d = rw (e, d) (append-nil (number_bytes g.kind u))
value_bytes-more (g ∷ fs) (u ∷ vs) (suc i) f v h k e d =
    ap (λ bs. number_bytes g.kind u ++ bs) (value_bytes-more fs vs i f v (omega arith) (omega arith) e d)
    ∙ sym (append_assoc (number_bytes g.kind u) (value_bytes (take i fs) (take i vs)) (number_bytes f.kind v))

-- the bytes after one more number was written
pub value_bytes-written : (fs : Schema) (vs : List ℤ) (i : ℕ) (f : Field) (v : ℤ) (start : ℕ) (first bytes : List ℕ) → i < length fs → i < length vs → f ≡ get_or fs i f → v ≡ get_or vs i v → start ≡ size_of (take i fs) → bytes ≡ value_bytes (take i fs) (take i vs) ++ drop start first
    → put_mid start (start + width f.kind - start) bytes (number_bytes f.kind v) ≡ value_bytes (take (i + 1) fs) (take (i + 1) vs) ++ drop (start + width f.kind) first
value_bytes-written fs vs i f v start first bytes h k e d s b =
    let before = value_bytes (take i fs) (take i vs) in
    let number = number_bytes f.kind v in
    let n : length before ≡ start = length-value_bytes (take i fs) (take i vs) (length-take-le i vs (omega arith) ∙ sym (length-take-le i fs (omega arith))) ∙ sym s in
    let w : start + width f.kind - start ≡ width f.kind = omega arith in
    rw (b, w, take_at before (drop start first) start n, drop_at before (drop start first) start n, drop-drop (width f.kind) start first, add-one, value_bytes-more fs vs i f v h k e d)
    (sym (append_assoc before number (drop (start + width f.kind) first)))

-- the bytes once all numbers are written
pub value_bytes-whole : (fs : Schema) (vs : List ℤ) (n start : ℕ) (first bytes : List ℕ) → length fs ≤ n → length vs ≤ n → length first ≡ size_of fs → start ≡ size_of (take n fs) → bytes ≡ value_bytes (take n fs) (take n vs) ++ drop start first → bytes ≡ value_bytes fs vs
value_bytes-whole fs vs n start first bytes h k l s b =
    let whole = take_all n fs h in
    let past : length first ≤ start = omega (arith, ap size_of whole) in
    b ∙ rw (whole, take_all n vs k, drop_all start first past) (append-nil (value_bytes fs vs))
