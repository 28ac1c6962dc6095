-- Whatever bytes a value has, its numbers are in range.
use Rattle.std.proofs.Common.{◌≡◌, ℕ, zero, suc, ◌^◌, ◌<◌, true, ◌&&◌, List, [], ◌∷◌, get_or, take, drop, pos, refl, arith, to_z}
use Rattle.std.specs.Int.{w8, w16, w32, w64, from_le_bytes}
use Rattle.std.proofs.lemmas.Int.{ints}
use Rattle.std.proofs.lemmas.Bool.Decides.{nat_tests}
pub use Rattle.ecs_schema.proofs.UnwrittenBytes.{length-values_in as length_values}
use Rattle.ecs_model.specs.declared.Kind.{Kind}
use Rattle.ecs_model.specs.declared.Kind.TheVariants.{I8, U8, I16, U16, I32, U32, I64, U64}
use Rattle.ecs_model.specs.Schema.{Schema, width, fits_kind, all_fit}
use Rattle.ecs_model.specs.Bytes.{number_in, values_in}

abbrev pub AreBytes : List ℕ → Type 0
AreBytes bs = (i : ℕ) → get_or bs i 0 < 256

below_8 : (bs : List ℕ) → AreBytes bs → from_le_bytes w8 bs < 2 ^ 8
below_8 bs h = h 0

below_16 : (bs : List ℕ) → AreBytes bs → from_le_bytes w16 bs < 2 ^ 16
below_16 bs h = let a = h 0 in let b = h 1 in omega arith

below_32 : (bs : List ℕ) → AreBytes bs → from_le_bytes w32 bs < 2 ^ 32
below_32 bs h = let a = h 0 in let b = h 1 in let c = h 2 in let d = h 3 in omega arith

below_64 : (bs : List ℕ) → AreBytes bs → from_le_bytes w64 bs < 2 ^ 64
below_64 bs h = let a = h 0 in let b = h 1 in let c = h 2 in let d = h 3 in let e = h 4 in let f = h 5 in let g = h 6 in let i = h 7 in omega arith

fits_U8 : (n : ℕ) → n < 2 ^ 8 → fits_kind U8 (pos n) ≡ true
fits_U8 n lt = grind (arith, nat_tests)

fits_U16 : (n : ℕ) → n < 2 ^ 16 → fits_kind U16 (pos n) ≡ true
fits_U16 n lt = grind (arith, nat_tests)

fits_U32 : (n : ℕ) → n < 2 ^ 32 → fits_kind U32 (pos n) ≡ true
fits_U32 n lt = grind (arith, nat_tests)

fits_U64 : (n : ℕ) → n < 2 ^ 64 → fits_kind U64 (pos n) ≡ true
fits_U64 n lt = grind (arith, nat_tests)

fits_I8 : (n : ℕ) → n < 2 ^ 8 → fits_kind I8 (to_z w8 n) ≡ true
fits_I8 n lt = grind (arith, ints, nat_tests)

fits_I16 : (n : ℕ) → n < 2 ^ 16 → fits_kind I16 (to_z w16 n) ≡ true
fits_I16 n lt = grind (arith, ints, nat_tests)

fits_I32 : (n : ℕ) → n < 2 ^ 32 → fits_kind I32 (to_z w32 n) ≡ true
fits_I32 n lt = grind (arith, ints, nat_tests)

fits_I64 : (n : ℕ) → n < 2 ^ 64 → fits_kind I64 (to_z w64 n) ≡ true
fits_I64 n lt = grind (arith, ints, nat_tests)

fits : (k : Kind) (bs : List ℕ) → AreBytes bs → fits_kind k (number_in k bs) ≡ true
unfolding number_in
fits U8 bs h = fits_U8 (from_le_bytes w8 bs) (below_8 bs h)
fits U16 bs h = fits_U16 (from_le_bytes w16 bs) (below_16 bs h)
fits U32 bs h = fits_U32 (from_le_bytes w32 bs) (below_32 bs h)
fits U64 bs h = fits_U64 (from_le_bytes w64 bs) (below_64 bs h)
fits I8 bs h = fits_I8 (from_le_bytes w8 bs) (below_8 bs h)
fits I16 bs h = fits_I16 (from_le_bytes w16 bs) (below_16 bs h)
fits I32 bs h = fits_I32 (from_le_bytes w32 bs) (below_32 bs h)
fits I64 bs h = fits_I64 (from_le_bytes w64 bs) (below_64 bs h)

pub bytes_front : (n : ℕ) (bs : List ℕ) → AreBytes bs → AreBytes (take n bs)
bytes_front zero bs h i = omega arith
bytes_front (suc n) [] h i = h i
bytes_front (suc n) (b ∷ bs) h zero = h 0
bytes_front (suc n) (b ∷ bs) h (suc i) = bytes_front n bs (λ j. h (suc j)) i

pub bytes_behind : (n : ℕ) (bs : List ℕ) → AreBytes bs → AreBytes (drop n bs)
bytes_behind zero bs h = h
bytes_behind (suc n) [] h = h
bytes_behind (suc n) (b ∷ bs) h = bytes_behind n bs (λ j. h (suc j))

-- as many numbers as fields, each in its field's range
pub values_fit : (fs : Schema) (bs : List ℕ) → AreBytes bs → all_fit fs (values_in fs bs) ≡ true
values_fit [] bs h = refl
values_fit (f ∷ fs) bs h = λ k. fits f.kind (take (width f.kind) bs) (bytes_front (width f.kind) bs h) k && values_fit fs (drop (width f.kind) bs) (bytes_behind (width f.kind) bs h) k
