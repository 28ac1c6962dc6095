-- What bytes mean that no value was written to.
use Rattle.std.proofs.Common.{◌≡◌, ℕ, zero, suc, ◌+◌, ◌-◌, ◌<◌, IsTrue, List, [], ◌∷◌, length, get_or, take, drop, replicate, ℤ, pos, refl, ap, arith}
use Rattle.std.specs.Int.{w8, w16, w32, w64, from_le_bytes}
use mir.Val.{SFits}
use Rattle.std.proofs.Math.Facts.{sfits_to_z}
use Rattle.std.proofs.lemmas.Int.{ints}
use Rattle.std.proofs.lemmas.Bool.Decides.{nat_tests}
use Rattle.std.proofs.lemmas.List.{drop-replicate, get_or-drop, take-replicate}
use Rattle.std.proofs.lemmas.Bool.{and_from}
use Rattle.ecs_model.specs.declared.Kind.{Kind}
use Rattle.ecs_model.specs.declared.Kind.TheVariants.{I8, U8, I16, U16, I32, U32, I64, U64}
use Rattle.ecs_model.specs.Schema.{Schema, width, fits_kind, all_fit, zeros}
use Rattle.ecs_model.specs.Bytes.{number_in, size_of, values_in}
use Rattle.ecs_schema.proofs.NumberPlaces.{size_of-first}

number_in-zeros : (k : Kind) → number_in k (replicate (width k) 0) ≡ pos 0
unfolding number_in
number_in-zeros I8 = refl
number_in-zeros U8 = refl
number_in-zeros I16 = refl
number_in-zeros U16 = refl
number_in-zeros I32 = refl
number_in-zeros U32 = refl
number_in-zeros I64 = refl
number_in-zeros U64 = refl

-- zero bytes mean a new value
pub values_in-zeros : (fs : Schema) → values_in fs (replicate (size_of fs) 0) ≡ zeros fs
values_in-zeros [] = refl
values_in-zeros (f ∷ fs) =
    let rest : width f.kind + size_of fs - width f.kind ≡ size_of fs = omega arith in
    rw (size_of-first f fs, take-replicate {X = ℕ} (width f.kind) (width f.kind + size_of fs) 0 (omega arith), drop-replicate {X = ℕ} (width f.kind) (width f.kind + size_of fs) 0, rest, number_in-zeros f.kind, values_in-zeros fs)

pub length-values_in : (fs : Schema) (bs : List ℕ) → length (values_in fs bs) ≡ length fs
length-values_in [] bs = refl
length-values_in (f ∷ fs) bs = ap suc (length-values_in fs (drop (width f.kind) bs))

abbrev AreBytes : List ℕ → Type 0
AreBytes bs = (i : ℕ) → get_or bs i 0 < 256

AreBytes-take : (n : ℕ) (bs : List ℕ) → AreBytes bs → AreBytes (take n bs)
AreBytes-take zero bs h i = omega arith
AreBytes-take (suc n) [] h i = h i
AreBytes-take (suc n) (b ∷ bs) h zero = h zero
AreBytes-take (suc n) (b ∷ bs) h (suc i) = AreBytes-take n bs (λ j. h (suc j)) i

AreBytes-drop : (n : ℕ) (bs : List ℕ) → AreBytes bs → AreBytes (drop n bs)
AreBytes-drop n bs h i = rw (get_or-drop n bs i 0) (h (n + i))

fits-I8 : (z : ℤ) → SFits w8 z → IsTrue (fits_kind I8 z)
fits-I8 z h = grind (arith, ints)

fits-I16 : (z : ℤ) → SFits w16 z → IsTrue (fits_kind I16 z)
fits-I16 z h = grind (arith, ints)

fits-I32 : (z : ℤ) → SFits w32 z → IsTrue (fits_kind I32 z)
fits-I32 z h = grind (arith, ints)

fits-I64 : (z : ℤ) → SFits w64 z → IsTrue (fits_kind I64 z)
fits-I64 z h = grind (arith, ints)

-- bytes of a kind mean a number in its range
fits-number_in : (k : Kind) (bs : List ℕ) → AreBytes bs → IsTrue (fits_kind k (number_in k bs))
unfolding number_in
fits-number_in I8 bs h = fits-I8 _ (sfits_to_z {w = w8} (record { fits = h 0 }))
fits-number_in U8 bs h = let f = h 0 in grind (arith, nat_tests)
fits-number_in I16 bs h = fits-I16 _ (sfits_to_z {w = w16} {n = from_le_bytes w16 bs} (record { fits = omega (arith, h 0, h 1) }))
fits-number_in U16 bs h = let f = h 0 in let g = h 1 in grind (arith, nat_tests)
fits-number_in I32 bs h = fits-I32 _ (sfits_to_z {w = w32} {n = from_le_bytes w32 bs} (record { fits = omega (arith, h 0, h 1, h 2, h 3) }))
fits-number_in U32 bs h = let a = h 0 in let b = h 1 in let c = h 2 in let d = h 3 in grind (arith, nat_tests)
fits-number_in I64 bs h = fits-I64 _ (sfits_to_z {w = w64} {n = from_le_bytes w64 bs} (record { fits = omega (arith, h 0, h 1, h 2, h 3, h 4, h 5, h 6, h 7) }))
fits-number_in U64 bs h =
    let a = h 0 in let b = h 1 in let c = h 2 in let d = h 3 in let e = h 4 in let f = h 5 in let g = h 6 in let i = h 7 in
    grind (arith, nat_tests)

-- bytes mean a value
pub all_fit-values_in : (fs : Schema) (bs : List ℕ) → AreBytes bs → IsTrue (all_fit fs (values_in fs bs))
all_fit-values_in [] bs h = refl
all_fit-values_in (f ∷ fs) bs h =
    and_from _ _ (fits-number_in f.kind (take (width f.kind) bs) (AreBytes-take (width f.kind) bs h)) (all_fit-values_in fs (drop (width f.kind) bs) (AreBytes-drop (width f.kind) bs h))
