-- Numbers of each kind in wider words, and their bytes read back.
use Rattle.std.proofs.Common.{◌≡◌, ℕ, ◌^◌, ◌<◌, Bool, true, false, IsTrue, [], ◌∷◌, ◌&&◌, ℤ, pos, negsuc, refl, ap, ◌∙◌, arith, to_z, of_z}
use Rattle.std.specs.Int.{Width, w8, w16, w32, w64, w128, to_le_bytes}
use mir.Val.{SFits, hbits}
use lib.Signed.{mag}
use lib.IntN.{nat_abs}
use Rattle.std.specs.Prelude.{int_le}
use Rattle.std.proofs.lemmas.Int.{to_z-of_z, ints}
use Rattle.std.proofs.lemmas.Bool.Decides.{nat_tests}
use Rattle.ecs_model.specs.declared.Kind.TheVariants.{I8, U8, I16, I32, I64}
use Rattle.ecs_model.specs.Schema.{fits_kind}

-- a signed number that was read, in 128 bits
pub read_signed : (w : Width) (r s : ℤ) (n : ℕ) → mag s < 2 ^ hbits w → mag r < 2 ^ 127 → r ≡ to_z w (of_z w s) → s ≡ to_z w n → to_z w128 (of_z w128 r) ≡ to_z w n
read_signed w r s n f g e d = to_z-of_z w128 r (record { sfits = g }) ∙ e ∙ to_z-of_z w s (record { sfits = f }) ∙ d

-- an unsigned one
pub read_unsigned : (r : ℤ) (n : ℕ) → mag r < 2 ^ 127 → r ≡ pos n → to_z w128 (of_z w128 r) ≡ pos n
read_unsigned r n g e = to_z-of_z w128 r (record { sfits = g }) ∙ e

-- a signed number of 128 bits that fits a narrower word
pub written_signed : (w : Width) (z : ℤ) → SFits w z → SFits w128 z → to_z w (of_z w (to_z w128 (of_z w128 z))) ≡ z
written_signed w z f g = ap (λ x. to_z w (of_z w x)) (to_z-of_z w128 z g) ∙ to_z-of_z w z f

-- an unsigned one
pub written_unsigned : (w : Width) (z : ℤ) → IsTrue (int_le (pos 0) z) → SFits w128 z → nat_abs (to_z w128 (of_z w128 z)) ≡ of_z w z
written_unsigned w (pos n) f g = ap nat_abs (to_z-of_z w128 (pos n) g)
written_unsigned w (negsuc n) f g = absurd (grind arith)

pub SFits-I8 : (z : ℤ) → IsTrue (fits_kind I8 z) → SFits w8 z
SFits-I8 z h = grind (arith, ints)

pub SFits-I16 : (z : ℤ) → IsTrue (fits_kind I16 z) → SFits w16 z
SFits-I16 z h = grind (arith, ints)

pub SFits-I32 : (z : ℤ) → IsTrue (fits_kind I32 z) → SFits w32 z
SFits-I32 z h = grind (arith, ints)

pub SFits-I64 : (z : ℤ) → IsTrue (fits_kind I64 z) → SFits w64 z
SFits-I64 z h = grind (arith, ints)

-- the one byte of a number of eight bits
pub byte_signed : (z : ℤ) → SFits w8 z → of_z w8 z ∷ [] ≡ to_le_bytes w8 (of_z w8 z)
byte_signed z f = let h : of_z w8 z < 256 = omega (arith, ints) in ap (λ n. n ∷ []) (omega arith)

pub byte_unsigned : (z : ℤ) → IsTrue (fits_kind U8 z) → of_z w8 z ∷ [] ≡ to_le_bytes w8 (of_z w8 z)
byte_unsigned (pos n) h = let f : n < 256 = grind (arith, nat_tests) in ap (λ n. n ∷ []) (omega arith)
byte_unsigned (negsuc n) h = absurd (grind arith)

pub first_true : (a b : Bool) → (a && b) ≡ true → a ≡ true
first_true true b h = refl
first_true false b h = h
