-- The numbers of a value as they are printed, one field at a time, from the last on.
use Rattle.std.specs.Prelude.{◌≡◌, ℕ, zero, suc, ◌+◌, ◌^◌, ◌<◌, ◌≤◌, false, ℤ, pos, negsuc, int_le, unsigned_abs, IsTrue, List, [], ◌∷◌, ◌++◌, flat_map, drop, length, slice_get, Some, Result, Ok, Err, OnOk, is_ok, if◌then◌else◌}
use Rattle.std.specs.Fmt.{decimal, signed_decimal}
use Rattle.std.proofs.Common.{refl, ap, sym, ◌∙◌, append-nil, arith}
use Rattle.std.proofs.lemmas.Bool.Decides.{nat_tests}
use Rattle.std.proofs.lemmas.Fmt.{length-decimal-le}
use Rattle.std.proofs.lemmas.Int.{ints}
use Rattle.std.proofs.lemmas.List.{drop-drop}
use Rattle.ecs_schema.proofs.Words.{first_true}
use Rattle.ecs_schema.proofs.NumberPlaces.{second_true}
use Rattle.ecs_model.specs.declared.Kind.{Kind}
use Rattle.ecs_model.specs.declared.Kind.TheVariants.{I8, U8, I16, U16, I32, U32, I64, U64}
use Rattle.ecs_model.specs.Schema.{Schema, all_fit, fits_kind}
use Rattle.ecs_model.specs.Print.{value_text, values_text}
use Rattle.ecs_print.specs.Values.{behind_comma}

-- numbers with commas between are the first and the others each after a comma
values_text-cons : (n : ℤ) (ns : List ℤ) → values_text (n ∷ ns) ≡ signed_decimal n ++ flat_map behind_comma ns
values_text-cons n [] = sym (append-nil (signed_decimal n))
values_text-cons n (m ∷ ns) = ap (λ t. signed_decimal n ++ 44 ∷ t) (values_text-cons m ns)

-- one more number before the others
pub number_before : (vs : List ℤ) (i : ℕ) (v : ℤ) → slice_get vs i ≡ Some v → behind_comma v ++ flat_map behind_comma (drop (suc i) vs) ≡ flat_map behind_comma (drop i vs)
number_before [] i v at = cc
number_before (n ∷ ns) zero v at = let same : n ≡ v = cc in ap (λ z. behind_comma z ++ flat_map behind_comma ns) (sym same)
number_before (n ∷ ns) (suc i) v at = number_before ns i v at

-- all numbers, with `=` in place of the first comma
pub value_written : (vs : List ℤ) (text rest : List ℕ) (start : ℕ) → 1 ≤ length vs → drop start text ≡ flat_map behind_comma vs ++ rest → 61 ∷ drop (start + 1) text ≡ value_text (Some vs) ++ rest
value_written [] text rest start some h = absurd (omega arith)
value_written (v ∷ vs) text rest start some h = ap (λ t. 61 ∷ t) (sym (drop-drop 1 start text) ∙ ap (λ t. drop 1 t) h ∙ ap (λ t. t ++ rest) (sym (values_text-cons v vs)))

-- a negative number is a minus and its absolute value
pub minus_first : (z : ℤ) → int_le (pos 0) z ≡ false → 45 ∷ decimal (unsigned_abs z) ≡ signed_decimal z
minus_first (pos n) h = absurd (grind arith)
minus_first (negsuc n) h = refl

-- a number of each kind fits a word
fits_word : (k : Kind) (z : ℤ) → IsTrue (fits_kind k z) → unsigned_abs z < 2 ^ 64
fits_word I8 z h = grind (arith, ints)
fits_word I16 z h = grind (arith, ints)
fits_word I32 z h = grind (arith, ints)
fits_word I64 z h = grind (arith, ints)
fits_word U8 (pos n) h = grind (arith, nat_tests)
fits_word U16 (pos n) h = grind (arith, nat_tests)
fits_word U32 (pos n) h = grind (arith, nat_tests)
fits_word U64 (pos n) h = grind (arith, nat_tests)
fits_word U8 (negsuc n) h = cc
fits_word U16 (negsuc n) h = cc
fits_word U32 (negsuc n) h = cc
fits_word U64 (negsuc n) h = cc

pub number_fits : (fs : Schema) (vs : List ℤ) (i : ℕ) (v : ℤ) → length vs ≡ length fs → IsTrue (all_fit fs vs) → slice_get vs i ≡ Some v → unsigned_abs v < 2 ^ 64
number_fits fs [] i v n h at = cc
number_fits [] (u ∷ vs) i v n h at = absurd (omega arith)
number_fits (f ∷ fs) (u ∷ vs) zero v n h at =
    let same : u ≡ v = cc in
    let fits : unsigned_abs u < 2 ^ 64 = fits_word f.kind u (first_true (fits_kind f.kind u) (all_fit fs vs) h) in
    rw same at fits
number_fits (f ∷ fs) (u ∷ vs) (suc i) v n h at = number_fits fs vs i v (omega arith) (second_true (fits_kind f.kind u) (all_fit fs vs) h) at

-- a number of a word has at most twenty digits
pub digits_fit : (n : ℕ) → n < 2 ^ 64 → length (decimal n) ≤ 20
digits_fit n h = length-decimal-le 20 n (omega arith) (omega arith) h

-- what was appended, in another form
pub appended : {E : Type 0} (r : Result (Unit {0}) E) (old new text wanted : List ℕ) → new ≡ (if is_ok r then old ++ text else old) → text ≡ wanted → OnOk r (new ≡ old ++ wanted)
appended (Ok x) old new text wanted h same = h ∙ ap (λ t. old ++ t) same
appended (Err e) old new text wanted h same = tt
