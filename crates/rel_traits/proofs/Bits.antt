-- A set's bits say which traits are held.
use Rattle.std.proofs.Common.{◌≡◌, ◌≢◌, ℕ, zero, suc, ◌+◌, ◌*◌, ◌^◌, ◌≤◌, ◌<◌, ◌==◌, Bool, true, false, ◌||◌, cond, List, [], ◌∷◌, ◌++◌, length, get_or, take, Some, None, refl, sym, ap, ap₂, subst, take_all, ◌∙◌, arith}
use Rattle.std.specs.Prelude.{max}
use Rattle.std.specs.Int.{bit_at}
use Rattle.std.proofs.Math.Nat.{pow-suc}
use Rattle.std.specs.Int.RustNames.{bit_and, bit_or}
use Rattle.std.proofs.lemmas.Bool.Decides.{nat_tests}
use Rattle.std.proofs.lemmas.List.{take_more}
use Rattle.std.proofs.lemmas.List.Folds.{list_any-append}
use Rattle.std.proofs.lemmas.Nat.Bits.{and_pow, bit_at_or, bit_at-pow_other, bit_at-pow_same, bit_at-zero}
use Rattle.std.proofs.lemmas.Option.{same_Some}
use Rattle.ecs_id.specs.Id.{Id, plain, pair, first_of, second_of, target_or_zero, id_eq, id_eq_apart}
use Rattle.ecs_model.specs.Links.{is_held}
use Rattle.rel_traits.specs.TraitBits.{bit_if, bits_from, trait_ids}

zero_left : (n : ℕ) → max 0 n ≡ n
zero_left n = omega arith

other_bit : (held : List Id) (i : Id) (k b : ℕ) → b ≢ k → bit_at (bit_if held i (2 ^ k)) b ≡ 0
other_bit held i k b apart = by (is_held held i)
  where
    by : (h : Bool) → bit_at (cond h (2 ^ k) 0) b ≡ 0
    by true = bit_at-pow_other k b apart
    by false = bit_at-zero b

own_bit : (held : List Id) (i : Id) (k : ℕ) → bit_at (bit_if held i (2 ^ k)) k ≡ cond (is_held held i) 1 0
own_bit held i k = by (is_held held i)
  where
    by : (h : Bool) → bit_at (cond h (2 ^ k) 0) k ≡ cond h 1 0
    by true = bit_at-pow_same k
    by false = bit_at-zero k

bits_below : (held : List Id) (k : ℕ) (is : List Id) (b : ℕ) → b < k → bit_at (bits_from held k is) b ≡ 0
unfolding bits_from
bits_below held k [] b l = bit_at-zero b
bits_below held k (i ∷ is) b l = bit_at_or (bits_from held (k + 1) is) (bit_if held i (2 ^ k)) b ∙ ap₂ max (bits_below held (k + 1) is b (omega arith)) (other_bit held i k b (λ e. absurd (omega (arith, e))))

bits_at : (held : List Id) (k : ℕ) (is : List Id) (j : ℕ) (d : Id) → j < length is → bit_at (bits_from held k is) (k + j) ≡ cond (is_held held (get_or is j d)) 1 0
unfolding bits_from
bits_at held k [] j d l = absurd (omega arith)
bits_at held k (i ∷ is) zero d l =
    let here : k + 0 ≡ k = omega arith in
    rw here (bit_at_or (bits_from held (k + 1) is) (bit_if held i (2 ^ k)) k ∙ ap₂ max (bits_below held (k + 1) is k (omega arith)) (own_bit held i k) ∙ zero_left (cond (is_held held i) 1 0))
bits_at held k (i ∷ is) (suc j) d l =
    let on : (k + 1) + j ≡ k + suc j = omega arith in
    let rest : bit_at (bits_from held (k + 1) is) (k + suc j) ≡ cond (is_held held (get_or is j d)) 1 0 = rw (← on) (bits_at held (k + 1) is j d (omega arith)) in
    bit_at_or (bits_from held (k + 1) is) (bit_if held i (2 ^ k)) (k + suc j) ∙ ap₂ max rest (other_bit held i k (k + suc j) (λ e. absurd (omega (arith, e)))) ∙ zero_right (is_held held (get_or is j d))
  where
    zero_right : (h : Bool) → max (cond h 1 0) 0 ≡ cond h 1 0
    zero_right true = refl
    zero_right false = refl

bits_past : (held : List Id) (k : ℕ) (is : List Id) (b : ℕ) → k + length is ≤ b → bit_at (bits_from held k is) b ≡ 0
unfolding bits_from
bits_past held k [] b l = bit_at-zero b
bits_past held k (i ∷ is) b l = bit_at_or (bits_from held (k + 1) is) (bit_if held i (2 ^ k)) b ∙ ap₂ max (bits_past held (k + 1) is b (omega arith)) (other_bit held i k b (λ e. absurd (omega (arith, e))))

pow_above : (b : ℕ) → 0 < 2 ^ b
pow_above zero = omega arith
pow_above (suc b) = omega (arith, pow-suc 2 b, pow_above b)

tested : (n b : ℕ) (h : Bool) → bit_at n b ≡ cond h 1 0 → (bit_and n (2 ^ b) == 2 ^ b) ≡ h
tested n b true e = let is : bit_and n (2 ^ b) ≡ 2 ^ b = and_pow n b ∙ ap (λ m. m * 2 ^ b) e ∙ omega arith in grind (arith, nat_tests, is)
tested n b false e = let is : bit_and n (2 ^ b) ≡ 0 = and_pow n b ∙ ap (λ m. m * 2 ^ b) e ∙ omega arith in let more = pow_above b in grind (arith, nat_tests, is, more)

-- one more id sets its own bit, and no other
one_at : (held : List Id) (i t : Id) (n b : ℕ) → bit_at (bit_if (held ++ i ∷ []) t n) b ≡ max (bit_at (bit_if held t n) b) (bit_at (bit_if (i ∷ []) t n) b)
one_at held i t n b = rw (list_any-append (λ j. id_eq j t) held (i ∷ [])) (by (is_held held t) (is_held (i ∷ []) t))
  where
    by : (x y : Bool) → bit_at (cond (x || y) n 0) b ≡ max (bit_at (cond x n 0) b) (bit_at (cond y n 0) b)
    by true true = omega arith
    by true false = omega (arith, bit_at-zero b)
    by false true = omega (arith, bit_at-zero b)
    by false false = omega arith

more_at : (held : List Id) (i : Id) (k : ℕ) (is : List Id) (b : ℕ) → bit_at (bits_from (held ++ i ∷ []) k is) b ≡ max (bit_at (bits_from held k is) b) (bit_at (bits_from (i ∷ []) k is) b)
unfolding bits_from
more_at held i k [] b = omega arith
more_at held i k (t ∷ ts) b = omega (
  arith,
  bit_at_or (bits_from (held ++ i ∷ []) (k + 1) ts) (bit_if (held ++ i ∷ []) t (2 ^ k)) b,
  bit_at_or (bits_from held (k + 1) ts) (bit_if held t (2 ^ k)) b,
  bit_at_or (bits_from (i ∷ []) (k + 1) ts) (bit_if (i ∷ []) t (2 ^ k)) b,
  more_at held i (k + 1) ts b,
  one_at held i t (2 ^ k) b,
)

-- the bits of two numbers are the same
abbrev pub HasBitsOf : List Id → ℕ → Type 0
HasBitsOf held n = (b : ℕ) → bit_at n b ≡ bit_at (bits_from held 0 trait_ids) b

pub with_one_more : (ids : List Id) (n : ℕ) (i : Id) (old flag new : ℕ) → n < length ids → i ≡ get_or ids n i → HasBitsOf (take n ids) old → flag ≡ bits_from (i ∷ []) 0 trait_ids → new ≡ bit_or old flag → HasBitsOf (take (n + 1) ids) new
with_one_more ids n i old flag new inside at before own is b =
    rw (is, take_more ids n i inside, ← at, bit_at_or old flag b, before b, own) (sym (more_at (take n ids) i 0 trait_ids b))

-- of no ids, and of all of them
none_from : (k : ℕ) (is : List Id) → bits_from [] k is ≡ 0
unfolding bits_from
none_from k [] = refl
none_from k (i ∷ is) = rw (none_from (k + 1) is) refl

pub none_held : (n : ℕ) → n ≡ 0 → n ≡ bits_from [] 0 trait_ids
none_held n is = is ∙ sym (none_from 0 trait_ids)

pub of_all : (ids : List Id) (end n : ℕ) → length ids ≤ end → HasBitsOf (take end ids) n → HasBitsOf ids n
of_all ids end n whole h = subst (λ held. HasBitsOf held n) (take_all end ids whole) h

-- an id that is no trait has no bit
-- it is none of these
unfoldable IsNone : Id → List Id → Type 0
IsNone i [] = Unit {0}
IsNone i (t ∷ ts) = (id_eq i t ≡ false) × IsNone i ts

no_bits : (i : Id) (k : ℕ) (is : List Id) → IsNone i is → bits_from (i ∷ []) k is ≡ 0
unfolding bits_from IsNone
no_bits i k [] a = refl
no_bits i k (t ∷ ts) a = rw (no_bits i (k + 1) ts a.1, a.0) refl

plain_apart : (c d : ℕ) → c ≢ d → id_eq (plain c) (plain d) ≡ false
plain_apart c d apart = id_eq_apart (plain c) (plain d) (λ e. apart (ap first_of e))

plain_is_no_pair : (c r t : ℕ) → id_eq (plain c) (pair r t) ≡ false
plain_is_no_pair c r t = id_eq_apart (plain c) (pair r t) (λ e. absurd cc)

pair_is_not_plain : (c r t : ℕ) → id_eq (pair r t) (plain c) ≡ false
pair_is_not_plain c r t = id_eq_apart (pair r t) (plain c) (λ e. absurd cc)

pair_apart : (r t s u : ℕ) → ¬ ((r ≡ s) × (t ≡ u)) → id_eq (pair r t) (pair s u) ≡ false
pair_apart r t s u apart = id_eq_apart (pair r t) (pair s u) (λ e. apart (ap first_of e, ap target_or_zero e))

pub no_plain_bits : (c : ℕ) → c ≢ 6 → c ≢ 7 → c ≢ 8 → c ≢ 9 → c ≢ 10 → c ≢ 11 → c ≢ 12 → bits_from (plain c ∷ []) 0 trait_ids ≡ 0
unfolding IsNone
no_plain_bits c h6 h7 h8 h9 h10 h11 h12 = no_bits (plain c) 0 trait_ids (
  plain_apart c 6 h6,
  (
    plain_apart c 7 h7,
    (
      plain_apart c 8 h8,
      (
        plain_apart c 9 h9,
        (
          plain_apart c 10 h10,
          (
            plain_apart c 11 h11,
            (
              plain_apart c 12 h12,
              (plain_is_no_pair c 14 17, (plain_is_no_pair c 14 18, (plain_is_no_pair c 15 17, (plain_is_no_pair c 15 18, (plain_is_no_pair c 19 21, (plain_is_no_pair c 19 22, tt)))))),
            ),
          ),
        ),
      ),
    ),
  ),
)

pub no_pair_bits : (r t : ℕ) → ¬ ((r ≡ 14) × (t ≡ 17)) → ¬ ((r ≡ 14) × (t ≡ 18)) → ¬ ((r ≡ 15) × (t ≡ 17)) → ¬ ((r ≡ 15) × (t ≡ 18)) → ¬ ((r ≡ 19) × (t ≡ 21)) → ¬ ((r ≡ 19) × (t ≡ 22))
    → bits_from (pair r t ∷ []) 0 trait_ids ≡ 0
unfolding IsNone
no_pair_bits r t hdd hdp htd htp hi hn = no_bits (pair r t) 0 trait_ids (
  pair_is_not_plain 6 r t,
  (
    pair_is_not_plain 7 r t,
    (
      pair_is_not_plain 8 r t,
      (
        pair_is_not_plain 9 r t,
        (
          pair_is_not_plain 10 r t,
          (
            pair_is_not_plain 11 r t,
            (
              pair_is_not_plain 12 r t,
              (pair_apart r t 14 17 hdd, (pair_apart r t 14 18 hdp, (pair_apart r t 15 17 htd, (pair_apart r t 15 18 htp, (pair_apart r t 19 21 hi, (pair_apart r t 19 22 hn, tt)))))),
            ),
          ),
        ),
      ),
    ),
  ),
)

pub tells : (held : List Id) (b n : ℕ) → HasBitsOf held n → b < 13 → (bit_and n (2 ^ b) == 2 ^ b) ≡ is_held held (get_or trait_ids b (plain 0))
tells held b n is l = tested n b (is_held held (get_or trait_ids b (plain 0))) (is b ∙ ap (bit_at (bits_from held 0 trait_ids)) (let z : b ≡ 0 + b = omega arith in z) ∙ bits_at held 0 trait_ids b (plain 0) (omega arith))

pub tells_no_more : (held : List Id) (b n : ℕ) → HasBitsOf held n → 13 ≤ b → (bit_and n (2 ^ b) == 2 ^ b) ≡ false
tells_no_more held b n is l = tested n b false (is b ∙ bits_past held 0 trait_ids b (omega arith))
