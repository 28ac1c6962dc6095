-- The numbers whose bits are set, as a list.
use Rattle.std.specs.Prelude.{◌↔◌, ◌==◌, ◌&&◌, ◌||◌, not, bit_and, filter}
use Rattle.std.specs.Int.{bit_not}
use Rattle.std.specs.List.{Contains, list_any, range_with_len}
use Rattle.std.specs.List.Sorted.{IsStrictlyIncreasing}
use Rattle.std.proofs.Common.{◌≡◌, ℕ, ◌+◌, ◌*◌, ◌/◌, ◌^◌, ◌<◌, Bool, true, false, cond, List, [], ◌∷◌, ◌++◌, append_assoc, length, get_or, take, sym, ap, subst, ◌∙◌, inl, inr, arith, refl, true≢false, w64}
use Rattle.std.proofs.lemmas.Bool.{cases_lt}
use Rattle.std.proofs.lemmas.Bool.Decides.{nat_tests}
use Rattle.std.proofs.lemmas.List.{get_or_past}
use Rattle.std.proofs.lemmas.List.Elements.{filter-append}
use Rattle.std.proofs.lemmas.List.Folds.{list_any_more}
use Rattle.std.proofs.lemmas.List.FromFn.{get_or-range_with_len, length-range_with_len}
use Rattle.std.proofs.lemmas.List.Kept.{IsStrictlyIncreasing-filter}
pub use Rattle.ecs_model.proofs.Ranges.{number_more, ranges_join}
use Rattle.ecs_model.proofs.Ranges.{filter_twice, none_between}
use Rattle.ecs_model.proofs.Members.{alike, any_passes, eq_itself, eq_same, filtered, passing}
use Rattle.ecs_model.specs.BitWords.{has_bit}
use Rattle.entity_set.specs.Members.{has_else, indexes_of, members}
use Rattle.entity_set.proofs.Words.{has_none, nothing_else}

pub range_rises : (a n : ℕ) → IsStrictlyIncreasing (range_with_len a n)
range_rises a n = λ k lt.
    let long = length-range_with_len a n in
    let here = get_or-range_with_len a n k 0 (omega arith) in
    let next = get_or-range_with_len a n (k + 1) 0 (omega arith) in
    omega (arith, here, next)

pub in_range : (n e : ℕ) → e < n → Contains (range_with_len 0 n) e
in_range n e lt = (e, omega (arith, length-range_with_len 0 n), get_or-range_with_len 0 n e e lt ∙ omega arith)

-- who has a bit has a word
pub has_word : (words : List ℕ) (e : ℕ) → has_bit words e ≡ true → e < 64 * length words
has_word words e h =
    elim (cases_lt (e / 64) (length words)) [
      | inl within ↦ omega (arith, within)
      | inr past ↦ absurd (true≢false (sym h ∙ has_none words e (get_or_past words (e / 64) 0 past)))
    ]

pub in_members : (words : List ℕ) (e : ℕ) → Contains (members words) e ↔ (has_bit words e ≡ true)
unfolding members
in_members words e =
    let all = range_with_len 0 (64 * length words) in (
      λ h. ((filtered (has_bit words) all e).0 h).1,
      λ h. (filtered (has_bit words) all e).1 (in_range (64 * length words) e (has_word words e h), h),
    )

pub any_members : (words : List ℕ) (e : ℕ) → list_any (λ x. x == e) (members words) ≡ has_bit words e
any_members words e =
    alike (list_any (λ x. x == e) (members words)) (has_bit words e)
    (λ t. let x = passing (λ x. x == e) (members words) t in (in_members words e).0 (subst (Contains (members words)) (eq_same x.0 e x.2) x.1))
    (λ h. any_passes (λ x. x == e) (members words) e ((in_members words e).1 h) (eq_itself e))

pub members_rise : (words : List ℕ) → IsStrictlyIncreasing (members words)
unfolding members
members_rise words = IsStrictlyIncreasing-filter (has_bit words) (range_with_len 0 (64 * length words)) (range_rises 0 (64 * length words))

pub none_members : members [] ≡ []
unfolding members
none_members = refl

-- ---- those in some words and not in others

pub others_are : (words others : List ℕ) → filter (λ x. not (list_any (λ y. y == x) (members others))) (members words) ≡ filter (has_else words others) (range_with_len 0 (64 * length words))
unfolding members
others_are words others =
    (λ i. filter (λ x. not (any_members others x i)) (members words))
    ∙ filter_twice (has_bit words) (λ x. not (has_bit others x)) (range_with_len 0 (64 * length words))

-- one more word
pub others_more : (words others : List ℕ) (place : ℕ) (found more : List ℕ) → found ≡ filter (has_else words others) (range_with_len 0 (64 * place))
    → more ≡ found ++ filter (has_else words others) (indexes_of place) → more ≡ filter (has_else words others) (range_with_len 0 (64 * (place + 1)))
unfolding indexes_of
others_more words others place found more so is =
    let p = has_else words others in
    let sum : 64 * place + 64 ≡ 64 * (place + 1) = omega arith in
    let begun : 0 + 64 * place ≡ 64 * place = omega arith in
    is
    ∙ ap (λ xs. xs ++ filter p (range_with_len (64 * place) 64)) so
    ∙ sym (filter-append p (range_with_len 0 (64 * place)) (range_with_len (64 * place) 64))
    ∙ ap (λ b. filter p (range_with_len 0 (64 * place) ++ range_with_len b 64)) (sym begun)
    ∙ ap (filter p) (sym (ranges_join 0 (64 * place) 64))
    ∙ ap (λ n. filter p (range_with_len 0 n)) sum

-- a word without any
pub word_none : (words others : List ℕ) (place : ℕ) → get_or others place 0 < 2 ^ 64 → bit_and (get_or words place 0) (bit_not w64 (get_or others place 0)) ≡ 0
    → filter (has_else words others) (indexes_of place) ≡ []
unfolding indexes_of
word_none words others place fits none =
    none_between (has_else words others) (64 * place) 64 (λ k low high. nothing_else words others place k (omega (arith, low, high)) fits none)

pub word_whole : (words others : List ℕ) (place n : ℕ) → n ≡ 64 → filter (has_else words others) (range_with_len (64 * place) n) ≡ filter (has_else words others) (indexes_of place)
unfolding indexes_of
word_whole words others place n all = ap (λ n. filter (has_else words others) (range_with_len (64 * place) n)) all

-- ---- lists that become sets
pub or_assoc : (a b c : Bool) → ((a || b) || c) ≡ (a || (b || c))
or_assoc true b c = refl
or_assoc false b c = refl

pub or_none : (b : Bool) → b ≡ (b || false)
or_none true = refl
or_none false = refl

pub and_all : (b : Bool) → b ≡ (b && not false)
and_all true = refl
and_all false = refl

pub or_turned : (e n : ℕ) (b : Bool) → (e == n || b) ≡ (b || n == e)
or_turned e n b = grind (arith, nat_tests)

pub and_turned : (e n : ℕ) (s b : Bool) → ((s && not b) && not (e == n)) ≡ (s && not (b || n == e))
and_turned e n true true = refl
and_turned e n true false = grind (arith, nat_tests)
and_turned e n false b = refl

pub bits_more : (words others : List ℕ) (place bit number : ℕ) (start found more : List ℕ) (wanted : Bool) → number ≡ 64 * place + bit → wanted ≡ has_else words others number
    → found ≡ start ++ filter (has_else words others) (range_with_len (64 * place) bit) → more ≡ found ++ cond wanted (number ∷ []) []
    → more ≡ start ++ filter (has_else words others) (range_with_len (64 * place) (bit + 1))
bits_more words others place bit number start found more wanted at wants so is =
    let p = has_else words others in
    let next : ℕ = 64 * place + bit in
    is
    ∙ ap (λ b. found ++ cond b (number ∷ []) []) wants
    ∙ ap (λ n. found ++ cond (p n) (n ∷ []) []) at
    ∙ ap (λ xs. xs ++ cond (p next) (next ∷ []) []) so
    ∙ append_assoc start (filter p (range_with_len (64 * place) bit)) (cond (p next) (next ∷ []) [])
    ∙ ap (λ xs. start ++ xs) (sym (number_more p (64 * place) bit))

-- one more of a list is put into a set
pub puts_one : (e : ℕ) (xs : List ℕ) (i : ℕ) (was now rest : Bool) → i < length xs → now ≡ (e == get_or xs i 0 || was) → was ≡ (rest || list_any (λ x. x == e) (take i xs))
    → now ≡ (rest || list_any (λ x. x == e) (take (i + 1) xs))
puts_one e xs i was now rest low is so =
    is ∙ or_turned e (get_or xs i 0) was ∙ ap (λ b. b || get_or xs i 0 == e) so ∙ or_assoc rest (list_any (λ x. x == e) (take i xs)) (get_or xs i 0 == e)
    ∙ ap (λ b. rest || b) (sym (list_any_more (λ x. x == e) xs i 0 low))

-- and one more is taken out
pub takes_one : (e : ℕ) (xs : List ℕ) (i : ℕ) (was now all : Bool) → i < length xs → now ≡ (was && not (e == get_or xs i 0)) → was ≡ (all && not (list_any (λ x. x == e) (take i xs)))
    → now ≡ (all && not (list_any (λ x. x == e) (take (i + 1) xs)))
takes_one e xs i was now all low is so =
    is ∙ ap (λ b. b && not (e == get_or xs i 0)) so ∙ and_turned e (get_or xs i 0) all (list_any (λ x. x == e) (take i xs))
    ∙ ap (λ b. all && not b) (sym (list_any_more (λ x. x == e) xs i 0 low))
