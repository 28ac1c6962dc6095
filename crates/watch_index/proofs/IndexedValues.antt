-- The index of what values look out for, with one more and with one less.
use Rattle.std.specs.Prelude.{◌≡◌, ℕ, ◌+◌, ◌<◌, ◌==◌, not, ◌&&◌, ◌||◌, Bool, true, false, List, [], ◌∷◌, ◌++◌, All, length, slice_index_or}
use Rattle.std.specs.List.{AllPairs, list_any, remove}
use Rattle.std.proofs.Common.{refl, sym, ap, subst, ◌∙◌, arith, get_or, inl, inr}
use Rattle.std.proofs.lemmas.Bool.{and_parts, cases_lt}
use Rattle.std.proofs.lemmas.Bool.Decides.{Decides-eqb, nat_tests}
use Rattle.std.proofs.lemmas.List.Edits.{get_or-remove_above, get_or-remove_below, length-remove}
use Rattle.std.proofs.lemmas.List.Folds.{list_any-append, list_any_none}
use Rattle.std.proofs.lemmas.List.Sorted.{IsPermutation-remove, list_any-IsPermutation}
use Rattle.watch_index.specs.declared.occasion.Occasion.{Occasion}
use Rattle.watch_index.specs.Listed.{Adds, Drops, Listings, is_among, is_listed}

with_one : (a p q : Bool) → (a || (p && q)) ≡ (a || ((q && p) || false))
with_one true p q = refl
with_one false true true = refl
with_one false true false = refl
with_one false false true = refl
with_one false false false = refl

without_first : (a p q : Bool) → ((p && q) ≡ true → a ≡ false) → (((q && p) || a) && not (p && q)) ≡ a
without_first true true true alone = sym (alone refl)
without_first false true true alone = refl
without_first true true false alone = refl
without_first false true false alone = refl
without_first true false true alone = refl
without_first false false true alone = refl
without_first true false false alone = refl
without_first false false false alone = refl

-- the same under other names
pub adds_as : (ls new : Listings) (os ps : List Occasion) (n m : ℕ) → os ≡ ps → n ≡ m → Adds ls new (is_among os) n → Adds ls new (is_among ps) m
adds_as ls new os ps n m same_occasions same_number adds = subst (λ qs. Adds ls new (is_among qs) m) same_occasions (subst (λ k. Adds ls new (is_among os) k) same_number adds)

pub drops_as : (ls new : Listings) (os ps : List Occasion) (n m : ℕ) → os ≡ ps → n ≡ m → Drops ls new (is_among os) n → Drops ls new (is_among ps) m
drops_as ls new os ps n m same_occasions same_number drops = subst (λ qs. Drops ls new (is_among qs) m) same_occasions (subst (λ k. Drops ls new (is_among os) k) same_number drops)

below_apart : (a b : ℕ) → a < b → (a == b) ≡ false
below_apart a b l = grind (arith, nat_tests)

above_apart : (a b : ℕ) → b < a → (a == b) ≡ false
above_apart a b l = grind (arith, nat_tests)

module _ {X : Type 0} (number : X → ℕ) (occasions : X → List Occasion) where
  abbrev pub looks : ℕ → Occasion → X → Bool
  looks n o x = number x == n && is_among (occasions x) o

  abbrev pub AreIndexed : Listings → List X → Type 0
  AreIndexed ls xs = (o : Occasion) (n : ℕ) → is_listed ls o n ≡ list_any (looks n o) xs

  -- where none has a number, none with it looks out for anything
  nobody : (n : ℕ) (o : Occasion) (xs : List X) → All (λ x. (number x == n) ≡ false) xs → list_any (looks n o) xs ≡ false
  nobody n o xs other = list_any_none (looks n o) xs (λ k d l. ap (λ b. b && is_among (occasions (get_or xs k d)) o) (other k d l))

  none_above : (n : ℕ) (o : Occasion) (xs : List X) → All (λ x. number x < n) xs → list_any (looks n o) xs ≡ false
  none_above n o xs above = nobody n o xs (λ k d l. below_apart (number (get_or xs k d)) n (above k d l))

  module _ (ls new : Listings) (xs : List X) where
    -- a number above all is listed for nothing
    pub free : AreIndexed ls xs → (n : ℕ) → All (λ x. number x < n) xs → (o : Occasion) → is_listed ls o n ≡ false
    free indexed n above o = indexed o n ∙ none_above n o xs above

    module _ (x : X) where
      pub entered : AreIndexed ls xs → Adds ls new (is_among (occasions x)) (number x) → AreIndexed new (xs ++ x ∷ [])
      entered indexed adds o n =
          adds o n ∙ (λ i. indexed o n i || (is_among (occasions x) o && number x == n))
          ∙ with_one (list_any (looks n o) xs) (is_among (occasions x) o) (number x == n)
          ∙ sym (list_any-append (looks n o) xs (x ∷ []))

      -- one is taken out of a place
      module _ (k : ℕ) (within : k < length xs) (there : (d : X) → slice_index_or xs k d ≡ x) (rise : AllPairs (λ a b. number a < number b) xs) where
        abbrev rest : List X
        rest = remove xs k

        others : (n : ℕ) → number x ≡ n → All (λ y. (number y == n) ≡ false) rest
        others n same j d l = elim (cases_lt j k) [
          | inl low ↦
              ap (λ y. number y == n) (get_or-remove_below xs k d j low within)
              ∙ below_apart (number (get_or xs j d)) n (subst (λ m. number (get_or xs j d) < m) (ap number (there d) ∙ same) (rise j k d low within))
          | inr high ↦
              let more : j + 1 < length xs = omega (arith, l, length-remove xs k within) in
              ap (λ y. number y == n) (get_or-remove_above xs k d j high within)
              ∙ above_apart (number (get_or xs (j + 1) d)) n (subst (λ m. m < number (get_or xs (j + 1) d)) (ap number (there d) ∙ same) (rise k (j + 1) d (omega (arith, high)) more))
        ]

        split : (n : ℕ) (o : Occasion) → list_any (looks n o) xs ≡ (looks n o x || list_any (looks n o) rest)
        split n o = list_any-IsPermutation (looks n o) xs (x ∷ rest) (IsPermutation-remove xs k x within (sym (there x)))

        pub taken_out : AreIndexed ls xs → Drops ls new (is_among (occasions x)) (number x) → AreIndexed new (remove xs k)
        taken_out indexed drops o n =
            drops o n ∙ (λ i. (indexed o n ∙ split n o) i && not (is_among (occasions x) o && number x == n))
            ∙ without_first (list_any (looks n o) rest) (is_among (occasions x) o) (number x == n)
            (λ both. nobody n o rest (others n ((Decides-eqb (number x) n).0 (and_parts (is_among (occasions x) o) (number x == n) both).1)))
