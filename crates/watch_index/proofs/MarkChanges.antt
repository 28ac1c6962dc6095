-- What one more mark changes, and that marks stay true to the lists.
use Rattle.std.specs.Prelude.{◌==◌, ◌&&◌, ◌||◌, not, unwrap_or}
use Rattle.std.specs.Int.{bit_at}
use Rattle.std.specs.Map.{lookup}
use Rattle.std.specs.Option.{option_map_or}
use Rattle.std.proofs.Common.{◌≡◌, ℕ, zero, suc, ◌+◌, ◌/◌, ◌%◌, ◌<◌, ◌≤◌, Bool, true, false, List, [], ◌∷◌, ◌++◌, append-nil, length, get_or, replicate, slice_index_or, take, Option, Some, None, sym, ap, ◌∙◌, eq-eqb, refl, true≢false}
use Rattle.std.proofs.lemmas.Bool.{or_parts}
use Rattle.std.proofs.lemmas.List.{take_all}
use Rattle.std.proofs.lemmas.List.Folds.{list_any_more}
use Rattle.std.proofs.lemmas.Nat.Bits.{bit_at-zero}
use Rattle.component_index.proofs.ListedLemmas.{or_none}
use Rattle.watch_index.specs.declared.occasion.Occasion.{Occasion}
use Rattle.watch_index.specs.Listed.{Adds, AreMarked, Drops, Keeps, Listings, has as has_number, is_among, is_listed, listed, shares_mark}
use Rattle.ecs_model.specs.BitWords.{has_bit}
use Rattle.watch_index.specs.Marks.{mark_of}
use Rattle.watch_index.specs.SameOccasion.{occasion_eq, same_occasion}

-- ---- bits in words
-- where no word has a bit, none is set
zeros : (n k : ℕ) → ◌≡◌ {A = ℕ} (get_or (replicate n 0) k 0) 0
zeros zero k = refl
zeros (suc n) zero = refl
zeros (suc n) (suc k) = zeros n k

pub none_set : (n e : ℕ) → has_bit (replicate n 0) e ≡ false
unfolding has_bit
none_set n e = ap (λ x. bit_at x (e % 64) == 1) (zeros n (e / 64)) ∙ ap (λ b. b == 1) (bit_at-zero (e % 64))

-- ---- marks of one occasion after another
either_way : (h s t : Bool) → (t || (h || s)) ≡ (h || (s || t))
either_way true s true = refl
either_way true s false = refl
either_way false true true = refl
either_way false true false = refl
either_way false false true = refl
either_way false false false = refl

-- the marks of the first of these are set, and those that were set before
abbrev pub AreSet : List ℕ → List ℕ → List Occasion → Type 0
AreSet old new os = (m : ℕ) → has_bit new m ≡ (has_bit old m || shares_mark os m)

pub none_added : (words : List ℕ) → AreSet words words []
none_added words m = or_none (has_bit words m)

module _ (old mid new : List ℕ) (os : List Occasion) (i : ℕ) (d x : Occasion) (is : x ≡ slice_index_or os i d) (within : i < length os) where
  pub one_added : AreSet old mid (take i os) → (k : ℕ) → k ≡ mark_of x → ((m : ℕ) → has_bit new m ≡ (m == k || has_bit mid m)) → AreSet old new (take (i + 1) os)
  one_added were k mark step m =
      step m ∙ (λ j. m == mark j || were m j)
      ∙ either_way (has_bit old m) (shares_mark (take i os) m) (m == mark_of x)
      ∙ (λ j. has_bit old m || (shares_mark (take i os) m || m == mark_of (is j)))
      ∙ ap (λ b. has_bit old m || b) (sym (list_any_more (λ one. m == mark_of one) os i d within))

pub all_added : (old new : List ℕ) (os : List Occasion) (i : ℕ) → length os ≤ i → AreSet old new (take i os) → AreSet old new os
all_added old new os i e h m = h m ∙ ap (λ ps. has_bit old m || shares_mark ps m) (take_all i os e)

-- ---- marks and lists
-- an occasion whose mark none of these has is none of them
none_of_these : (os : List Occasion) (o : Occasion) → shares_mark os (mark_of o) ≡ false → is_among os o ≡ false
none_of_these [] o h = refl
none_of_these (one ∷ os) o h =
    let parts = or_parts (mark_of o == mark_of one) (shares_mark os (mark_of o)) h in
    by (occasion_eq one o) refl parts.0 (none_of_these os o parts.1)
  where
    by : (b : Bool) → occasion_eq one o ≡ b → (mark_of o == mark_of one) ≡ false → is_among os o ≡ false → (b || is_among os o) ≡ false
    by true e apart rest = absurd (true≢false (sym (eq-eqb (mark_of o) (mark_of one) (ap mark_of (sym (same_occasion one o e)))) ∙ apart))
    by false e apart rest = rest

module _ (words more : List ℕ) (os : List Occasion) (set_all : AreSet words more os) (ls : Listings) (were : AreMarked words ls) (number : ℕ) where
  unset : (o : Occasion) → has_bit more (mark_of o) ≡ false → (has_bit words (mark_of o) ≡ false) × (is_among os o ≡ false)
  unset o h =
      let parts = or_parts (has_bit words (mark_of o)) (shares_mark os (mark_of o)) (sym (set_all (mark_of o)) ∙ h) in
      (parts.0, none_of_these os o parts.1)

  pub marked_more : (new : Listings) → Adds ls new (is_among os) number → AreMarked more new
  marked_more new adds o n h =
      let parts = unset o h in
      adds o n ∙ (λ i. were o n parts.0 i || (parts.1 i && number == n))

  pub marked_still : (mid new : Listings) → Keeps ls mid (is_among os) number → Drops mid new (is_among os) number → AreMarked more new
  marked_still mid new keeps drops o n h =
      let parts = unset o h in
      drops o n ∙ (λ i. (keeps o n (λ j. parts.1 j && number == n) ∙ were o n parts.0) i && not (is_among os o && number == n))

-- where nothing is listed, no mark is needed
pub none_marked : (words : List ℕ) (ls : Listings) → ls ≡ [] → AreMarked words ls
none_marked words ls none o n h = ap (λ ms. is_listed ms o n) none

-- what has no mark has no numbers
pub unmarked : (words : List ℕ) (ls : Listings) → AreMarked words ls → (o : Occasion) → has_bit words (mark_of o) ≡ false → listed ls o ≡ []
unmarked words ls were o h = by (lookup (occasion_eq o) ls) (λ n. were o n h)
  where
    by : (found : Option (List ℕ)) → ((n : ℕ) → option_map_or (λ ns. has_number ns n) found false ≡ false) → unwrap_or found [] ≡ []
    by None none = refl
    by (Some []) none = refl
    by (Some (x ∷ xs)) none = absurd (true≢false (sym (ap (λ b. b || has_number xs x) (eq-eqb x x refl)) ∙ none x))

pub none_pushed : (words : List ℕ) (ls seen : Listings) → ls ≡ seen → AreMarked words ls → (o : Occasion) → has_bit words (mark_of o) ≡ false → (ns : List ℕ) → ns ≡ ns ++ listed seen o
none_pushed words ls seen same were o h ns = sym (ap (λ ms. ns ++ listed ms o) (sym same) ∙ ap (λ ms. ns ++ ms) (unmarked words ls were o h) ∙ append-nil ns)
