-- The numbers of words, with one more and with one less.
use Rattle.std.specs.Prelude.{◌≢◌, ◌==◌, ◌||◌, ◌↔◌, All, IfErr, IfOk}
use Rattle.std.specs.List.{AllPairs, insert, list_any, remove}
use Rattle.std.specs.List.Sorted.{IsBinarySearchResult, IsSearchInRange, IsSortedBy}
use Rattle.std.specs.Ordering.{is_lt, nat_cmp}
use Rattle.std.specs.declared.cmp.Ordering.TheVariants.{Less, Greater}
use Rattle.std.specs.Cmp.{nat_cmp_total}
use Rattle.std.specs.FinMap.{nat_cmp-IsAntisymmetric}
use Rattle.std.proofs.Common.{◌≡◌, ℕ, zero, suc, ◌+◌, ◌-◌, ◌/◌, ◌<◌, Bool, true, false, cond, true≢false, List, [], ◌∷◌, ◌++◌, drop, length, get_or, set, take, Result, Ok, Err, refl, sym, ap, subst, ◌∙◌, inl, inr, arith, eq-eqb}
use Rattle.std.proofs.lemmas.Bool.{cases_eq, cases_lt}
use Rattle.std.proofs.lemmas.Bool.Decides.{Decides-eqb, nat_tests}
use Rattle.std.proofs.lemmas.List.{drop-set-lt, get_or-set_other, get_or-set_same, length-append, length-set, nil_from_length, take-set}
use Rattle.std.proofs.lemmas.List.Edits.{get_or-insert_above, get_or-insert_at, get_or-insert_below, length-insert}
use Rattle.std.proofs.lemmas.List.Elements.{All-append, All-cons, All-drop, All-get_or, All-head, All-nil, All-set, All-take}
use Rattle.std.proofs.lemmas.List.Folds.{list_any-append, list_any_at, list_any_none}
use Rattle.std.proofs.lemmas.List.Quantifiers.{all_pairs_remove}
use Rattle.std.proofs.lemmas.List.Sorted.{All-permutation, IsPermutation-insert, IsPermutation-remove, list_any-IsPermutation, searchable_from_sorted}
use Rattle.watch_index.specs.declared.words.Word.{Word}
use Rattle.watch_index.specs.Listed.{Loses, has}
use Rattle.watch_index.specs.Words.{AreWords, Fits, IsBefore, IsFull, IsPlaceFor, IsWordOf, numbers_in, numbers_of}
use Rattle.watch_index.proofs.WordNumbers.{other_block}

abbrev block_of : Word → ℕ
block_of w = w.block

-- ---- numbers
turned : (a b : ℕ) → (a == b) ≡ (b == a)
turned a b = grind (arith, nat_tests)

or_cond : (t h : Bool) → (t || h) ≡ cond t true h
or_cond true h = refl
or_cond false h = refl

-- one number has itself
pub one_has : (x n : ℕ) → has (x ∷ []) n ≡ cond (x == n) true false
one_has x n = ap (λ b. b || false) (turned n x) ∙ or_cond (x == n) false

pub one_full : (w : Word) (x : ℕ) → numbers_of w ≡ x ∷ [] → IsFull w
one_full w x one none = let no : x ∷ [] ≡ [] = sym one ∙ none in cc

some_number : (ns : List ℕ) (n : ℕ) → has ns n ≡ true → ns ≢ []
some_number ns n h e = true≢false (sym h ∙ ap (λ xs. has xs n) e)

pub more_full : (v : Word) (number : ℕ) (old : List ℕ) → ((n : ℕ) → has (numbers_of v) n ≡ cond (number == n) true (has old n)) → IsFull v
more_full v number old more = some_number (numbers_of v) number (more number ∙ ap (λ c. cond c true (has old number)) (eq-eqb number number refl))

has_among : (ws : List Word) (n : ℕ) → has (numbers_in ws) n ≡ list_any (λ w. has (numbers_of w) n) ws
has_among [] n = refl
has_among (w ∷ ws) n = list_any-append (λ m. n == m) (numbers_of w) (numbers_in ws) ∙ ap (λ b. has (numbers_of w) n || b) (has_among ws n)

pub none_listed : (ws : List Word) → All IsFull ws → (length ws ≡ 0) ↔ (length (numbers_in ws) ≡ 0)
none_listed [] full = (λ e. refl, λ e. refl)
none_listed (w ∷ ws) full = (
  λ e. absurd (omega (arith, e)),
  λ e. absurd (All-head IsFull w ws full (nil_from_length (numbers_of w) (omega (arith, e, length-append (numbers_of w) (numbers_in ws))))),
)

-- ---- where the word of a block stands
less_is : (a b : ℕ) → nat_cmp a b ≡ Less → a < b
less_is a b e = grind (arith, nat_tests)

greater_is : (a b : ℕ) → nat_cmp a b ≡ Greater → b < a
greater_is a b e = grind (arith, nat_tests)

not_less : (a b : ℕ) → b < a → is_lt (nat_cmp a b) ≡ false
not_less a b l = grind (arith, nat_tests)

module _ (ws : List Word) (rise : AllPairs IsBefore ws) where
  in_order : IsSortedBy (λ v w. is_lt (nat_cmp (block_of v) (block_of w))) ws
  in_order k d low l = not_less (block_of (get_or ws (k + 1) d)) (block_of (get_or ws k d)) (rise k (k + 1) d (omega arith) l)

  pub found_by : (b : ℕ) (r : Result ℕ ℕ) → IsSearchInRange r (length ws) → IsBinarySearchResult (λ w. nat_cmp (block_of w) b) ws r → IfOk r (IsWordOf ws b) × IfErr r (IsPlaceFor ws b)
  found_by b (Ok i) within search = (record { within = within; is = λ d. nat_cmp-IsAntisymmetric (block_of (get_or ws i d)) b (search d) }, tt)
  found_by b (Err i) within search =
      let point = search (searchable_from_sorted nat_cmp_total block_of ws b in_order) in (
        tt,
        record {
          within = within;
          below = λ k d l. less_is (block_of (get_or ws k d)) b (point.0 k d (omega arith) l);
          above = λ k d l m. greater_is (block_of (get_or ws k d)) b (point.1 k d l m);
        },
      )

  one_place : (k i : ℕ) (d : Word) → k < length ws → i < length ws → block_of (get_or ws k d) ≡ block_of (get_or ws i d) → k ≡ i
  one_place k i d lk li same =
      elim (cases_lt k i) [
        | inl less ↦ absurd (omega (arith, rise k i d less li, same))
        | inr more ↦ elim (cases_lt i k) [
          | inl less ↦ absurd (omega (arith, rise i k d less lk, same))
          | inr none ↦ omega (arith, more, none)
        ]
      ]

-- of a list that is the same
pub word_there : {us ws : List Word} {b i : ℕ} → us ≡ ws → IsWordOf us b i → IsWordOf ws b i
word_there {b = b} {i = i} e there = subst (λ (xs : List Word). IsWordOf xs b i) e there

pub place_there : {us ws : List Word} {b i : ℕ} → us ≡ ws → IsPlaceFor us b i → IsPlaceFor ws b i
place_there {b = b} {i = i} e there = subst (λ (xs : List Word). IsPlaceFor xs b i) e there

-- ---- a word in the place of another of its block
any_set : {X : Type 0} (f : X → Bool) (xs : List X) (i : ℕ) (v d : X) → f v ≡ f (get_or xs i d) → list_any f (set xs i v) ≡ list_any f xs
any_set f [] i v d e = refl
any_set f (x ∷ xs) zero v d e = ap (λ b. b || list_any f xs) e
any_set f (x ∷ xs) (suc i) v d e = ap (λ b. f x || b) (any_set f xs i v d e)

module _ (ws : List Word) (i b : ℕ) (place : IsWordOf ws b i) (v : Word) (own : v.block ≡ b) where
  same_block : (k : ℕ) (d : Word) → block_of (get_or (set ws i v) k d) ≡ block_of (get_or ws k d)
  same_block k d =
      elim (cases_eq k i) [
        | inl here ↦
            ap (λ j. block_of (get_or (set ws i v) j d)) here ∙ ap block_of (get_or-set_same ws i v d place.within) ∙ own ∙ sym (place.is d)
            ∙ ap (λ j. block_of (get_or ws j d)) (sym here)
        | inr other ↦ ap block_of (get_or-set_other ws i k v d other)
      ]

  pub words_set : AreWords ws → IsFull v → AreWords (set ws i v)
  words_set are full = record {
    rise = λ j k d less l. omega (arith, same_block j d, same_block k d, are.rise j k d less (omega (arith, l, length-set ws i v)));
    fit = All-set Fits ws i v (omega (arith, All-get_or Fits ws i v place.within are.fit, place.is v, own)) are.fit;
    full = All-set IsFull ws i v full are.full;
  }

-- with one more number
module _ (ws : List Word) (i : ℕ) (within : i < length ws) (v d : Word) (number : ℕ) (more : (n : ℕ) → has (numbers_of v) n ≡ cond (number == n) true (has (numbers_of (get_or ws i d)) n)) where
  pub more_in : (n : ℕ) → has (numbers_in (set ws i v)) n ≡ cond (number == n) true (has (numbers_in ws) n)
  more_in n = by (number == n) refl
    where
      by : (c : Bool) → (number == n) ≡ c → has (numbers_in (set ws i v)) n ≡ cond c true (has (numbers_in ws) n)
      by true e =
          has_among (set ws i v) n
          ∙ list_any_at (λ w. has (numbers_of w) n) (set ws i v) i v (omega (arith, within, length-set ws i v))
          (ap (λ w. has (numbers_of w) n) (get_or-set_same ws i v v within) ∙ more n ∙ ap (λ c. cond c true (has (numbers_of (get_or ws i d)) n)) e)
      by false e =
          has_among (set ws i v) n
          ∙ any_set (λ w. has (numbers_of w) n) ws i v d (more n ∙ ap (λ c. cond c true (has (numbers_of (get_or ws i d)) n)) e)
          ∙ sym (has_among ws n)

-- with one less
module _ (ws : List Word) (rise : AllPairs IsBefore ws) (i number : ℕ) (place : IsWordOf ws (number / 64) i) (v d : Word) (less : Loses (numbers_of (get_or ws i d)) (numbers_of v) number) where
  gone : (n : ℕ) → number ≡ n → (number == n) ≡ true → has (numbers_in (set ws i v)) n ≡ false
  gone n same e =
      has_among (set ws i v) n
      ∙ list_any_none (λ w. has (numbers_of w) n) (set ws i v) (λ k f l. elim (cases_eq k i) [
        | inl here ↦
            ap (λ j. has (numbers_of (get_or (set ws i v) j f)) n) here ∙ ap (λ w. has (numbers_of w) n) (get_or-set_same ws i v f place.within)
            ∙ less n ∙ ap (λ c. cond c false (has (numbers_of (get_or ws i d)) n)) e
        | inr other ↦
            let low : k < length ws = omega (arith, l, length-set ws i v) in
            let its = get_or ws k f in
            ap (λ w. has (numbers_of w) n) (get_or-set_other ws i k v f other)
            ∙ other_block its.block its.bits n (λ at. other (one_place ws rise k i f low place.within (at ∙ ap (λ m. m / 64) (sym same) ∙ sym (place.is f))))
      ])

  pub less_in : Loses (numbers_in ws) (numbers_in (set ws i v)) number
  less_in n = by (number == n) refl
    where
      by : (c : Bool) → (number == n) ≡ c → has (numbers_in (set ws i v)) n ≡ cond c false (has (numbers_in ws) n)
      by true e = gone n ((Decides-eqb number n).0 e) e
      by false e =
          has_among (set ws i v) n
          ∙ any_set (λ w. has (numbers_of w) n) ws i v d (less n ∙ ap (λ c. cond c false (has (numbers_of (get_or ws i d)) n)) e)
          ∙ sym (has_among ws n)

  -- where the word has no other, it is left out
  pub none_in : numbers_of v ≡ [] → Loses (numbers_in ws) (numbers_in (remove ws i)) number
  none_in none n =
      let long : i < length (set ws i v) = omega (arith, place.within, length-set ws i v) in
      let left : remove (set ws i v) i ≡ remove ws i = λ j. take-set ws i v j ++ drop-set-lt (suc i) ws i v (omega arith) j in
      let at : v ≡ get_or (set ws i v) i v = sym (get_or-set_same ws i v v place.within) in
      has_among (remove ws i) n
      ∙ ap (list_any (λ w. has (numbers_of w) n)) (sym left)
      ∙ ap (λ c. c || list_any (λ w. has (numbers_of w) n) (remove (set ws i v) i)) (ap (λ ns. has ns n) (sym none))
      ∙ sym (list_any-IsPermutation (λ w. has (numbers_of w) n) (set ws i v) (v ∷ remove (set ws i v) i) (IsPermutation-remove (set ws i v) i v long at))
      ∙ sym (has_among (set ws i v) n)
      ∙ less_in n

-- ---- one more word
joined : (t h : Bool) → (cond t true false || h) ≡ cond t true h
joined true h = refl
joined false h = refl

module _ (ws : List Word) (i : ℕ) (v : Word) (place : IsPlaceFor ws v.block i) where
  low : (k : ℕ) (d : Word) → k < i → block_of (get_or (insert ws i v) k d) ≡ block_of (get_or ws k d)
  low k d l = ap block_of (get_or-insert_below ws i v d k l place.within)

  here : (k : ℕ) (d : Word) → k ≡ i → block_of (get_or (insert ws i v) k d) ≡ v.block
  here k d e = ap (λ j. block_of (get_or (insert ws i v) j d)) e ∙ ap block_of (get_or-insert_at ws i v d place.within)

  high : (k : ℕ) (d : Word) → i < k → block_of (get_or (insert ws i v) k d) ≡ block_of (get_or ws (k - 1) d)
  high k d l =
      let e : k ≡ k - 1 + 1 = omega (arith, l) in
      ap (λ j. block_of (get_or (insert ws i v) j d)) e ∙ ap block_of (get_or-insert_above ws i v d (k - 1) (omega (arith, l)) place.within)

  rises_still : AllPairs IsBefore ws → AllPairs IsBefore (insert ws i v)
  rises_still rise j k d less l =
      let m : k < length ws + 1 = omega (arith, l, length-insert ws i v place.within) in
      elim (cases_lt j i) [
        | inl j_low ↦ elim (cases_lt k i) [
          | inl k_low ↦ omega (arith, low j d j_low, low k d k_low, rise j k d less (omega (arith, k_low, place.within)))
          | inr k_high ↦ elim (cases_lt i k) [
            | inl k_past ↦ omega (arith, low j d j_low, high k d k_past, rise j (k - 1) d (omega (arith, j_low, k_past)) (omega (arith, m, k_past)))
            | inr k_here ↦ omega (arith, low j d j_low, here k d (omega (arith, k_high, k_here)), place.below j d j_low)
          ]
        ]
        | inr j_high ↦ elim (cases_lt i j) [
          | inl j_past ↦
              omega (arith, high j d j_past, high k d (omega (arith, j_past, less)), rise (j - 1) (k - 1) d (omega (arith, j_past, less)) (omega (arith, m, j_past, less)))
          | inr j_here ↦
              omega (arith, here j d (omega (arith, j_high, j_here)), high k d (omega (arith, j_high, less)), place.above (k - 1) d (omega (arith, j_high, less)) (omega (arith, m, j_high, less)))
        ]
      ]

  pub words_insert : AreWords ws → Fits v → IsFull v → AreWords (insert ws i v)
  words_insert are fits full = record {
    rise = rises_still are.rise;
    fit = All-permutation Fits (v ∷ ws) (insert ws i v) (IsPermutation-insert ws i v) (All-cons Fits v ws fits are.fit);
    full = All-permutation IsFull (v ∷ ws) (insert ws i v) (IsPermutation-insert ws i v) (All-cons IsFull v ws full are.full);
  }

  pub one_in : (number : ℕ) → numbers_of v ≡ number ∷ [] → (n : ℕ) → has (numbers_in (insert ws i v)) n ≡ cond (number == n) true (has (numbers_in ws) n)
  one_in number one n =
      let f : Word → Bool = λ w. has (numbers_of w) n in
      has_among (insert ws i v) n
      ∙ sym (list_any-IsPermutation f (v ∷ ws) (insert ws i v) (IsPermutation-insert ws i v))
      ∙ ap (λ c. c || list_any f ws) (ap (λ ns. has ns n) one ∙ one_has number n)
      ∙ joined (number == n) (list_any f ws)
      ∙ ap (λ c. cond (number == n) true c) (sym (has_among ws n))

-- ---- a word less
pub words_remove : (ws : List Word) (i : ℕ) → i < length ws → AreWords ws → AreWords (remove ws i)
words_remove ws i within are = record {
  rise = all_pairs_remove IsBefore ws i within are.rise;
  fit = All-append Fits (take i ws) (drop (suc i) ws) (All-take Fits i ws are.fit) (All-drop Fits (suc i) ws are.fit);
  full = All-append IsFull (take i ws) (drop (suc i) ws) (All-take IsFull i ws are.full) (All-drop IsFull (suc i) ws are.full);
}

-- a number without a word isn't there to be lost
pub nothing_lost : (ws : List Word) (i number : ℕ) → IsPlaceFor ws (number / 64) i → Loses (numbers_in ws) (numbers_in ws) number
nothing_lost ws i number place n = by (number == n) refl
  where
    missing : has (numbers_in ws) number ≡ false
    missing =
        has_among ws number
        ∙ list_any_none (λ w. has (numbers_of w) number) ws (λ k d l.
        let its = get_or ws k d in
        other_block its.block its.bits number (λ at. elim (cases_lt k i) [
          | inl less ↦ omega (arith, place.below k d less, at)
          | inr more ↦ omega (arith, place.above k d more l, at)
        ]))

    by : (c : Bool) → (number == n) ≡ c → has (numbers_in ws) n ≡ cond c false (has (numbers_in ws) n)
    by true e = ap (has (numbers_in ws)) (sym ((Decides-eqb number n).0 e)) ∙ missing
    by false e = refl

-- ---- one word
pub words_one : (v : Word) → Fits v → IsFull v → AreWords (v ∷ [])
words_one v fits full = record {
  rise = λ j k d less l. absurd (omega (arith, less, l));
  fit = All-cons Fits v [] fits (All-nil Fits);
  full = All-cons IsFull v [] full (All-nil IsFull);
}
