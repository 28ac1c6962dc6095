-- Facts that ascend, split after those of the first entity.
use Rattle.std.proofs.Common.{◌≡◌, ℕ, zero, suc, ◌+◌, ◌≤◌, ◌==◌, ◌⊎◌, inl, inr, Bool, true, false, true≢false, cond, not, ◌&&◌, ◌||◌, List, [], ◌∷◌, ◌++◌, map, length, take, drop, Some, None, refl, sym, ap, subst, ◌∙◌, arith}
use Rattle.std.specs.Prelude.{if◌then◌else◌, min, nat_le, nat_lt}
use Rattle.std.specs.List.{AllByRecursion, cons_option, list_all, prefix_len}
use Rattle.std.specs.List.Sorted.{IsStrictlySortedBy}
use Rattle.std.specs.Cmp.{nat_cmp_total}
use Rattle.std.specs.Ordering.{is_eq, is_lt, nat_cmp, ordering_then}
use Rattle.std.specs.declared.cmp.Ordering.{Ordering}
use Rattle.std.specs.declared.cmp.Ordering.TheVariants.{Less, Equal, Greater}
use Rattle.std.specs.FinMap.{nat_cmp-IsAntisymmetric}
use Rattle.std.specs.FinMap.Entries.{is_sorted, below_all}
use Rattle.std.proofs.lemmas.Bool.Decides.{Decides-eqb, nat_tests}
use Rattle.std.proofs.lemmas.Cmp.{tied_itself}
use Rattle.std.proofs.lemmas.List.{append-nil}
use Rattle.std.proofs.lemmas.List.Elements.{filter_map-append}
use Rattle.std.proofs.lemmas.List.Folds.{list_any-append}
pub use Rattle.std.proofs.lemmas.Bool.{eqb-true as same_of}
use Rattle.std.proofs.lemmas.Bool.{not-true}
use Rattle.ecs_id.specs.Id.{Id, id_cmp, id_eq}
use Rattle.ecs_model.specs.FactOrder.{key_cmp_seen}
use Rattle.ecs_model.specs.World.{Key, key_cmp, key_eq}
use Rattle.ecs_model.proofs.Maps.{both_true, less as lt_is}
use Rattle.ecs_archetypes.specs.FactChanges.{Coming, coming_to, first_entity, goes_from, ids_among, ids_coming, is_among}
use Rattle.ecs_archetypes.proofs.MapLists.{both}

-- numbers and their tests
lt_from : (e n : ℕ) → nat_le e n ≡ true → (n == e) ≡ false → nat_lt e n ≡ true
lt_from e n h k = grind (arith, nat_tests)

lt_then : (e n m : ℕ) → nat_lt e n ≡ true → nat_le n m ≡ true → nat_lt e m ≡ true
lt_then e n m h k = grind (arith, nat_tests)

le_then : (e n m : ℕ) → nat_le e n ≡ true → nat_le n m ≡ true → nat_le e m ≡ true
le_then e n m h k = grind (arith, nat_tests)

le_of : (e n : ℕ) → e ≤ n → nat_le e n ≡ true
le_of e n h = grind (arith, nat_tests)

-- the order of facts, by entity first
by_parts : (k q : Key) → key_cmp k q ≡ ordering_then (nat_cmp k.0 q.0) (id_cmp k.1 q.1)
by_parts k q = sym (key_cmp_seen k.0 q.0 k.1 q.1)

cmp_le : (a b : ℕ) (r s : Ordering) → nat_cmp a b ≡ r → is_lt (ordering_then r s) ≡ true → nat_le a b ≡ true
cmp_le a b Less s e h = grind (arith, nat_tests)
cmp_le a b Equal s e h = let same = nat_cmp-IsAntisymmetric a b e in le_of a b (omega (arith, same))
cmp_le a b Greater s e h = absurd (true≢false (sym h))

entity_le : (k q : Key) → is_lt (key_cmp k q) ≡ true → nat_le k.0 q.0 ≡ true
entity_le k q h = cmp_le k.0 q.0 (nat_cmp k.0 q.0) (id_cmp k.1 q.1) refl (ap is_lt (sym (by_parts k q)) ∙ h)

tied : (a b : ℕ) → a ≡ b → nat_cmp a b ≡ Equal
tied a b same = ap (nat_cmp a) (sym same) ∙ tied_itself nat_cmp_total a

pub id_lt : (k q : Key) → k.0 ≡ q.0 → is_lt (key_cmp k q) ≡ true → is_lt (id_cmp k.1 q.1) ≡ true
id_lt k q same h = ap (λ r. is_lt (ordering_then r (id_cmp k.1 q.1))) (sym (tied k.0 q.0 same)) ∙ ap is_lt (sym (by_parts k q)) ∙ h

module _ {X : Type 0} where
  pub all_split : (test : X → Bool) (n : ℕ) (xs : List X) → list_all test xs ≡ true → (list_all test (take n xs) ≡ true) × (list_all test (drop n xs) ≡ true)
  all_split test zero xs h = (refl, h)
  all_split test (suc n) [] h = (refl, refl)
  all_split test (suc n) (x ∷ xs) h =
      let parts = both_true (test x) (list_all test xs) h in
      let rest = all_split test n xs parts.1 in
      (both (test x) (list_all test (take n xs)) parts.0 rest.0, rest.1)

  pub prefix_within : (p : X → Bool) (xs : List X) → prefix_len p xs ≤ length xs
  prefix_within p [] = omega arith
  prefix_within p (x ∷ xs) = by (p x) (prefix_within p xs)
    where
      by : (b : Bool) → prefix_len p xs ≤ length xs → cond b (1 + prefix_len p xs) 0 ≤ length (x ∷ xs)
      by true h = omega (arith, h)
      by false h = omega arith

  pub all_then : (p q : X → Bool) → ((x : X) → p x ≡ true → q x ≡ true) → (xs : List X) → list_all p xs ≡ true → list_all q xs ≡ true
  all_then p q f [] h = refl
  all_then p q f (x ∷ xs) h = let parts = both_true (p x) (list_all p xs) h in both (q x) (list_all q xs) (f x parts.0) (all_then p q f xs parts.1)

  module _ (key : X → Key) where
    abbrev pub ascend : List X → Bool
    ascend [] = true
    ascend (x ∷ xs) = list_all (λ y. is_lt (key_cmp (key x) (key y))) xs && ascend xs

    all_above : (x : X) (xs : List X) → AllByRecursion (λ k. key_cmp (key x) k ≡ Less) (map key xs) → list_all (λ y. is_lt (key_cmp (key x) (key y))) xs ≡ true
    all_above x [] h = refl
    all_above x (y ∷ xs) h = λ i. is_lt (h.0 i) && all_above x xs h.1 i

    pub ascend_from : (xs : List X) → IsStrictlySortedBy key_cmp (map key xs) → ascend xs ≡ true
    unfolding IsStrictlySortedBy
    ascend_from [] h = refl
    ascend_from (x ∷ xs) h = λ i. all_above x xs h.0 i && ascend_from xs h.1 i

    pub ascend_split : (n : ℕ) (xs : List X) → ascend xs ≡ true → (ascend (take n xs) ≡ true) × (ascend (drop n xs) ≡ true)
    ascend_split zero xs h = (refl, h)
    ascend_split (suc n) [] h = (refl, refl)
    ascend_split (suc n) (x ∷ xs) h =
        let parts = both_true (list_all (λ y. is_lt (key_cmp (key x) (key y))) xs) (ascend xs) h in
        let rest = ascend_split n xs parts.1 in
        (both (list_all (λ y. is_lt (key_cmp (key x) (key y))) (take n xs)) (ascend (take n xs)) (all_split (λ y. is_lt (key_cmp (key x) (key y))) n xs parts.0).0 rest.0, rest.1)

    pub from_first : (e : ℕ) (x : X) (xs : List X) → nat_le e (key x).0 ≡ true → ascend (x ∷ xs) ≡ true → list_all (λ y. nat_le e (key y).0) (x ∷ xs) ≡ true
    from_first e x xs low h =
        let parts = both_true (list_all (λ y. is_lt (key_cmp (key x) (key y))) xs) (ascend xs) h in
        both (nat_le e (key x).0) (list_all (λ y. nat_le e (key y).0) xs) low
        (all_then (λ y. is_lt (key_cmp (key x) (key y))) (λ y. nat_le e (key y).0) (λ y less. le_then e (key x).0 (key y).0 low (entity_le (key x) (key y) less)) xs parts.0)

    module _ (e : ℕ) where
      abbrev pub is_of : X → Bool
      is_of x = (key x).0 == e

      one_more : (x : X) (xs : List X) → take (1 + prefix_len is_of xs) (x ∷ xs) ≡ x ∷ take (prefix_len is_of xs) xs
      one_more x xs = let n : 1 + prefix_len is_of xs ≡ suc (prefix_len is_of xs) = omega arith in ap (λ n. take n (x ∷ xs)) n

      one_less : (x : X) (xs : List X) → drop (1 + prefix_len is_of xs) (x ∷ xs) ≡ drop (prefix_len is_of xs) xs
      one_less x xs = let n : 1 + prefix_len is_of xs ≡ suc (prefix_len is_of xs) = omega arith in ap (λ n. drop n (x ∷ xs)) n

      -- the first facts of an entity are its own
      pub front_of : (xs : List X) → list_all is_of (take (prefix_len is_of xs) xs) ≡ true
      front_of [] = refl
      front_of (x ∷ xs) = by (is_of x) refl (front_of xs)
        where
          by : (b : Bool) → is_of x ≡ b → list_all is_of (take (prefix_len is_of xs) xs) ≡ true → list_all is_of (take (cond b (1 + prefix_len is_of xs) 0) (x ∷ xs)) ≡ true
          by true own rest = ap (list_all is_of) (one_more x xs) ∙ both (is_of x) (list_all is_of (take (prefix_len is_of xs) xs)) own rest
          by false other rest = refl

      -- and the others are of entities above it, if none is below it
      pub behind_above : (xs : List X) → ascend xs ≡ true → list_all (λ y. nat_le e (key y).0) xs ≡ true → list_all (λ y. nat_lt e (key y).0) (drop (prefix_len is_of xs) xs) ≡ true
      behind_above [] up low = refl
      behind_above (x ∷ xs) up low =
          let ups = both_true (list_all (λ y. is_lt (key_cmp (key x) (key y))) xs) (ascend xs) up in
          let lows = both_true (nat_le e (key x).0) (list_all (λ y. nat_le e (key y).0) xs) low in
          by (is_of x) refl ups.0 lows.0 (behind_above xs ups.1 lows.1)
        where
          by : (b : Bool) → is_of x ≡ b → list_all (λ y. is_lt (key_cmp (key x) (key y))) xs ≡ true → nat_le e (key x).0 ≡ true → list_all (λ y. nat_lt e (key y).0) (drop (prefix_len is_of xs) xs) ≡ true
              → list_all (λ y. nat_lt e (key y).0) (drop (cond b (1 + prefix_len is_of xs) 0) (x ∷ xs)) ≡ true
          by true own less here rest = ap (list_all (λ y. nat_lt e (key y).0)) (one_less x xs) ∙ rest
          by false other less here rest =
              let high = lt_from e (key x).0 here other in
              both (nat_lt e (key x).0) (list_all (λ y. nat_lt e (key y).0) xs) high
              (all_then (λ y. is_lt (key_cmp (key x) (key y))) (λ y. nat_lt e (key y).0) (λ y l. lt_then e (key x).0 (key y).0 high (entity_le (key x) (key y) l)) xs less)

      pub some_first : (x : X) (xs : List X) → e ≡ (key x).0 → 1 ≤ prefix_len is_of (x ∷ xs)
      some_first x xs same = subst (λ b. 1 ≤ cond b (1 + prefix_len is_of xs) 0) (sym ((Decides-eqb (key x).0 e).1 (sym same))) (omega arith)

      -- one entity's facts ascend by id
      ids_above : (x : X) (ys : List X) → is_of x ≡ true → list_all is_of ys ≡ true → list_all (λ y. is_lt (key_cmp (key x) (key y))) ys ≡ true → list_all (λ y. is_lt (id_cmp (key x).1 (key y).1)) ys ≡ true
      ids_above x [] own owns less = refl
      ids_above x (y ∷ ys) own owns less =
          let o = both_true (is_of y) (list_all is_of ys) owns in
          let l = both_true (is_lt (key_cmp (key x) (key y))) (list_all (λ y. is_lt (key_cmp (key x) (key y))) ys) less in
          both (is_lt (id_cmp (key x).1 (key y).1)) (list_all (λ y. is_lt (id_cmp (key x).1 (key y).1)) ys)
          (id_lt (key x) (key y) (same_of (key x).0 e own ∙ sym (same_of (key y).0 e o.0)) l.0) (ids_above x ys own o.1 l.1)

-- the ids that come to one entity ascend
coming_above : (i : Id) (cs : Coming) → list_all (λ c. is_lt (id_cmp i c.0.1)) cs ≡ true → below_all id_cmp i (ids_coming cs) ≡ true
coming_above i [] h = refl
coming_above i (c ∷ cs) h = let parts = both_true (is_lt (id_cmp i c.0.1)) (list_all (λ c. is_lt (id_cmp i c.0.1)) cs) h in both (is_lt (id_cmp i c.0.1)) (below_all id_cmp i (ids_coming cs)) parts.0 (coming_above i cs parts.1)

pub coming_sorted : (e : ℕ) (cs : Coming) → list_all (λ c. c.0.0 == e) cs ≡ true → ascend (λ (c : Key × ℕ). c.0) cs ≡ true → is_sorted id_cmp (ids_coming cs) ≡ true
coming_sorted e [] owns up = refl
coming_sorted e (c ∷ cs) owns up =
    let o = both_true (c.0.0 == e) (list_all (λ c. c.0.0 == e) cs) owns in
    let u = both_true (list_all (λ y. is_lt (key_cmp c.0 y.0)) cs) (ascend (λ (c : Key × ℕ). c.0) cs) up in
    both (below_all id_cmp c.0.1 (ids_coming cs)) (is_sorted id_cmp (ids_coming cs)) (coming_above c.0.1 cs (ids_above (λ (c : Key × ℕ). c.0) e c cs o.0 o.1 u.0)) (coming_sorted e cs o.1 u.1)

-- and those that go
going_above : (i : Id) (ks : List Key) → list_all (λ k. is_lt (id_cmp i k.1)) ks ≡ true → AllByRecursion (λ j. id_cmp i j ≡ Less) (ids_among ks)
going_above i [] h = tt
going_above i (k ∷ ks) h = let parts = both_true (is_lt (id_cmp i k.1)) (list_all (λ k. is_lt (id_cmp i k.1)) ks) h in (lt_is (id_cmp i k.1) parts.0, going_above i ks parts.1)

pub going_sorted : (e : ℕ) (ks : List Key) → list_all (λ k. k.0 == e) ks ≡ true → ascend (λ (k : Key). k) ks ≡ true → IsStrictlySortedBy id_cmp (ids_among ks)
unfolding IsStrictlySortedBy
going_sorted e [] owns up = tt
going_sorted e (k ∷ ks) owns up =
    let o = both_true (k.0 == e) (list_all (λ k. k.0 == e) ks) owns in
    let u = both_true (list_all (λ y. is_lt (key_cmp k y)) ks) (ascend (λ (k : Key). k) ks) up in
    (going_above k.1 ks (ids_above (λ (k : Key). k) e k ks o.0 o.1 u.0), going_sorted e ks o.1 u.1)

-- the first entity is that of a fact, and none is below it
min_either : (a b : ℕ) → (min a b ≡ a) ⊎ (min a b ≡ b)
min_either a b = by (nat_le a b) refl
  where
    by : (t : Bool) → nat_le a b ≡ t → (min a b ≡ a) ⊎ (min a b ≡ b)
    by true h = inl (let le : a ≤ b = grind (arith, nat_tests) in omega (arith, le))
    by false h = inr (let le : b ≤ a = grind (arith, nat_tests) in omega (arith, le))

pub record IsFirst (comes : Coming) (goes : List Key) (e : ℕ) : Type 0 where
  pub comes_from : list_all (λ c. nat_le e c.0.0) comes ≡ true
  pub goes_above : list_all (λ k. nat_le e k.0) goes ≡ true
  pub some : 1 ≤ prefix_len (λ c. c.0.0 == e) comes + prefix_len (λ k. k.0 == e) goes
  pub named : (test : ℕ → Bool) → list_all (λ c. test c.0.0) comes ≡ true → list_all (λ k. test k.0) goes ≡ true → test e ≡ true

pub first_is : (comes : Coming) (goes : List Key) (e : ℕ) → first_entity comes goes ≡ Some e → ascend (λ (c : Key × ℕ). c.0) comes ≡ true → ascend (λ (k : Key). k) goes ≡ true → IsFirst comes goes e
first_is [] [] e is up rising = cc
first_is (c ∷ cs) [] e is up rising =
    let same : e ≡ c.0.0 = cc in
    let some = some_first (λ (c : Key × ℕ). c.0) e c cs same in
    record {
      comes_from = from_first (λ (c : Key × ℕ). c.0) e c cs (le_of e c.0.0 (omega (arith, same))) up;
      goes_above = refl;
      some = omega (arith, some);
      named = λ test there away. ap test same ∙ (both_true (test c.0.0) (list_all (λ c. test c.0.0) cs) there).0;
    }
first_is [] (k ∷ ks) e is up rising =
    let same : e ≡ k.0 = cc in
    let some = some_first (λ (k : Key). k) e k ks same in
    record {
      comes_from = refl;
      goes_above = from_first (λ (k : Key). k) e k ks (le_of e k.0 (omega (arith, same))) rising;
      some = omega (arith, some);
      named = λ test there away. ap test same ∙ (both_true (test k.0) (list_all (λ k. test k.0) ks) away).0;
    }
first_is (c ∷ cs) (k ∷ ks) e is up rising = by (min_either c.0.0 k.0)
  where
    least : e ≡ min c.0.0 k.0
    least = cc

    low : (e ≤ c.0.0) × (e ≤ k.0)
    low = let l = least in (omega (arith, l), omega (arith, l))

    some : (c.0.0 ≡ e) ⊎ (k.0 ≡ e) → 1 ≤ prefix_len (λ c. c.0.0 == e) (c ∷ cs) + prefix_len (λ k. k.0 == e) (k ∷ ks)
    some (inl same) = let a = some_first (λ (c : Key × ℕ). c.0) e c cs (sym same) in omega (arith, a)
    some (inr same) = let a = some_first (λ (k : Key). k) e k ks (sym same) in omega (arith, a)

    named : (c.0.0 ≡ e) ⊎ (k.0 ≡ e) → (test : ℕ → Bool) → list_all (λ c. test c.0.0) (c ∷ cs) ≡ true → list_all (λ k. test k.0) (k ∷ ks) ≡ true → test e ≡ true
    named (inl same) test there away = ap test (sym same) ∙ (both_true (test c.0.0) (list_all (λ c. test c.0.0) cs) there).0
    named (inr same) test there away = ap test (sym same) ∙ (both_true (test k.0) (list_all (λ k. test k.0) ks) away).0

    whole : (c.0.0 ≡ e) ⊎ (k.0 ≡ e) → IsFirst (c ∷ cs) (k ∷ ks) e
    whole one = record {
      comes_from = from_first (λ (c : Key × ℕ). c.0) e c cs (le_of e c.0.0 low.0) up;
      goes_above = from_first (λ (k : Key). k) e k ks (le_of e k.0 low.1) rising;
      some = some one;
      named = named one;
    }

    by : (min c.0.0 k.0 ≡ c.0.0) ⊎ (min c.0.0 k.0 ≡ k.0) → IsFirst (c ∷ cs) (k ∷ ks) e
    by (inl same) = whole (inl (sym same ∙ sym least))
    by (inr same) = whole (inr (sym same ∙ sym least))

-- what comes to an entity
pub coming_own : (e : ℕ) (cs : Coming) → list_all (λ c. c.0.0 == e) cs ≡ true → coming_to e cs ≡ ids_coming cs
coming_own e [] h = refl
coming_own e (c ∷ cs) h =
    let parts = both_true (c.0.0 == e) (list_all (λ c. c.0.0 == e) cs) h in
    λ i. cons_option (cond (parts.0 i) (Some (c.0.1, c.1)) None) (coming_own e cs parts.1 i)

pub coming_none : (d : ℕ) (cs : Coming) → list_all (λ c. not (c.0.0 == d)) cs ≡ true → coming_to d cs ≡ []
coming_none d [] h = refl
coming_none d (c ∷ cs) h =
    let parts = both_true (not (c.0.0 == d)) (list_all (λ c. not (c.0.0 == d)) cs) h in
    λ i. cons_option (cond (not-true (c.0.0 == d) parts.0 i) (Some (c.0.1, c.1)) None) (coming_none d cs parts.1 i)

-- and what goes from it
pub key_own : (e : ℕ) (i : Id) (k : Key) → (k.0 == e) ≡ true → key_eq (e, i) k ≡ id_eq i k.1
key_own e i k own = ap is_eq (by_parts (e, i) k) ∙ ap (λ r. is_eq (ordering_then r (id_cmp i k.1))) (tied e k.0 (sym (same_of k.0 e own)))

pub key_other : (d : ℕ) (i : Id) (k : Key) → not (k.0 == d) ≡ true → key_eq (d, i) k ≡ false
key_other d i k other = ap is_eq (by_parts (d, i) k) ∙ by (nat_cmp d k.0) refl
  where
    by : (r : Ordering) → nat_cmp d k.0 ≡ r → is_eq (ordering_then r (id_cmp i k.1)) ≡ false
    by Less is = refl
    by Equal is = absurd (true≢false (sym other ∙ ap not ((Decides-eqb k.0 d).1 (sym (nat_cmp-IsAntisymmetric d k.0 is)))))
    by Greater is = refl

pub going_own : (e : ℕ) (ks : List Key) → list_all (λ k. k.0 == e) ks ≡ true → (i : Id) → goes_from e ks i ≡ is_among (ids_among ks) i
going_own e [] h i = refl
going_own e (k ∷ ks) h i =
    let parts = both_true (k.0 == e) (list_all (λ k. k.0 == e) ks) h in
    λ j. key_own e i k parts.0 j || going_own e ks parts.1 i j

pub going_none : (d : ℕ) (ks : List Key) → list_all (λ k. not (k.0 == d)) ks ≡ true → (i : Id) → goes_from d ks i ≡ false
going_none d [] h i = refl
going_none d (k ∷ ks) h i =
    let parts = both_true (not (k.0 == d)) (list_all (λ k. not (k.0 == d)) ks) h in
    λ j. key_other d i k parts.0 j || going_none d ks parts.1 i j

not_above : (e n : ℕ) → nat_lt e n ≡ true → not (n == e) ≡ true
not_above e n h = grind (arith, nat_tests)

not_same : (e d n : ℕ) → (d == e) ≡ false → (n == e) ≡ true → not (n == d) ≡ true
not_same e d n other own = grind (arith, nat_tests)

le_more : (e n : ℕ) → nat_lt e n ≡ true → nat_le (e + 1) n ≡ true
le_more e n h = grind (arith, nat_tests)

or_off : (b d : Bool) → d ≡ false → (b || d) ≡ b
or_off true d h = refl
or_off false d h = h

-- one entity's facts come first, and then those of others above it
pub record AreSplit (e : ℕ) (comes first later : Coming) (goes these after : List Key) : Type 0 where
  pub own_coming : coming_to e comes ≡ ids_coming first
  pub other_coming : (d : ℕ) → (d == e) ≡ false → coming_to d comes ≡ coming_to d later
  pub no_coming : coming_to e later ≡ []
  pub own_going : (i : Id) → goes_from e goes i ≡ is_among (ids_among these) i
  pub other_going : (d : ℕ) → (d == e) ≡ false → (i : Id) → goes_from d goes i ≡ goes_from d after i
  pub no_going : (i : Id) → goes_from e after i ≡ false
  pub later_above : list_all (λ c. nat_le (e + 1) c.0.0) later ≡ true
  pub after_above : list_all (λ k. nat_le (e + 1) k.0) after ≡ true

pub split_there : (e : ℕ) (comes first later : Coming) (goes these after : List Key) → comes ≡ first ++ later → goes ≡ these ++ after → list_all (λ c. c.0.0 == e) first ≡ true → list_all (λ k. k.0 == e) these ≡ true
    → list_all (λ c. nat_lt e c.0.0) later ≡ true → list_all (λ k. nat_lt e k.0) after ≡ true → AreSplit e comes first later goes these after
split_there e comes first later goes these after joined put_by own owns above aboves =
    let none_later = coming_none e later (all_then (λ c. nat_lt e c.0.0) (λ c. not (c.0.0 == e)) (λ c h. not_above e c.0.0 h) later above) in
    let none_after = going_none e after (all_then (λ k. nat_lt e k.0) (λ k. not (k.0 == e)) (λ k h. not_above e k.0 h) after aboves) in
    record {
      own_coming = ap (coming_to e) joined ∙ filter_map-append (λ c. if c.0.0 == e then Some (c.0.1, c.1) else None) first later ∙ (λ i. coming_own e first own i ++ none_later i) ∙ append-nil (ids_coming first);
      other_coming = λ d other. ap (coming_to d) joined ∙ filter_map-append (λ c. if c.0.0 == d then Some (c.0.1, c.1) else None) first later
          ∙ ap (λ z. z ++ coming_to d later) (coming_none d first (all_then (λ c. c.0.0 == e) (λ c. not (c.0.0 == d)) (λ c h. not_same e d c.0.0 other h) first own));
      no_coming = none_later;
      own_going = λ i. ap (λ z. goes_from e z i) put_by ∙ list_any-append (key_eq (e, i)) these after ∙ or_off (goes_from e these i) (goes_from e after i) (none_after i) ∙ going_own e these owns i;
      other_going = λ d other i. ap (λ z. goes_from d z i) put_by ∙ list_any-append (key_eq (d, i)) these after
          ∙ ap (λ b. b || goes_from d after i) (going_none d these (all_then (λ k. k.0 == e) (λ k. not (k.0 == d)) (λ k h. not_same e d k.0 other h) these owns) i);
      no_going = none_after;
      later_above = all_then (λ c. nat_lt e c.0.0) (λ c. nat_le (e + 1) c.0.0) (λ c h. le_more e c.0.0 h) later above;
      after_above = all_then (λ k. nat_lt e k.0) (λ k. nat_le (e + 1) k.0) (λ k h. le_more e k.0 h) after aboves;
    }
