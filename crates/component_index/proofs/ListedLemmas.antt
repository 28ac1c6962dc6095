-- What the lists of the patterns hold after a step, and after many.
use Rattle.std.proofs.Common.{◌≡◌, ℕ, zero, suc, ◌≤◌, subst, ◌+◌, ◌<◌, ◌&&◌, ◌||◌, not, Bool, true, false, cond, true≢false, List, [], ◌∷◌, length, take, arith, Option, Some, None, refl, sym, ap, ◌∙◌, slice_index_or, unwrap_or}
use Rattle.std.specs.Option.{option_map_or}
use Rattle.std.specs.HashMap.{HashMap, get}
use Rattle.std.specs.List.{list_any}
use Rattle.std.proofs.lemmas.List.{take_all}
use Rattle.std.proofs.lemmas.List.Folds.{list_any_more}
use Rattle.std.proofs.lemmas.Bool.{or_right}
use Rattle.ecs_id.specs.declared.TableKey.{TableKey}
use Rattle.id_pattern.specs.declared.Pattern.{Pattern}
use Rattle.ecs_id.specs.TableKeys.{table_eq}
use Rattle.component_index.specs.Listed.{is_listed, Adds, Drops, IsNewest, Keeps}
use Rattle.component_index.specs.TableList.{has, IsNewOrLast}
use Rattle.id_pattern.specs.SamePattern.{pattern_eq, same_pattern}

pub or_none : (b : Bool) → b ≡ (b || false)
or_none true = refl
or_none false = refl

pub and_all : (b : Bool) → b ≡ (b && true)
and_all true = refl
and_all false = refl

pub added_at : (t h : Bool) → cond t true h ≡ (h || t)
added_at true true = refl
added_at true false = refl
added_at false true = refl
added_at false false = refl

pub dropped_at : (t h : Bool) → cond t false h ≡ (h && not t)
dropped_at true true = refl
dropped_at true false = refl
dropped_at false true = refl
dropped_at false false = refl

-- outside the wider test is outside the narrower
pub apart_from : (c d t : Bool) → (c && t) ≡ false → (d ≡ true → c ≡ true) → (d && t) ≡ false
apart_from c true t e k = ap (λ x. x && t) (sym (k refl)) ∙ e
apart_from c false t e k = refl

pub or_steps : (h a b t : Bool) → ((h || (a && t)) || (b && t)) ≡ (h || ((a || b) && t))
or_steps true a b t = refl
or_steps false true true true = refl
or_steps false true b false = and_false b
  where
    and_false : (b : Bool) → (b && false) ≡ false
    and_false true = refl
    and_false false = refl
or_steps false true false true = refl
or_steps false false b t = refl

pub and_steps : (h a b t : Bool) → ((h && not (a && t)) && not (b && t)) ≡ (h && not ((a || b) && t))
and_steps true true b true = refl
and_steps true true true false = refl
and_steps true true false false = refl
and_steps true false b t = refl
and_steps false a b t = refl

-- whether a list that there may be has the key
abbrev some_has : Option (List TableKey) → TableKey → Bool
some_has o k = option_map_or (λ list. has list k) o false

module _ {S : Type 0} (m n : HashMap Pattern (List TableKey) S) (pattern : Pattern) (key : TableKey) (o : Option (List TableKey)) (was : get pattern_eq m pattern ≡ o) where
  was_at : (p : Pattern) → pattern_eq pattern p ≡ true → o ≡ get pattern_eq m p
  was_at p e = sym was ∙ ap (get pattern_eq m) (same_pattern pattern p e)

  -- what one list has, once its pattern's list is another, or gone
  one_at : (new : Option (List TableKey)) (p : Pattern) (b : Bool) → get pattern_eq n p ≡ cond (pattern_eq pattern p) new (get pattern_eq m p) → pattern_eq pattern p ≡ b
      → (k : TableKey) → is_listed n p k ≡ cond b (some_has new k) (is_listed m p k)
  one_at new p true w e k = ap (λ x. some_has x k) (w ∙ (λ i. cond (e i) new (get pattern_eq m p)))
  one_at new p false w e k = ap (λ x. some_has x k) (w ∙ (λ i. cond (e i) new (get pattern_eq m p)))

  -- the list of one pattern takes a table
  pub Adds-one : (new : Option (List TableKey)) → ((q : Pattern) → get pattern_eq n q ≡ cond (pattern_eq pattern q) new (get pattern_eq m q))
      → ((k : TableKey) → some_has new k ≡ cond (table_eq key k) true (some_has o k)) → Adds m n (pattern_eq pattern) key
  Adds-one new writes adds p k = by (pattern_eq pattern p) refl
    where
      by : (b : Bool) → pattern_eq pattern p ≡ b → is_listed n p k ≡ (is_listed m p k || (pattern_eq pattern p && table_eq key k))
      by true e = one_at new p true (writes p) e k ∙ adds k ∙ added_at (table_eq key k) (some_has o k)
          ∙ (λ i. some_has (was_at p e i) k || (sym e i && table_eq key k))
      by false e = one_at new p false (writes p) e k ∙ or_none (is_listed m p k) ∙ (λ i. is_listed m p k || (sym e i && table_eq key k))

  -- the list of one pattern loses a table, or goes with it
  pub Drops-one : (new : Option (List TableKey)) → ((q : Pattern) → get pattern_eq n q ≡ cond (pattern_eq pattern q) new (get pattern_eq m q))
      → ((k : TableKey) → some_has new k ≡ cond (table_eq key k) false (some_has o k)) → Drops m n (pattern_eq pattern) key
  Drops-one new writes drops p k = by (pattern_eq pattern p) refl
    where
      by : (b : Bool) → pattern_eq pattern p ≡ b → is_listed n p k ≡ (is_listed m p k && not (pattern_eq pattern p && table_eq key k))
      by true e = one_at new p true (writes p) e k ∙ drops k ∙ dropped_at (table_eq key k) (some_has o k)
          ∙ (λ i. some_has (was_at p e i) k && not (sym e i && table_eq key k))
      by false e = one_at new p false (writes p) e k ∙ and_all (is_listed m p k) ∙ (λ i. is_listed m p k && not (sym e i && table_eq key k))

-- a pattern without a list has no table to lose
pub Drops-none : {S : Type 0} (m : HashMap Pattern (List TableKey) S) (pattern : Pattern) (key : TableKey) → get pattern_eq m pattern ≡ None → Drops m m (pattern_eq pattern) key
Drops-none m pattern key none p k = by (pattern_eq pattern p) refl
  where
    by : (b : Bool) → pattern_eq pattern p ≡ b → is_listed m p k ≡ (is_listed m p k && not (pattern_eq pattern p && table_eq key k))
    by true e = let gone : get pattern_eq m p ≡ None = ap (get pattern_eq m) (sym (same_pattern pattern p e)) ∙ none in
        ap (λ x. some_has x k) gone ∙ (λ i. some_has (sym gone i) k && not (pattern_eq pattern p && table_eq key k))
    by false e = and_all (is_listed m p k) ∙ (λ i. is_listed m p k && not (sym e i && table_eq key k))

-- two steps are one
module _ {S : Type 0} (m n o : HashMap Pattern (List TableKey) S) (a b c : Pattern → Bool) (key : TableKey) where
  pub Adds-steps : ((p : Pattern) → c p ≡ (a p || b p)) → Adds m n a key → Adds n o b key → Adds m o c key
  Adds-steps is f g p k = g p k ∙ (λ i. f p k i || (b p && table_eq key k)) ∙ or_steps (is_listed m p k) (a p) (b p) (table_eq key k)
      ∙ (λ i. is_listed m p k || (sym (is p) i && table_eq key k))

  pub Drops-steps : ((p : Pattern) → c p ≡ (a p || b p)) → Drops m n a key → Drops n o b key → Drops m o c key
  Drops-steps is f g p k = g p k ∙ (λ i. f p k i && not (b p && table_eq key k)) ∙ and_steps (is_listed m p k) (a p) (b p) (table_eq key k)
      ∙ (λ i. is_listed m p k && not (sym (is p) i && table_eq key k))

  pub Keeps-steps : ((p : Pattern) → a p ≡ true → c p ≡ true) → ((p : Pattern) → b p ≡ true → c p ≡ true) → Adds m n a key → Keeps n o b key → Keeps m o c key
  Keeps-steps ac bc f g p k out =
      let outside : (d : Bool) → (d ≡ true → c p ≡ true) → (d && table_eq key k) ≡ false = λ d dc. apart_from (c p) d (table_eq key k) out dc in
      g p k (outside (b p) (bc p)) ∙ f p k ∙ (λ i. is_listed m p k || outside (a p) (ac p) i) ∙ sym (or_none (is_listed m p k))

-- once one list is another that has the table last, no list has it but last
pub IsNewest-one : {S : Type 0} (m n : HashMap Pattern (List TableKey) S) (pattern : Pattern) (key : TableKey) (list : List TableKey) → ((q : Pattern) → get pattern_eq n q ≡ cond (pattern_eq pattern q) (Some list) (get pattern_eq m q))
    → IsNewOrLast list key → IsNewest m key → IsNewest n key
IsNewest-one m n pattern key list writes last newest q = subst (λ o. IsNewOrLast (unwrap_or o []) key) (sym (writes q)) (by (pattern_eq pattern q))
  where
    by : (b : Bool) → IsNewOrLast (unwrap_or (cond b (Some list) (get pattern_eq m q)) []) key
    by true = last
    by false = newest q

pub gone_twice : {X : Type 0} (b : Bool) (x : X) (o p q : Option X) → p ≡ cond b (Some x) o → q ≡ cond b None p → q ≡ cond b None o
gone_twice true x o p q f g = g
gone_twice false x o p q f g = g ∙ f

-- a list that is there no more had the same keys as one without keys
pub gone_at : {S : Type 0} (m n o : HashMap Pattern (List TableKey) S) (pattern : Pattern) (list : List TableKey) → ((q : Pattern) → get pattern_eq n q ≡ cond (pattern_eq pattern q) (Some list) (get pattern_eq m q))
    → ((q : Pattern) → get pattern_eq o q ≡ cond (pattern_eq pattern q) None (get pattern_eq n q)) → (q : Pattern) → get pattern_eq o q ≡ cond (pattern_eq pattern q) None (get pattern_eq m q)
gone_at m n o pattern list f g q = gone_twice (pattern_eq pattern q) list _ _ _ (f q) (g q)

none_in : (keys : List TableKey) (k : TableKey) → length keys ≡ 0 → list_any (table_eq k) keys ≡ false
none_in [] k e = refl
none_in (x ∷ keys) k e = absurd (omega arith)

pub has_none : (list : List TableKey) → length list ≡ 0 → (k : TableKey) → false ≡ has list k
has_none list e k = sym (none_in list k e)

-- ---- a step for each of a list
pub or_wider : (a b c : Bool) → (b ≡ true → c ≡ true) → (a || b) ≡ true → (a || c) ≡ true
or_wider true b c f h = refl
or_wider false b c f h = f h

pub any-take : {X : Type 0} (f : X → Bool) (xs : List X) (i : ℕ) → list_any f (take i xs) ≡ true → list_any f xs ≡ true
any-take f xs zero h = absurd (true≢false (sym h))
any-take f [] (suc i) h = h
any-take f (x ∷ xs) (suc i) h = or_wider (f x) _ _ (any-take f xs i) h

or_new : (f t h : Bool) → (h ≡ true → f ≡ true) → (f || t) ≡ (f || (t && not h))
or_new true t h k = refl
or_new false t true k = absurd (true≢false (sym (k refl)))
or_new false true false k = refl
or_new false false false k = refl

left_of : (a b : Bool) → (a && b) ≡ true → a ≡ true
left_of true b h = refl
left_of false b h = h

and_or : (a b c : Bool) → ((a || b) && c) ≡ ((a && c) || (b && c))
and_or true b true = refl
and_or true true false = refl
and_or true false false = refl
and_or false b c = refl

module _ {X : Type 0} (test : X → Pattern → Bool) (xs : List X) where
  -- the pattern passes the test of one of the first
  abbrev pub of_first : ℕ → Pattern → Bool
  of_first i p = list_any (λ x. test x p) (take i xs)

  abbrev pub of_each : Pattern → Bool
  of_each p = list_any (λ x. test x p) xs

  module _ {S : Type 0} (key : TableKey) where
    pub Adds-begin : (m : HashMap Pattern (List TableKey) S) → Adds m m (of_first 0) key
    Adds-begin m p k = or_none (is_listed m p k)

    pub Drops-begin : (m : HashMap Pattern (List TableKey) S) → Drops m m (of_first 0) key
    Drops-begin m p k = and_all (is_listed m p k)

    pub Adds-end : (m n : HashMap Pattern (List TableKey) S) (i : ℕ) → length xs ≤ i → Adds m n (of_first i) key → Adds m n of_each key
    Adds-end m n i e h = subst (λ ys. Adds m n (λ p. list_any (λ x. test x p) ys) key) (take_all i xs e) h

    pub Drops-end : (m n : HashMap Pattern (List TableKey) S) (i : ℕ) → length xs ≤ i → Drops m n (of_first i) key → Drops m n of_each key
    Drops-end m n i e h = subst (λ ys. Drops m n (λ p. list_any (λ x. test x p) ys) key) (take_all i xs e) h

    module _ (m n o : HashMap Pattern (List TableKey) S) (i : ℕ) (d x : X) (is : x ≡ slice_index_or xs i d) (within : i < length xs) where
      more : (p : Pattern) → of_first (i + 1) p ≡ (of_first i p || test x p)
      more p = list_any_more (λ y. test y p) xs i d within ∙ (λ j. of_first i p || test (sym is j) p)

      pub Adds-more : Adds m n (of_first i) key → Adds n o (test x) key → Adds m o (of_first (i + 1)) key
      Adds-more f g = Adds-steps m n o (of_first i) (test x) (of_first (i + 1)) key more f g

      pub Drops-more : Drops m n (of_first i) key → Drops n o (test x) key → Drops m o (of_first (i + 1)) key
      Drops-more f g = Drops-steps m n o (of_first i) (test x) (of_first (i + 1)) key more f g

      -- where a step is refused, what was added and what was kept is of the whole list
      pub Keeps-more : Adds m n (of_first i) key → Keeps n o (test x) key → Keeps m o of_each key
      Keeps-more f g = Keeps-steps m n o (of_first i) (test x) of_each key (λ p h. any-take (λ y. test y p) xs i h)
          (λ p h. any-take (λ y. test y p) xs (i + 1) (more p ∙ or_right (of_first i p) _ h)) f g

      -- what matches the id before is among the first already
      module _ (h : Pattern → Bool) (had : (p : Pattern) → h p ≡ true → of_first i p ≡ true) where
        pub Adds-new : Adds m n (of_first i) key → Adds n o (λ p. test x p && not (h p)) key → Adds m o (of_first (i + 1)) key
        Adds-new f g = Adds-steps m n o (of_first i) (λ p. test x p && not (h p)) (of_first (i + 1)) key (λ p. more p ∙ or_new (of_first i p) (test x p) (h p) (had p)) f g

        pub Keeps-new : Adds m n (of_first i) key → Keeps n o (λ p. test x p && not (h p)) key → Keeps m o of_each key
        Keeps-new f g = Keeps-steps m n o (of_first i) (λ p. test x p && not (h p)) of_each key (λ p e. any-take (λ y. test y p) xs i e)
            (λ p e. any-take (λ y. test y p) xs (i + 1) (more p ∙ or_right (of_first i p) _ (left_of (test x p) _ e))) f g

        pub Drops-new : Drops m n (of_first i) key → Drops n o (λ p. test x p && not (h p)) key → Drops m o (of_first (i + 1)) key
        Drops-new f g = Drops-steps m n o (of_first i) (λ p. test x p && not (h p)) (of_first (i + 1)) key (λ p. more p ∙ or_new (of_first i p) (test x p) (h p) (had p)) f g

      pub had-next : (p : Pattern) → test x p ≡ true → of_first (i + 1) p ≡ true
      had-next p e = more p ∙ or_right (of_first i p) _ e

-- ---- one pattern, but where the id before has it
module _ {S : Type 0} (m n : HashMap Pattern (List TableKey) S) (pattern : Pattern) (key : TableKey) (h : Pattern → Bool) where
  new_test : h pattern ≡ false → (p : Pattern) → pattern_eq pattern p ≡ (pattern_eq pattern p && not (h p))
  new_test out p = by (pattern_eq pattern p) refl
    where
      by : (b : Bool) → pattern_eq pattern p ≡ b → b ≡ (b && not (h p))
      by true e = λ i. not (sym (ap h (sym (same_pattern pattern p e)) ∙ out) i)
      by false e = refl

-- ---- what holds of each of a list, and of one more
any_and : {X : Type 0} (f : X → Bool) (b : Bool) (xs : List X) → list_any (λ x. f x && b) xs ≡ (list_any f xs && b)
any_and f b [] = refl
any_and f b (x ∷ xs) = (λ i. (f x && b) || any_and f b xs i) ∙ sym (and_or (f x) (list_any f xs) b)

module _ {X : Type 0} (f : X → Pattern → Bool) (h : Pattern → Bool) (xs : List X) {S : Type 0} (key : TableKey) (m n : HashMap Pattern (List TableKey) S) where
  pub Adds-each_new : Adds m n (of_each (λ x p. f x p && not (h p)) xs) key → Adds m n (λ p. of_each f xs p && not (h p)) key
  Adds-each_new g p k = g p k ∙ (λ i. is_listed m p k || (any_and (λ x. f x p) (not (h p)) xs i && table_eq key k))

  pub Drops-each_new : Drops m n (of_each (λ x p. f x p && not (h p)) xs) key → Drops m n (λ p. of_each f xs p && not (h p)) key
  Drops-each_new g p k = g p k ∙ (λ i. is_listed m p k && not (any_and (λ x. f x p) (not (h p)) xs i && table_eq key k))

  pub Keeps-each_new : Keeps m n (of_each (λ x p. f x p && not (h p)) xs) key → Keeps m n (λ p. of_each f xs p && not (h p)) key
  Keeps-each_new g p k e = g p k ((λ i. any_and (λ x. f x p) (not (h p)) xs i && table_eq key k) ∙ e)
