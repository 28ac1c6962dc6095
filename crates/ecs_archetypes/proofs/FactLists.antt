-- Lists of facts that ascend, and the ids of an entity after some have come and gone.
use Rattle.std.proofs.Common.{◌≡◌, ℕ, Bool, true, false, true≢false, cond, not, ◌||◌, List, [], ◌∷◌, map, refl, sym, ap, ◌∙◌}
use Rattle.std.specs.Prelude.{fold}
use Rattle.std.specs.List.{AllByRecursion, filter, list_all}
use Rattle.std.specs.List.Sorted.{IsStrictlySortedBy}
use Rattle.std.specs.Ordering.{is_eq, is_lt, ordering_reverse}
use Rattle.std.specs.declared.cmp.Ordering.{Ordering}
use Rattle.std.specs.declared.cmp.Ordering.TheVariants.{Less, Equal, Greater}
use Rattle.std.specs.FinMap.Entries.{put, is_sorted, below_all, by_order}
use Rattle.ecs_table.proofs.TableIds.{below_less}
use Rattle.ecs_id.specs.Id.{Id, id_cmp, id_cmp_total, id_eq, id_eq_itself, id_eq_same}
use Rattle.ecs_model.proofs.Maps.{both_true, less as lt_less}
use Rattle.table_store.specs.Store.{Shape}
use Rattle.ecs_archetypes.specs.FactChanges.{begins_before, begins_with, changed_shape, is_among}
use Rattle.ecs_archetypes.proofs.MapLists.{both}

-- an order read from its two sides
turned : (x y : Id) → id_cmp x y ≡ Less → id_cmp y x ≡ Greater
turned x y less = id_cmp_total.antisymm y x ∙ ap ordering_reverse less

apart_below : (x y : Id) → id_cmp x y ≡ Less → id_eq y x ≡ false
apart_below x y less = ap is_eq (turned x y less)

apart_above : (x y : Id) → id_cmp x y ≡ Less → id_eq x y ≡ false
apart_above x y less = ap is_eq less

-- an id that is neither below nor the same is above
above : (x y : Id) → is_lt (id_cmp y x) ≡ false → id_eq x y ≡ false → id_cmp x y ≡ Less
above x y low apart = by (id_cmp x y) refl
  where
    by : (r : Ordering) → id_cmp x y ≡ r → id_cmp x y ≡ Less
    by Less e = e
    by Equal e = absurd (true≢false (sym (ap is_eq e) ∙ apart))
    by Greater e = absurd (true≢false (sym (ap is_lt (id_cmp_total.antisymm y x ∙ ap ordering_reverse e)) ∙ low))

-- one more id in a list of sizes
abbrev pub put_size : Shape → Id × ℕ → Shape
put_size m c = put id_cmp c.0 c.1 m

below_filter : {X : Type 0} (k : Id) (p : Id × X → Bool) (es : List (Id × X)) → below_all id_cmp k es ≡ true → below_all id_cmp k (filter p es) ≡ true
below_filter k p [] h = refl
below_filter k p (e ∷ es) h =
    let parts = both_true (is_lt (id_cmp k e.0)) (below_all id_cmp k es) h in by (p e) parts.0 (below_filter k p es parts.1)
  where
    by : (b : Bool) → is_lt (id_cmp k e.0) ≡ true → below_all id_cmp k (filter p es) ≡ true → below_all id_cmp k (cond b (e ∷ filter p es) (filter p es)) ≡ true
    by true now rest = both (is_lt (id_cmp k e.0)) (below_all id_cmp k (filter p es)) now rest
    by false now rest = rest

put_front : (c : Id × ℕ) (m : Shape) → below_all id_cmp c.0 m ≡ true → put_size m c ≡ c ∷ m
put_front c [] h = refl
put_front c (e ∷ m) h = ap (λ r. by_order r (c ∷ e ∷ m) ((e.0, c.1) ∷ m) (e ∷ put_size m c)) (lt_less (id_cmp c.0 e.0) (both_true (is_lt (id_cmp c.0 e.0)) (below_all id_cmp c.0 m) h).0)

-- an id below all that come stays first
fold_front : (x : Id × ℕ) (m cs : Shape) → below_all id_cmp x.0 cs ≡ true → fold put_size (x ∷ m) cs ≡ x ∷ fold put_size m cs
fold_front x m [] h = refl
fold_front x m (c ∷ cs) h =
    let parts = both_true (is_lt (id_cmp x.0 c.0)) (below_all id_cmp x.0 cs) h in
    ap (λ r. fold put_size (by_order r (c ∷ x ∷ m) ((x.0, c.1) ∷ m) (x ∷ put_size m c)) cs) (turned x.0 c.0 (lt_less (id_cmp x.0 c.0) parts.0)) ∙ fold_front x (put_size m c) cs parts.1

filter_same : {X : Type 0} (p q : Id → Bool) (k : Id) → ((i : Id) → id_cmp k i ≡ Less → p i ≡ q i) → (es : List (Id × X)) → below_all id_cmp k es ≡ true → filter (λ e. not (p e.0)) es ≡ filter (λ e. not (q e.0)) es
filter_same p q k same [] h = refl
filter_same p q k same (e ∷ es) h =
    let parts = both_true (is_lt (id_cmp k e.0)) (below_all id_cmp k es) h in
    let rest = filter_same p q k same es parts.1 in
    λ i. cond (not (same e.0 (lt_less (id_cmp k e.0) parts.0) i)) (e ∷ rest i) (rest i)

-- ids that are not among those that go
passed : (k : Id) (ks : List Id) (i : Id) → id_cmp k i ≡ Less → is_among (k ∷ ks) i ≡ is_among ks i
passed k ks i less = ap (λ b. b || is_among ks i) (apart_below k i less)

module _ (cs : Shape) (ks : List Id) where
  -- the first id that comes is below the first that is held
  pub comes_first : (c x : Id × ℕ) (f : Shape) → is_sorted id_cmp (c ∷ cs) ≡ true → is_sorted id_cmp (x ∷ f) ≡ true → is_lt (id_cmp c.0 x.0) ≡ true
      → changed_shape (c ∷ cs) (is_among ks) (x ∷ f) ≡ c ∷ changed_shape cs (is_among ks) (x ∷ f)
  comes_first c x f up order low =
      let less = lt_less (id_cmp c.0 x.0) low in
      let ups = both_true (below_all id_cmp c.0 cs) (is_sorted id_cmp cs) up in
      let all : below_all id_cmp c.0 (x ∷ f) ≡ true = both (is_lt (id_cmp c.0 x.0)) (below_all id_cmp c.0 f) low (below_less c.0 x.0 f less (both_true (below_all id_cmp x.0 f) (is_sorted id_cmp f) order).0) in
      ap (λ m. fold put_size m cs) (put_front c (filter (λ e. not (is_among ks e.0)) (x ∷ f)) (below_filter c.0 (λ e. not (is_among ks e.0)) (x ∷ f) all))
      ∙ fold_front c (filter (λ e. not (is_among ks e.0)) (x ∷ f)) cs ups.0

  -- an id goes that is below the first that is held
  pub goes_unheld : (k : Id) (x : Id × ℕ) (f : Shape) → is_sorted id_cmp (x ∷ f) ≡ true → is_lt (id_cmp k x.0) ≡ true → changed_shape cs (is_among (k ∷ ks)) (x ∷ f) ≡ changed_shape cs (is_among ks) (x ∷ f)
  goes_unheld k x f order low =
      let less = lt_less (id_cmp k x.0) low in
      let all : below_all id_cmp k (x ∷ f) ≡ true = both (is_lt (id_cmp k x.0)) (below_all id_cmp k f) low (below_less k x.0 f less (both_true (below_all id_cmp x.0 f) (is_sorted id_cmp f) order).0) in
      ap (λ m. fold put_size m cs) (filter_same (is_among (k ∷ ks)) (is_among ks) k (passed k ks) (x ∷ f) all)

  -- the first id that is held goes
  pub goes_held : (x : Id × ℕ) (f : Shape) → is_among ks x.0 ≡ true → changed_shape cs (is_among ks) (x ∷ f) ≡ changed_shape cs (is_among ks) f
  goes_held x f goes = ap (λ b. fold put_size (cond (not b) (x ∷ filter (λ e. not (is_among ks e.0)) f) (filter (λ e. not (is_among ks e.0)) f)) cs) goes

  -- the first id that is held stays, and all that come are above it
  pub stays_held : (x : Id × ℕ) (f : Shape) → is_among ks x.0 ≡ false → below_all id_cmp x.0 cs ≡ true → changed_shape cs (is_among ks) (x ∷ f) ≡ x ∷ changed_shape cs (is_among ks) f
  stays_held x f stays low =
      ap (λ b. fold put_size (cond (not b) (x ∷ filter (λ e. not (is_among ks e.0)) f) (filter (λ e. not (is_among ks e.0)) f)) cs) stays
      ∙ fold_front x (filter (λ e. not (is_among ks e.0)) f) cs low

-- where none is held any more, all that come are left
pub all_come : (cs : Shape) (ks : List Id) → is_sorted id_cmp cs ≡ true → changed_shape cs (is_among ks) [] ≡ cs
all_come [] ks up = refl
all_come (c ∷ cs) ks up =
    let ups = both_true (below_all id_cmp c.0 cs) (is_sorted id_cmp cs) up in
    fold_front c [] cs ups.0 ∙ ap (λ m. c ∷ m) (all_come cs ks ups.1)

-- no id that comes is held: the first held is below all of them, unless the first of them is below it
pub all_above : (cs : Shape) (x : Id × ℕ) → is_sorted id_cmp cs ≡ true → begins_before (map (λ c. c.0) cs) x.0 ≡ false → list_all (λ c. not (id_eq c.0 x.0)) cs ≡ true → below_all id_cmp x.0 cs ≡ true
all_above [] x up low apart = refl
all_above (c ∷ cs) x up low apart =
    let ups = both_true (below_all id_cmp c.0 cs) (is_sorted id_cmp cs) up in
    let others = both_true (not (id_eq c.0 x.0)) (list_all (λ c. not (id_eq c.0 x.0)) cs) apart in
    let less = above x.0 c.0 low (differs x.0 c.0 others.0) in
    both (is_lt (id_cmp x.0 c.0)) (below_all id_cmp x.0 cs) (ap is_lt less) (below_less x.0 c.0 cs less ups.0)
  where
    differs : (i j : Id) → not (id_eq j i) ≡ true → id_eq i j ≡ false
    differs i j h = by (id_eq i j) refl
      where
        by : (b : Bool) → id_eq i j ≡ b → id_eq i j ≡ false
        by false e = e
        by true e = absurd (true≢false (sym h ∙ ap not (ap (λ k. id_eq j k) (id_eq_same i j e) ∙ id_eq_itself j)))

-- no id that goes is the first held, unless the first of them is below it or is it
pub none_goes : (ks : List Id) (i : Id) → IsStrictlySortedBy id_cmp ks → begins_before ks i ≡ false → begins_with ks i ≡ false → is_among ks i ≡ false
unfolding IsStrictlySortedBy
none_goes [] i up low apart = refl
none_goes (k ∷ ks) i up low apart =
    let less : id_cmp i k ≡ Less = above i k low (differs apart) in
    λ j. apart_above i k less j || rest ks less up.0 j
  where
    differs : id_eq k i ≡ false → id_eq i k ≡ false
    differs h = by (id_eq i k) refl
      where
        by : (b : Bool) → id_eq i k ≡ b → id_eq i k ≡ false
        by false e = e
        by true e = absurd (true≢false (sym (ap (λ j. id_eq k j) (id_eq_same i k e) ∙ id_eq_itself k) ∙ h))

    rest : (qs : List Id) → id_cmp i k ≡ Less → AllByRecursion (λ y. id_cmp k y ≡ Less) qs → is_among qs i ≡ false
    rest [] less all = refl
    rest (q ∷ qs) less all = λ j. apart_above i q (id_cmp_total.trans i k q less all.0) j || rest qs less all.1 j

pub one_goes : (ks : List Id) (i : Id) → begins_with ks i ≡ true → is_among ks i ≡ true
one_goes [] i h = cc
one_goes (k ∷ ks) i h = ap (λ b. b || is_among ks i) (ap (λ j. id_eq i j) (id_eq_same k i h) ∙ id_eq_itself i)
