-- How many ids an entity has after `add`.
use Rattle.std.proofs.Common.{◌≡◌, ℕ, suc, ◌<◌, ◌≤◌, Bool, true, false, cond, not, ◌&&◌, ◌||◌, nat_lt, nat_le, ◌==◌, ℤ, List, [], ◌∷◌, filter_map, length, Option, Some, None, is_some, if◌then◌else◌, refl, sym, ap, ◌∙◌, subst, arith, true≢false}
use Rattle.std.proofs.lemmas.Bool.Decides.{nat_tests}
use Rattle.std.specs.declared.cmp.Ordering.{Ordering}
use Rattle.std.specs.declared.cmp.Ordering.TheVariants.{Less, Equal, Greater}
use Rattle.std.specs.Cmp.{Equal-is, eq_by_cmp_equiv}
use Rattle.std.specs.FinMap.Entries.{by_order}
use Rattle.std.specs.List.{cons_option, list_any}
use Rattle.std.specs.Ordering.{nat_cmp, is_eq, eq_by_cmp}
use Rattle.ecs_id.specs.Id.{Id}
use Rattle.ecs_model.specs.Map.{Map, has_key, keys, value_at, with_value, without}
use Rattle.ecs_model.specs.steps.Outcomes.{is_crowded, with_facts}
use Rattle.ecs_model.specs.steps.WellFormed.{IsWellFormed}
use Rattle.ecs_model.specs.World.{WorldState, Key, key_cmp, key_eq, holds, ids_of, is_live, new_value}
use Rattle.ecs_model.proofs.Maps.{key_cmp_same, key_cmp_total, filter_map-with_value}
use Rattle.ecs_model.proofs.Removals.{fewer, value_at-without}
use Rattle.ecs_world.specs.Singles.{with_one, with_one_for, without_one}

behind : {A : Type 0} (o : Option A) (xs ys : List A) → length xs ≡ suc (length ys) → length (cons_option o xs) ≡ suc (length (cons_option o ys))
behind None xs ys h = h
behind (Some x) xs ys h = ap suc h

-- a new key makes one more of what is made of it
one_more : {X Y : Type 0} (h : Key → Option Y) (m : Map Key X) (k : Key) (x : X) (y : Y) → h k ≡ Some y → has_key key_cmp m k ≡ false
    → length (filter_map h (keys (with_value key_cmp m k x))) ≡ suc (length (filter_map h (keys m)))
one_more h [] k x y made absent = ap (λ o. length (cons_option o [])) made
one_more h (e ∷ es) k x y made absent = by (key_cmp k e.0) absent (one_more h es k x y made)
  where
    by : (r : Ordering) → is_some (cond (is_eq r) (Some e.1) (value_at key_cmp es k)) ≡ false
        → (has_key key_cmp es k ≡ false → length (filter_map h (keys (with_value key_cmp es k x))) ≡ suc (length (filter_map h (keys es))))
        → length (filter_map h (keys (by_order r ((k, x) ∷ e ∷ es) ((e.0, x) ∷ es) (e ∷ with_value key_cmp es k x)))) ≡ suc (length (filter_map h (keys (e ∷ es))))
    by Less a rest = ap (λ o. length (cons_option o (filter_map h (keys (e ∷ es))))) made
    by Equal a rest = absurd (true≢false a)
    by Greater a rest = behind (h e.0) _ _ (rest a)

any_passes : {X : Type 0} (test : ℕ → Bool) (m : Map ℕ X) (k : ℕ) → has_key nat_cmp m k ≡ true → test k ≡ true → list_any test (keys m) ≡ true
any_passes test [] k h t = absurd (true≢false (sym h))
any_passes test (x ∷ xs) k h t = by (eq_by_cmp nat_cmp k x.0) refl h (λ g. any_passes test xs k g t)
  where
    or_true : (a b : Bool) → b ≡ true → (a || b) ≡ true
    or_true true b e = refl
    or_true false b e = e

    by : (b : Bool) → eq_by_cmp nat_cmp k x.0 ≡ b → is_some (cond b (Some x.1) (value_at nat_cmp xs k)) ≡ true
        → (has_key nat_cmp xs k ≡ true → list_any test (keys xs) ≡ true) → list_any test (keys (x ∷ xs)) ≡ true
    by true p q rest = let same : k ≡ x.0 = grind (arith, nat_tests) in ap (λ n. test n || list_any test (keys xs)) (sym same) ∙ ap (λ b. b || list_any test (keys xs)) t
    by false p q rest = or_true (test x.0) (list_any test (keys xs)) (rest q)

none_pass : (test : ℕ → Bool) (xs : List ℕ) → ((x : ℕ) → test x ≡ false) → list_any test xs ≡ false
none_pass test [] h = refl
none_pass test (x ∷ xs) h = ap (λ b. b || list_any test xs) (h x) ∙ none_pass test xs h

few : (n : ℕ) → n ≤ 64 → nat_lt 64 n ≡ false
few n h = grind (arith, nat_tests)

many : (n : ℕ) → 64 < n → nat_lt 64 n ≡ true
many n h = grind (arith, nat_tests)

-- what an id of an entity is, for one entity
abbrev id_at : ℕ → Key → Option Id
id_at f k = if k.0 == f then Some k.1 else None

own_id : (e : ℕ) (i : Id) → id_at e (e, i) ≡ Some i
own_id e i = let same : (e == e) ≡ true = grind (arith, nat_tests) in ap (λ b. if b then Some i else None) same

other_id : (e f : ℕ) (i : Id) → (e == f) ≡ false → id_at f (e, i) ≡ None
other_id e f i h = ap (λ b. if b then Some i else None) h

module _ (w : WorldState) (e : ℕ) (i : Id) (h : IsWellFormed w) where
  abbrev grown : Map Key (List ℤ)
  grown = with_value key_cmp w.facts (e, i) (new_value w i)

  after_add : (b : Bool) → holds w e i ≡ b → is_crowded (with_facts w (with_one w e i)) ≡ is_crowded (with_facts w (if b then w.facts else grown))
  after_add b held = ap (λ b. is_crowded (with_facts w (if b then w.facts else grown))) held

  -- who holds the id stays as it is
  pub not_crowded_held : holds w e i ≡ true → is_crowded (with_facts w (with_one w e i)) ≡ false
  not_crowded_held held = after_add true held ∙ none_pass (λ f. nat_lt 64 (length (ids_of w f))) (keys w.live) (λ f. few (length (ids_of w f)) (h.few_ids f))

  own_count : holds w e i ≡ false → length (ids_of (with_facts w grown) e) ≡ suc (length (ids_of w e))
  own_count absent = one_more (id_at e) w.facts (e, i) (new_value w i) i (own_id e i) absent

  other_count : (f : ℕ) → (e == f) ≡ false → ids_of (with_facts w grown) f ≡ ids_of w f
  other_count f apart = filter_map-with_value key_cmp key_cmp_total (id_at f) w.facts (e, i) (new_value w i) (other_id e f i apart)

  -- with fewer than 64 ids there is room for one
  pub not_crowded : holds w e i ≡ false → length (ids_of w e) < 64 → is_crowded (with_facts w (with_one w e i)) ≡ false
  not_crowded absent room =
      after_add false absent ∙ none_pass (λ f. nat_lt 64 (length (ids_of (with_facts w grown) f))) (keys w.live) (λ f. each f (e == f) refl)
    where
      each : (f : ℕ) (b : Bool) → (e == f) ≡ b → nat_lt 64 (length (ids_of (with_facts w grown) f)) ≡ false
      each f true p = let same : e ≡ f = grind (arith, nat_tests) in subst (λ n. nat_lt 64 (length (ids_of (with_facts w grown) n)) ≡ false) same (few _ (rw (own_count absent) (omega arith)))
      each f false p = few _ (rw (other_count f p) (h.few_ids f))

  -- a live entity with 64 ids has none for another
  pub crowded : is_live w e ≡ true → holds w e i ≡ false → 64 ≤ length (ids_of w e) → is_crowded (with_facts w (with_one w e i)) ≡ true
  crowded alive absent full =
      after_add false absent ∙ any_passes (λ f. nat_lt 64 (length (ids_of (with_facts w grown) f))) w.live e alive (many _ (rw (own_count absent) (omega arith)))

  -- the test by the count
  pub full_by_count : (n : ℕ) → is_live w e ≡ true → holds w e i ≡ false → n ≡ length (ids_of w e) → nat_le 64 n ≡ is_crowded (with_facts w (with_one w e i))
  full_by_count n alive absent counted = by (nat_le 64 n) refl
    where
      by : (b : Bool) → nat_le 64 n ≡ b → b ≡ is_crowded (with_facts w (with_one w e i))
      by true p = sym (crowded alive absent (rw (← counted) (grind (arith, nat_tests))))
      by false p = sym (not_crowded absent (rw (← counted) (grind (arith, nat_tests))))

  -- the test on what was found
  pub crowds : (b : Bool) (n : ℕ) → is_live w e ≡ true → b ≡ holds w e i → n ≡ length (ids_of w e) → (not b && nat_le 64 n) ≡ is_crowded (with_facts w (with_one w e i))
  crowds true n alive held counted = sym (not_crowded_held (sym held))
  crowds false n alive held counted = full_by_count n alive (sym held) counted

-- whether a key is the one that goes
abbrev goes_with : Key → Key → Bool
goes_with k q = list_any (key_eq q) (k ∷ [])

on_top : {A : Type 0} (o : Option A) (xs ys : List A) → suc (length xs) ≤ length ys → suc (length (cons_option o xs)) ≤ length (cons_option o ys)
on_top None xs ys l = l
on_top (Some x) xs ys l = omega (arith, l)

-- a key that goes leaves one less of what is made of it
one_less : {X Y : Type 0} (h : Key → Option Y) (m : Map Key X) (k : Key) (y : Y) → h k ≡ Some y → has_key key_cmp m k ≡ true
    → suc (length (filter_map h (keys (without key_cmp m (goes_with k))))) ≤ length (filter_map h (keys m))
one_less h [] k y made there = absurd (true≢false (sym there))
one_less h (x ∷ xs) k y made there = by (key_eq x.0 k) refl there (one_less h xs k y made)
  where
    turned : (b : Bool) → key_eq x.0 k ≡ b → key_eq k x.0 ≡ b
    turned b p = (eq_by_cmp_equiv key_cmp_total).symm k x.0 ∙ p

    by : (b : Bool) → key_eq x.0 k ≡ b → has_key key_cmp (x ∷ xs) k ≡ true
        → (has_key key_cmp xs k ≡ true → suc (length (filter_map h (keys (without key_cmp xs (goes_with k))))) ≤ length (filter_map h (keys xs)))
        → suc (length (filter_map h (keys (cond (not (b || false)) (x ∷ without key_cmp xs (goes_with k)) (without key_cmp xs (goes_with k)))))) ≤ length (cons_option (h x.0) (filter_map h (keys xs)))
    by true p here rest =
        let is : x.0 ≡ k = key_cmp_same x.0 k ((Equal-is (key_cmp x.0 k)).0 p) in
        let top : h x.0 ≡ Some y = ap h is ∙ made in
        let few = fewer h xs (goes_with k) in
        rw top (omega (arith, few))
    by false p here rest =
        on_top (h x.0) (filter_map h (keys (without key_cmp xs (goes_with k)))) (filter_map h (keys xs))
        (rest (ap (λ b. is_some (cond b (Some x.1) (value_at key_cmp xs k))) (sym (turned false p)) ∙ here))

-- what isn't held isn't held without another
pub absent_without : (w : WorldState) (e : ℕ) (old i : Id) → holds w e i ≡ false → has_key key_cmp (without_one w e old) (e, i) ≡ false
absent_without w e old i is_new = ap is_some (value_at-without w.facts (goes_with (e, old)) (e, i)) ∙ by (goes_with (e, old) (e, i)) (value_at key_cmp w.facts (e, i)) is_new
  where
    by : (b : Bool) (o : Option (List ℤ)) → is_some o ≡ false → is_some (cond (not b) o None) ≡ false
    by true o n = refl
    by false o n = n

module _ (w : WorldState) (e : ℕ) (old i : Id) (h : IsWellFormed w) (is_new : holds w e i ≡ false) (old_held : holds w e old ≡ true) where
  -- with one in the place of another there are no more
  pub not_crowded_replaced : is_crowded (with_facts w (with_one_for w e old i)) ≡ false
  not_crowded_replaced = none_pass (λ f. nat_lt 64 (length (ids_of (with_facts w (with_one_for w e old i)) f))) (keys w.live) (λ f. each f (e == f) refl)
    where
      own : length (ids_of (with_facts w (with_one_for w e old i)) e) ≤ 64
      own =
          let more = one_more (id_at e) (without_one w e old) (e, i) (new_value w i) i (own_id e i) (absent_without w e old i is_new) in
          let less = one_less (id_at e) w.facts (e, old) old (own_id e old) old_held in
          let held = h.few_ids e in
          omega (arith, more, less, held)

      others : (f : ℕ) → (e == f) ≡ false → length (ids_of (with_facts w (with_one_for w e old i)) f) ≤ 64
      others f apart =
          let same = filter_map-with_value key_cmp key_cmp_total (id_at f) (without_one w e old) (e, i) (new_value w i) (other_id e f i apart) in
          let less = fewer (id_at f) w.facts (goes_with (e, old)) in
          let held = h.few_ids f in
          rw same (omega (arith, less, held))

      each : (f : ℕ) (b : Bool) → (e == f) ≡ b → nat_lt 64 (length (ids_of (with_facts w (with_one_for w e old i)) f)) ≡ false
      each f true p = let same : e ≡ f = grind (arith, nat_tests) in subst (λ n. nat_lt 64 (length (ids_of (with_facts w (with_one_for w e old i)) n)) ≡ false) same (few _ own)
      each f false p = few _ (others f p)
