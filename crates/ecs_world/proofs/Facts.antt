-- The facts of all entities as one list: what is found in it, that it is in order, and what a change of one entity does.
use Rattle.std.proofs.Common.{◌≡◌, ◌≢◌, ℕ, ◌==◌, Bool, true, false, cond, List, [], ◌∷◌, ◌++◌, filter_map, ℤ, Option, Some, None, option_map, unwrap_or, is_some, if◌then◌else◌, refl, sym, ap, subst, ◌∙◌, arith, true≢false}
use Rattle.std.proofs.lemmas.Bool.Decides.{nat_tests, Decides-eqb}
use Rattle.std.proofs.lemmas.Cmp.{nat_cmp_total}
use Rattle.std.specs.List.{cons_option}
use Rattle.std.specs.declared.cmp.Ordering.{Ordering}
use Rattle.std.specs.declared.cmp.Ordering.TheVariants.{Less, Equal, Greater}
use Rattle.std.specs.Ordering.{nat_cmp, eq_by_cmp, is_eq, is_lt, ordering_then}
use Rattle.std.specs.FinMap.{find, is_sorted}
use Rattle.std.specs.FinMap.Entries.{below_all, same_entries}
use Rattle.std.proofs.lemmas.Bool.{and_from}
use Rattle.rel_traits.proofs.PinLists.{tied as nat_self}
use Rattle.ecs_id.specs.Id.{Id, id_cmp, id_cmp_same}
use Rattle.ecs_model.specs.Map.{Map, IsMap, value_at, keys}
use Rattle.ecs_model.specs.Schema.{Schema}
use Rattle.ecs_model.specs.World.{Key, key_cmp}
use Rattle.ecs_model.proofs.Maps.{to_T, both_true, key_cmp_total, key_cmp_same, eq_itself, absent_below}
use Rattle.ecs_table.specs.Archetype.{Cells}
use Rattle.ecs_archetypes.proofs.MoveCounts.{unequal}
use Rattle.ecs_world.specs.State.{all_facts, facts_of, value_in}

abbrev pub or_else : {X : Type 0} → Option X → Option X → Option X
or_else None y = y
or_else (Some x) y = Some x

or_else-none : {X : Type 0} (o : Option X) → or_else o None ≡ o
or_else-none None = refl
or_else-none (Some x) = refl

module _ {K X : Type 0} (R : K → K → Ordering) where
  or_else-cond : (b : Bool) (x : X) (o p : Option X) → cond b (Some x) (or_else o p) ≡ or_else (cond b (Some x) o) p
  or_else-cond true x o p = refl
  or_else-cond false x o p = refl

  pub find-join : (q : K) (xs ys : List (K × X)) → find R q (xs ++ ys) ≡ or_else (find R q xs) (find R q ys)
  find-join q [] ys = refl
  find-join q (x ∷ xs) ys = ap (cond (eq_by_cmp R q x.0) (Some x.1)) (find-join q xs ys) ∙ or_else-cond (eq_by_cmp R q x.0) x.1 _ _

  pub below_all-join : (x : K) (xs ys : List (K × X)) → below_all R x xs ≡ true → below_all R x ys ≡ true → below_all R x (xs ++ ys) ≡ true
  below_all-join x [] ys g h = h
  below_all-join x (y ∷ xs) ys g h = let parts = both_true (is_lt (R x y.0)) (below_all R x xs) g in and_from _ _ parts.0 (below_all-join x xs ys parts.1 h)

  -- each of xs is below all of ys
  abbrev all_below : List (K × X) → List (K × X) → Type 0
  all_below [] ys = Unit {0}
  all_below (x ∷ xs) ys = (below_all R x.0 ys ≡ true) × all_below xs ys

  pub is_sorted-join : (xs ys : List (K × X)) → IsMap R xs → IsMap R ys → all_below xs ys → IsMap R (xs ++ ys)
  is_sorted-join [] ys g h a = h
  is_sorted-join (x ∷ xs) ys g h a = let parts = both_true (below_all R x.0 xs) (is_sorted R xs) g in and_from _ _ (below_all-join x.0 xs ys parts.0 a.0) (is_sorted-join xs ys parts.1 h a.1)

is_eq-then : (o p : Ordering) → is_eq o ≡ false → is_eq (ordering_then o p) ≡ false
is_eq-then Less p h = h
is_eq-then Equal p h = absurd (true≢false h)
is_eq-then Greater p h = h

lt_then : (o p : Ordering) → is_lt o ≡ true → is_lt (ordering_then o p) ≡ true
lt_then Less p h = refl
lt_then Equal p h = absurd (true≢false (sym h))
lt_then Greater p h = absurd (true≢false (sym h))

pub eq_same : (e : ℕ) (i j : Id) → eq_by_cmp key_cmp (e, i) (e, j) ≡ eq_by_cmp id_cmp i j
unfolding key_cmp
eq_same e i j = ap (λ o. is_eq (ordering_then o (id_cmp i j))) (nat_self e)

pub eq_apart : (d e : ℕ) (i j : Id) → d ≢ e → eq_by_cmp key_cmp (d, i) (e, j) ≡ false
unfolding key_cmp
eq_apart d e i j ne = is_eq-then (nat_cmp d e) (id_cmp i j) (unequal d e ne)

lt_same : (e : ℕ) (i j : Id) → is_lt (key_cmp (e, i) (e, j)) ≡ is_lt (id_cmp i j)
unfolding key_cmp
lt_same e i j = ap (λ o. is_lt (ordering_then o (id_cmp i j))) (nat_self e)

lt_apart : (d e : ℕ) (i j : Id) → is_lt (nat_cmp d e) ≡ true → is_lt (key_cmp (d, i) (e, j)) ≡ true
unfolding key_cmp
lt_apart d e i j h = lt_then (nat_cmp d e) (id_cmp i j) h

apart : (x y : ℕ) → is_lt (nat_cmp x y) ≡ true → x ≢ y
apart x y h is = true≢false (sym h ∙ ap is_lt (ap (nat_cmp x) (sym is) ∙ nat_self x))

-- the bytes of an id in a list of what entities hold
abbrev pub bytes_in : Map ℕ Cells → ℕ → Id → Option (List ℕ)
bytes_in cells d i = value_at id_cmp (unwrap_or (value_at nat_cmp cells d) []) i

-- each entity holds ids that rise
abbrev pub AllRise : Map ℕ Cells → Type 0
AllRise cells = (e : ℕ) (cs : Cells) → value_at nat_cmp cells e ≡ Some cs → IsMap id_cmp cs

-- what is found after the first is found in all, where the keys rise
found_behind : (x : ℕ × Cells) (xs : Map ℕ Cells) → IsMap nat_cmp (x ∷ xs) → (e : ℕ) (cs : Cells) → value_at nat_cmp xs e ≡ Some cs → value_at nat_cmp (x ∷ xs) e ≡ Some cs
found_behind x xs s e cs found = by (eq_by_cmp nat_cmp e x.0) refl
  where
    by : (b : Bool) → eq_by_cmp nat_cmp e x.0 ≡ b → cond b (Some x.1) (value_at nat_cmp xs e) ≡ Some cs
    by true p =
        let same : e ≡ x.0 = grind (arith, nat_tests) in
        let none = absent_below nat_cmp nat_cmp_total x.0 xs (both_true (below_all nat_cmp x.0 xs) (is_sorted nat_cmp xs) s).0 in
        absurd (true≢false (sym (ap is_some (sym (ap (value_at nat_cmp xs) same ∙ none) ∙ found))))
    by false p = found

AllRise-behind : (x : ℕ × Cells) (xs : Map ℕ Cells) → IsMap nat_cmp (x ∷ xs) → AllRise (x ∷ xs) → AllRise xs
AllRise-behind x xs s rise e cs found = rise e cs (found_behind x xs s e cs found)

AllRise-first : (x : ℕ × Cells) (xs : Map ℕ Cells) → AllRise (x ∷ xs) → IsMap id_cmp x.1
AllRise-first x xs rise = rise x.0 x.1 (ap (λ b. cond b (Some x.1) (value_at nat_cmp xs x.0)) (eq_itself nat_cmp nat_cmp_total x.0))

module _ (types : Id → Option Schema) where
  abbrev shows_value : Id → List ℕ → List ℤ
  shows_value i bytes = value_in (types i) bytes

  map-cond : (b : Bool) (i j : Id) (bytes : List ℕ) (o : Option (List ℕ)) → (b ≡ true → i ≡ j) → cond b (Some (shows_value j bytes)) (option_map (shows_value i) o) ≡ option_map (shows_value i) (cond b (Some bytes) o)
  map-cond true i j bytes o same = ap (λ k. Some (shows_value k bytes)) (sym (same refl))
  map-cond false i j bytes o same = refl

  same_id : (i j : Id) → eq_by_cmp id_cmp i j ≡ true → i ≡ j
  same_id i j h = id_cmp_same i j (tied (id_cmp i j) h)
    where
      tied : (o : Ordering) → is_eq o ≡ true → o ≡ Equal
      tied Less h = absurd (true≢false (sym h))
      tied Equal h = refl
      tied Greater h = absurd (true≢false (sym h))

  find-own : (e : ℕ) (i : Id) (cs : Cells) → find key_cmp (e, i) (facts_of types e cs) ≡ option_map (shows_value i) (value_at id_cmp cs i)
  find-own e i [] = refl
  find-own e i (c ∷ cs) = (λ k. cond (eq_same e i c.0 k) (Some (shows_value c.0 c.1)) (find-own e i cs k)) ∙ map-cond (eq_by_cmp id_cmp i c.0) i c.0 c.1 (value_at id_cmp cs i) (same_id i c.0)

  find-other : (d e : ℕ) (i : Id) (cs : Cells) → d ≢ e → find key_cmp (d, i) (facts_of types e cs) ≡ None
  find-other d e i [] ne = refl
  find-other d e i (c ∷ cs) ne = ap (λ b. cond b (Some (shows_value c.0 c.1)) (find key_cmp (d, i) (facts_of types e cs))) (eq_apart d e i c.0 ne) ∙ find-other d e i cs ne

  below-own : (e : ℕ) (i : Id) (cs : Cells) → below_all id_cmp i cs ≡ true → below_all key_cmp (e, i) (facts_of types e cs) ≡ true
  below-own e i [] h = refl
  below-own e i (c ∷ cs) h = let parts = both_true (is_lt (id_cmp i c.0)) (below_all id_cmp i cs) h in and_from _ _ (lt_same e i c.0 ∙ parts.0) (below-own e i cs parts.1)

  is_sorted-own : (e : ℕ) (cs : Cells) → IsMap id_cmp cs → IsMap key_cmp (facts_of types e cs)
  is_sorted-own e [] h = refl
  is_sorted-own e (c ∷ cs) h = let parts = both_true (below_all id_cmp c.0 cs) (is_sorted id_cmp cs) h in and_from _ _ (below-own e c.0 cs parts.0) (is_sorted-own e cs parts.1)

  below-other : (d e : ℕ) (i : Id) (cs : Cells) → is_lt (nat_cmp d e) ≡ true → below_all key_cmp (d, i) (facts_of types e cs) ≡ true
  below-other d e i [] h = refl
  below-other d e i (c ∷ cs) h = and_from _ _ (lt_apart d e i c.0 h) (below-other d e i cs h)

  below-facts : (d : ℕ) (i : Id) (es : Map ℕ Cells) → below_all nat_cmp d es ≡ true → below_all key_cmp (d, i) (all_facts types es) ≡ true
  below-facts d i [] h = refl
  below-facts d i (e ∷ es) h =
      let parts = both_true (is_lt (nat_cmp d e.0)) (below_all nat_cmp d es) h in
      below_all-join key_cmp (d, i) (facts_of types e.0 e.1) (all_facts types es) (below-other d e.0 i e.1 parts.0) (below-facts d i es parts.1)

  own-below : (d : ℕ) (cs : Cells) (es : Map ℕ Cells) → below_all nat_cmp d es ≡ true → all_below key_cmp (facts_of types d cs) (all_facts types es)
  own-below d [] es h = tt
  own-below d (c ∷ cs) es h = (below-facts d c.0 es h, own-below d cs es h)

  -- the facts are in the order of their keys
  pub IsMap-facts : (es : Map ℕ Cells) → IsMap nat_cmp es → AllRise es → IsMap key_cmp (all_facts types es)
  IsMap-facts [] h rise = refl
  IsMap-facts (e ∷ es) h rise =
      let parts = both_true (below_all nat_cmp e.0 es) (is_sorted nat_cmp es) h in
      is_sorted-join key_cmp (facts_of types e.0 e.1) (all_facts types es) (is_sorted-own e.0 e.1 (AllRise-first e es rise)) (IsMap-facts es parts.1 (AllRise-behind e es h rise)) (own-below e.0 e.1 es parts.0)

  find-below : (d : ℕ) (i : Id) (es : Map ℕ Cells) → below_all nat_cmp d es ≡ true → find key_cmp (d, i) (all_facts types es) ≡ None
  find-below d i [] h = refl
  find-below d i (e ∷ es) h =
      let parts = both_true (is_lt (nat_cmp d e.0)) (below_all nat_cmp d es) h in
      find-join key_cmp (d, i) (facts_of types e.0 e.1) (all_facts types es)
      ∙ (λ k. or_else (find-other d e.0 i e.1 (apart d e.0 parts.0) k) (find-below d i es parts.1 k))

  -- the value of a fact is what its bytes mean
  pub find-facts : (d : ℕ) (i : Id) (es : Map ℕ Cells) → IsMap nat_cmp es → value_at key_cmp (all_facts types es) (d, i) ≡ option_map (shows_value i) (bytes_in es d i)
  find-facts d i [] h = refl
  find-facts d i (e ∷ es) h =
      let parts = both_true (below_all nat_cmp e.0 es) (is_sorted nat_cmp es) h in
      find-join key_cmp (d, i) (facts_of types e.0 e.1) (all_facts types es) ∙ by (eq_by_cmp nat_cmp d e.0) refl parts.0 (find-facts d i es parts.1)
    where
      by : (b : Bool) → eq_by_cmp nat_cmp d e.0 ≡ b → below_all nat_cmp e.0 es ≡ true → find key_cmp (d, i) (all_facts types es) ≡ option_map (shows_value i) (bytes_in es d i)
          → or_else (find key_cmp (d, i) (facts_of types e.0 e.1)) (find key_cmp (d, i) (all_facts types es))
          ≡ option_map (shows_value i) (value_at id_cmp (unwrap_or (cond b (Some e.1) (value_at nat_cmp es d)) []) i)
      by true p low rest =
          let same : d ≡ e.0 = grind (arith, nat_tests) in
          let own : find key_cmp (d, i) (facts_of types e.0 e.1) ≡ option_map (shows_value i) (value_at id_cmp e.1 i) = ap (λ z. find key_cmp (z, i) (facts_of types e.0 e.1)) same ∙ find-own e.0 i e.1 in
          let none : find key_cmp (d, i) (all_facts types es) ≡ None = ap (λ z. find key_cmp (z, i) (all_facts types es)) same ∙ find-below e.0 i es low in
          (λ k. or_else (own k) (none k)) ∙ or_else-none _
      by false p low rest =
          let differ : d ≢ e.0 = λ is. true≢false (sym (ap is_eq (ap (λ z. nat_cmp z e.0) is ∙ nat_self e.0)) ∙ p) in
          (λ k. or_else (find-other d e.0 i e.1 differ k) (rest k))

  ids-own : (e : ℕ) (cs : Cells) → filter_map (λ (k : Key). if k.0 == e then Some k.1 else None) (keys (facts_of types e cs)) ≡ keys cs
  ids-own e [] = refl
  ids-own e (c ∷ cs) = (λ k. cons_option (if (Decides-eqb e e).1 refl k then Some c.0 else None) (ids-own e cs k))

  ids-other : (d e : ℕ) (cs : Cells) → (e == d) ≡ false → filter_map (λ (k : Key). if k.0 == d then Some k.1 else None) (keys (facts_of types e cs)) ≡ []
  ids-other d e [] ne = refl
  ids-other d e (c ∷ cs) ne = (λ k. cons_option (if ne k then Some c.0 else None) (ids-other d e cs ne k))

  filter_map-join : {X Y : Type 0} (f : X → Option Y) (xs ys : List X) → filter_map f (xs ++ ys) ≡ filter_map f xs ++ filter_map f ys
  filter_map-join f [] ys = refl
  filter_map-join f (x ∷ xs) ys = by (f x) (filter_map-join f xs ys)
    where
      by : (o : Option _) → filter_map f (xs ++ ys) ≡ filter_map f xs ++ filter_map f ys → cons_option o (filter_map f (xs ++ ys)) ≡ cons_option o (filter_map f xs) ++ filter_map f ys
      by None h = h
      by (Some y) h = ap (λ zs. y ∷ zs) h

  keys-join : (xs ys : Map Key (List ℤ)) → keys (xs ++ ys) ≡ keys xs ++ keys ys
  keys-join [] ys = refl
  keys-join (x ∷ xs) ys = ap (λ zs. x.0 ∷ zs) (keys-join xs ys)

  append-none : {X : Type 0} (xs : List X) → xs ++ [] ≡ xs
  append-none [] = refl
  append-none (x ∷ xs) = ap (λ ys. x ∷ ys) (append-none xs)

  ids-below : (d : ℕ) (es : Map ℕ Cells) → below_all nat_cmp d es ≡ true → filter_map (λ (k : Key). if k.0 == d then Some k.1 else None) (keys (all_facts types es)) ≡ []
  ids-below d [] h = refl
  ids-below d (e ∷ es) h =
      let parts = both_true (is_lt (nat_cmp d e.0)) (below_all nat_cmp d es) h in
      ap (filter_map (λ (k : Key). if k.0 == d then Some k.1 else None)) (keys-join (facts_of types e.0 e.1) (all_facts types es))
      ∙ filter_map-join _ (keys (facts_of types e.0 e.1)) (keys (all_facts types es))
      ∙ (λ k. ids-other d e.0 e.1 (turned d e.0 parts.0) k ++ ids-below d es parts.1 k)
    where
      turned : (x y : ℕ) → is_lt (nat_cmp x y) ≡ true → (y == x) ≡ false
      turned x y h = grind (arith, nat_tests)

  -- the ids of an entity's facts are the ids that it holds
  pub ids-facts : (d : ℕ) (es : Map ℕ Cells) → IsMap nat_cmp es → filter_map (λ (k : Key). if k.0 == d then Some k.1 else None) (keys (all_facts types es)) ≡ keys (unwrap_or (value_at nat_cmp es d) [])
  ids-facts d [] h = refl
  ids-facts d (e ∷ es) h =
      let parts = both_true (below_all nat_cmp e.0 es) (is_sorted nat_cmp es) h in
      ap (filter_map (λ (k : Key). if k.0 == d then Some k.1 else None)) (keys-join (facts_of types e.0 e.1) (all_facts types es))
      ∙ filter_map-join _ (keys (facts_of types e.0 e.1)) (keys (all_facts types es))
      ∙ by (eq_by_cmp nat_cmp d e.0) refl parts.0 (ids-facts d es parts.1)
    where
      ids : Map Key (List ℤ) → List Id
      ids m = filter_map (λ (k : Key). if k.0 == d then Some k.1 else None) (keys m)

      other : (x y : ℕ) → is_eq (nat_cmp x y) ≡ false → (y == x) ≡ false
      other x y p = grind (arith, nat_tests)

      by : (b : Bool) → eq_by_cmp nat_cmp d e.0 ≡ b → below_all nat_cmp e.0 es ≡ true → ids (all_facts types es) ≡ keys (unwrap_or (value_at nat_cmp es d) [])
          → ids (facts_of types e.0 e.1) ++ ids (all_facts types es) ≡ keys (unwrap_or (cond b (Some e.1) (value_at nat_cmp es d)) [])
      by true p low rest =
          let same : e.0 ≡ d = grind (arith, nat_tests) in
          let own : ids (facts_of types e.0 e.1) ≡ keys e.1 = ap (λ z. filter_map (λ (k : Key). if k.0 == z then Some k.1 else None) (keys (facts_of types e.0 e.1))) (sym same) ∙ ids-own e.0 e.1 in
          let none : ids (all_facts types es) ≡ [] = ids-below d es (subst (λ z. below_all nat_cmp z es ≡ true) same low) in
          (λ k. own k ++ none k) ∙ append-none (keys e.1)
      by false p low rest = (λ k. ids-other d e.0 e.1 (other d e.0 p) k ++ rest k)

-- two lists of facts that are in order are one, where the same is found in them
pub same_facts : (xs ys : Map Key (List ℤ)) → IsMap key_cmp xs → IsMap key_cmp ys → ((q : Key) → value_at key_cmp xs q ≡ value_at key_cmp ys q) → xs ≡ ys
same_facts xs ys g h same = same_entries key_cmp key_cmp_total key_cmp_same xs ys (to_T _ g) (to_T _ h) same
