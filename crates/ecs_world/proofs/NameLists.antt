-- The names of live entities as a map by index: what the finite map of names says of it.
use Rattle.std.proofs.Common.{◌≡◌, ◌≢◌, ◌⊎◌, ◌↔◌, ℕ, Bool, true, false, cond, ◌&&◌, List, [], ◌∷◌, filter_map, Option, Some, None, option_map, is_some, bytes_eq, refl, sym, ap, subst, ◌∙◌, inl, inr, arith, true≢false}
use Rattle.std.proofs.lemmas.Bool.Decides.{nat_tests}
use Rattle.std.proofs.lemmas.Slice.Eq.{bytes_eq-Decides}
use Rattle.std.specs.Cmp.{nat_cmp_total, Equal-is}
use Rattle.std.specs.Cmp.Lexicographic.{slice_cmp, nat_list_cmp_total}
use Rattle.std.specs.List.{cons_option, find}
use Rattle.std.specs.declared.cmp.Ordering.{Ordering}
use Rattle.std.specs.declared.cmp.Ordering.TheVariants.{Equal}
use Rattle.std.specs.Ordering.{nat_cmp, eq_by_cmp, is_lt}
use Rattle.std.specs.FinMap as finite
use Rattle.std.specs.FinMap.{is_sorted, nat_cmp-IsAntisymmetric, slice_cmp-IsAntisymmetric}
use Rattle.std.specs.FinMap.Entries.{below_all, same_entries}
use Rattle.ecs_id.specs.declared.EntityId.{EntityId}
use Rattle.ecs_model.specs.Map.{Map, IsMap, value_at, with_value}
use Rattle.ecs_model.proofs.Maps.{to_T, from_T, both_true, eq_itself, absent_below, nat_value_at, IsMap-with_value}
use Rattle.name_index.specs.Names.{Names, entity_eq, IsUnnamed, IsOneToOne}
use Rattle.ecs_world.specs.State.{name_in, names_of}
use Rattle.ecs_world.proofs.Entities.{same_entity, entity_eq_true}

abbrev R : List ℕ → List ℕ → Ordering
R = slice_cmp nat_cmp

R_same : (x y : List ℕ) → R x y ≡ Equal → x ≡ y
R_same = slice_cmp-IsAntisymmetric nat_cmp-IsAntisymmetric

abbrev pub and_then : {X Y : Type 0} → Option X → (X → Option Y) → Option Y
and_then None f = None
and_then (Some x) f = f x

found_name : (es : List (List ℕ × EntityId)) (e : EntityId) (n : List ℕ) → IsMap R es → option_map (λ p. p.0) (find (λ p. entity_eq p.1 e) es) ≡ Some n → value_at R es n ≡ Some e
found_name [] e n s h = cc
found_name (p ∷ ps) e n s h = by (entity_eq p.1 e) refl h (both_true (below_all R p.0 ps) (is_sorted R ps) s).0 (found_name ps e n (both_true (below_all R p.0 ps) (is_sorted R ps) s).1)
  where
    by : (b : Bool) → entity_eq p.1 e ≡ b → option_map (λ p. p.0) (cond b (Some p) (find (λ p. entity_eq p.1 e) ps)) ≡ Some n → below_all R p.0 ps ≡ true
        → (option_map (λ p. p.0) (find (λ p. entity_eq p.1 e) ps) ≡ Some n → value_at R ps n ≡ Some e)
        → cond (eq_by_cmp R n p.0) (Some p.1) (value_at R ps n) ≡ Some e
    by true t g low rest =
        let name : p.0 ≡ n = cc in
        let is : p.1 ≡ e = same_entity p.1 e t in
        let tied : eq_by_cmp R n p.0 ≡ true = subst (λ m. eq_by_cmp R m p.0 ≡ true) name (eq_itself R nat_list_cmp_total p.0) in
        ap (λ b. cond b (Some p.1) (value_at R ps n)) tied ∙ ap Some is
    by false t g low rest = later (eq_by_cmp R n p.0) refl (rest g) low
      where
        later : (b : Bool) → eq_by_cmp R n p.0 ≡ b → value_at R ps n ≡ Some e → below_all R p.0 ps ≡ true → cond b (Some p.1) (value_at R ps n) ≡ Some e
        later true q found low =
            let same : n ≡ p.0 = R_same n p.0 ((Equal-is (R n p.0)).0 q) in
            absurd (true≢false (sym (ap is_some found) ∙ ap is_some (ap (value_at R ps) same ∙ absent_below R nat_list_cmp_total p.0 ps low)))
        later false q found low = found

has_name : (es : List (List ℕ × EntityId)) (e : EntityId) (n : List ℕ) → value_at R es n ≡ Some e → is_some (find (λ p. entity_eq p.1 e) es) ≡ true
has_name [] e n h = absurd (true≢false (sym (ap is_some h)))
has_name (p ∷ ps) e n h = by (eq_by_cmp R n p.0) h (entity_eq p.1 e) refl (has_name ps e n)
  where
    by : (b : Bool) → cond b (Some p.1) (value_at R ps n) ≡ Some e → (c : Bool) → entity_eq p.1 e ≡ c → (value_at R ps n ≡ Some e → is_some (find (λ p. entity_eq p.1 e) ps) ≡ true)
        → is_some (cond c (Some p) (find (λ p. entity_eq p.1 e) ps)) ≡ true
    by b g true q rest = refl
    by true g false q rest = let is : p.1 ≡ e = cc in absurd (true≢false (sym (entity_eq_true p.1 e is) ∙ q))
    by false g false q rest = rest g

mapped : {A B : Type 0} (f : A → B) (o : Option A) → is_some o ≡ true → (b : B) × (option_map f o ≡ Some b)
mapped f None h = absurd (true≢false (sym h))
mapped f (Some a) h = (f a, refl)

module _ (names : Names) where
  pub get_name : (n : List ℕ) (e : EntityId) → name_in names e ≡ Some n → finite.get names n ≡ Some e
  get_name n e h = finite.get-entries names n ∙ found_name (finite.entries names) e n (from_T _ (finite.entries_sorted names)) h

  pub name_got : IsOneToOne names → (n : List ℕ) (e : EntityId) → finite.get names n ≡ Some e → name_in names e ≡ Some n
  name_got one n e h =
      let some = mapped (λ p. p.0) (find (λ p. entity_eq p.1 e) (finite.entries names)) (has_name (finite.entries names) e n (sym (finite.get-entries names n) ∙ h)) in
      some.1 ∙ ap Some (one some.0 n e (get_name some.0 e some.1) h)

  pub no_name : (e : EntityId) → IsUnnamed names e → name_in names e ≡ None
  no_name e h = by (name_in names e) refl
    where
      by : (o : Option (List ℕ)) → name_in names e ≡ o → o ≡ None
      by None p = refl
      by (Some n) p = absurd (h n (get_name n e p))

  -- an answer that is right of each name is the name
  pub name_is : IsOneToOne names → (e : EntityId) (o : Option (List ℕ)) → ((n : List ℕ) → (o ≡ Some n) ↔ (finite.get names n ≡ Some e)) → o ≡ name_in names e
  name_is one e None h = sym (no_name e (λ n g. absurd (true≢false (sym (ap is_some ((h n).1 g))))))
  name_is one e (Some n) h = sym (name_got one n e ((h n).0 refl))

-- an entity that has the same names in two maps has one name in both
pub name_kept : (old new : Names) → IsOneToOne old → IsOneToOne new → (e : EntityId) → ((n : List ℕ) → (finite.get new n ≡ Some e) ↔ (finite.get old n ≡ Some e)) → name_in new e ≡ name_in old e
name_kept old new one one' e same = name_is old one e (name_in new e) (λ n. (λ p. (same n).0 (get_name new n e p), λ p. name_got new one' n e ((same n).1 p)))

-- what is kept of a map by index, with other values
module _ {X : Type 0} (f : ℕ → ℕ → Option X) where
  abbrev pub kept : Map ℕ ℕ → Map ℕ X
  kept m = filter_map (λ e. option_map (λ x. (e.0, x)) (f e.0 e.1)) m

  below-kept : (d : ℕ) (m : Map ℕ ℕ) → below_all nat_cmp d m ≡ true → below_all nat_cmp d (kept m) ≡ true
  below-kept d [] h = refl
  below-kept d (e ∷ es) h = by (f e.0 e.1) (both_true (is_lt (nat_cmp d e.0)) (below_all nat_cmp d es) h).0 (below-kept d es (both_true (is_lt (nat_cmp d e.0)) (below_all nat_cmp d es) h).1)
    where
      by : (o : Option X) → is_lt (nat_cmp d e.0) ≡ true → below_all nat_cmp d (kept es) ≡ true → below_all nat_cmp d (cons_option (option_map (λ x. (e.0, x)) o) (kept es)) ≡ true
      by None l rest = rest
      by (Some x) l rest = λ k. l k && rest k

  pub IsMap-kept : (m : Map ℕ ℕ) → IsMap nat_cmp m → IsMap nat_cmp (kept m)
  IsMap-kept [] h = refl
  IsMap-kept (e ∷ es) h = by (f e.0 e.1) (below-kept e.0 es (both_true (below_all nat_cmp e.0 es) (is_sorted nat_cmp es) h).0) (IsMap-kept es (both_true (below_all nat_cmp e.0 es) (is_sorted nat_cmp es) h).1)
    where
      by : (o : Option X) → below_all nat_cmp e.0 (kept es) ≡ true → IsMap nat_cmp (kept es) → IsMap nat_cmp (cons_option (option_map (λ x. (e.0, x)) o) (kept es))
      by None l rest = rest
      by (Some x) l rest = λ k. l k && rest k

  pub find-kept : (m : Map ℕ ℕ) (i : ℕ) → IsMap nat_cmp m → value_at nat_cmp (kept m) i ≡ and_then (value_at nat_cmp m i) (f i)
  find-kept [] i h = refl
  find-kept (e ∷ es) i h = by (eq_by_cmp nat_cmp i e.0) refl (f e.0 e.1) refl (below-kept e.0 es (both_true (below_all nat_cmp e.0 es) (is_sorted nat_cmp es) h).0) (find-kept es i (both_true (below_all nat_cmp e.0 es) (is_sorted nat_cmp es) h).1)
    where
      by : (b : Bool) → eq_by_cmp nat_cmp i e.0 ≡ b → (o : Option X) → f e.0 e.1 ≡ o → below_all nat_cmp e.0 (kept es) ≡ true → value_at nat_cmp (kept es) i ≡ and_then (value_at nat_cmp es i) (f i)
          → value_at nat_cmp (cons_option (option_map (λ x. (e.0, x)) o) (kept es)) i ≡ and_then (cond b (Some e.1) (value_at nat_cmp es i)) (f i)
      by true p None q low rest =
          let same : i ≡ e.0 = grind (arith, nat_tests) in
          ap (value_at nat_cmp (kept es)) same ∙ absent_below nat_cmp nat_cmp_total e.0 (kept es) low ∙ sym (ap (λ j. f j e.1) same ∙ q)
      by true p (Some x) q low rest =
          let same : i ≡ e.0 = grind (arith, nat_tests) in
          ap (λ b. cond b (Some x) (value_at nat_cmp (kept es) i)) p ∙ sym (ap (λ j. f j e.1) same ∙ q)
      by false p None q low rest = rest
      by false p (Some x) q low rest = ap (λ b. cond b (Some x) (value_at nat_cmp (kept es) i)) p ∙ rest

abbrev entity : ℕ → ℕ → EntityId
entity i g = record { index = i; generation = g }

pub IsMap-names : (names : Names) (live : Map ℕ ℕ) → IsMap nat_cmp live → IsMap nat_cmp (names_of names live)
IsMap-names names live h = IsMap-kept (λ i g. name_in names (entity i g)) live h

pub names_at : (names : Names) (live : Map ℕ ℕ) (i : ℕ) → IsMap nat_cmp live → value_at nat_cmp (names_of names live) i ≡ and_then (value_at nat_cmp live i) (λ g. name_in names (entity i g))
names_at names live i h = find-kept (λ i g. name_in names (entity i g)) live i h

pub same_names : (xs ys : Map ℕ (List ℕ)) → IsMap nat_cmp xs → IsMap nat_cmp ys → ((q : ℕ) → value_at nat_cmp xs q ≡ value_at nat_cmp ys q) → xs ≡ ys
same_names xs ys g h same = same_entries nat_cmp nat_cmp_total nat_cmp-IsAntisymmetric xs ys (to_T _ g) (to_T _ h) same

-- the entity found by a name in a map by index
found_named : (n : List ℕ) (m : Map ℕ (List ℕ)) (p : ℕ × List ℕ) → IsMap nat_cmp m → find (λ e. bytes_eq n e.1) m ≡ Some p → value_at nat_cmp m p.0 ≡ Some n
found_named n [] p s h = cc
found_named n (e ∷ es) p s h = by (bytes_eq n e.1) refl h (both_true (below_all nat_cmp e.0 es) (is_sorted nat_cmp es) s).0 (found_named n es p (both_true (below_all nat_cmp e.0 es) (is_sorted nat_cmp es) s).1)
  where
    by : (b : Bool) → bytes_eq n e.1 ≡ b → cond b (Some e) (find (λ e. bytes_eq n e.1) es) ≡ Some p → below_all nat_cmp e.0 es ≡ true
        → (find (λ e. bytes_eq n e.1) es ≡ Some p → value_at nat_cmp es p.0 ≡ Some n) → cond (eq_by_cmp nat_cmp p.0 e.0) (Some e.1) (value_at nat_cmp es p.0) ≡ Some n
    by true q g low rest =
        let is : e ≡ p = cc in
        let name : n ≡ e.1 = (bytes_eq-Decides n e.1).0 q in
        ap (λ b. cond b (Some e.1) (value_at nat_cmp es p.0)) (subst (λ z. eq_by_cmp nat_cmp z.0 e.0 ≡ true) is (eq_itself nat_cmp nat_cmp_total e.0)) ∙ ap Some (sym name)
    by false q g low rest = later (eq_by_cmp nat_cmp p.0 e.0) refl (rest g) low
      where
        later : (b : Bool) → eq_by_cmp nat_cmp p.0 e.0 ≡ b → value_at nat_cmp es p.0 ≡ Some n → below_all nat_cmp e.0 es ≡ true → cond b (Some e.1) (value_at nat_cmp es p.0) ≡ Some n
        later true t found low =
            let same : p.0 ≡ e.0 = grind (arith, nat_tests) in
            absurd (true≢false (sym (ap is_some found) ∙ ap is_some (ap (value_at nat_cmp es) same ∙ absent_below nat_cmp nat_cmp_total e.0 es low)))
        later false t found low = found

has_named : (n : List ℕ) (m : Map ℕ (List ℕ)) (i : ℕ) → value_at nat_cmp m i ≡ Some n → is_some (find (λ e. bytes_eq n e.1) m) ≡ true
has_named n [] i h = absurd (true≢false (sym (ap is_some h)))
has_named n (e ∷ es) i h = by (eq_by_cmp nat_cmp i e.0) h (bytes_eq n e.1) refl (has_named n es i)
  where
    by : (b : Bool) → cond b (Some e.1) (value_at nat_cmp es i) ≡ Some n → (c : Bool) → bytes_eq n e.1 ≡ c → (value_at nat_cmp es i ≡ Some n → is_some (find (λ e. bytes_eq n e.1) es) ≡ true)
        → is_some (cond c (Some e) (find (λ e. bytes_eq n e.1) es)) ≡ true
    by b g true q rest = refl
    by true g false q rest = let is : n ≡ e.1 = cc in absurd (true≢false (sym ((bytes_eq-Decides n e.1).1 is) ∙ q))
    by false g false q rest = rest g

-- what is known of the names in a world
pub record AreNamed (names : Names) (live : Map ℕ ℕ) : Type 0 where
  pub in_order : IsMap nat_cmp live
  pub one : IsOneToOne names
  pub named : (n : List ℕ) (e : EntityId) → finite.get names n ≡ Some e → value_at nat_cmp live e.index ≡ Some e.generation

module _ (names : Names) (live : Map ℕ ℕ) (h : AreNamed names live) where
  of_live : (i : ℕ) (n : List ℕ) (o : Option ℕ) → and_then o (λ g. name_in names (entity i g)) ≡ Some n → (g : ℕ) × (name_in names (entity i g) ≡ Some n)
  of_live i n None p = cc
  of_live i n (Some g) p = (g, p)

  got_at : (i : ℕ) (n : List ℕ) → value_at nat_cmp (names_of names live) i ≡ Some n → (g : ℕ) × (finite.get names n ≡ Some (entity i g))
  got_at i n p = let of = of_live i n (value_at nat_cmp live i) (sym (names_at names live i h.in_order) ∙ p) in (of.0, get_name names n (entity i of.0) of.1)

  at_got : (n : List ℕ) (e : EntityId) → finite.get names n ≡ Some e → value_at nat_cmp (names_of names live) e.index ≡ Some n
  at_got n e p = names_at names live e.index h.in_order ∙ ap (λ o. and_then o (λ g. name_in names (entity e.index g))) (h.named n e p) ∙ name_got names h.one n e p

  -- the index of a name is that of the entity which the finite map has
  pub named_got : (n : List ℕ) → option_map (λ e. e.index) (finite.get names n) ≡ option_map (λ e. e.0) (find (λ e. bytes_eq n e.1) (names_of names live))
  named_got n = by (finite.get names n) refl (find (λ e. bytes_eq n e.1) (names_of names live)) refl
    where
      by : (o : Option EntityId) → finite.get names n ≡ o → (f : Option (ℕ × List ℕ)) → find (λ e. bytes_eq n e.1) (names_of names live) ≡ f → option_map (λ e. e.index) o ≡ option_map (λ e. e.0) f
      by None p None q = refl
      by None p (Some x) q =
          let got = got_at x.0 n (found_named n (names_of names live) x (IsMap-names names live h.in_order) q) in
          absurd (true≢false (sym (ap is_some got.1) ∙ ap is_some p))
      by (Some e) p None q = absurd (true≢false (sym (has_named n (names_of names live) e.index (at_got n e p)) ∙ ap is_some q))
      by (Some e) p (Some x) q =
          let got = got_at x.0 n (found_named n (names_of names live) x (IsMap-names names live h.in_order) q) in
          let same : Some e ≡ Some (entity x.0 got.0) = sym p ∙ got.1 in
          let is : e ≡ entity x.0 got.0 = cc in
          ap (λ f. Some f.index) is

  -- an entity that isn't live has no name
  pub unnamed : (e : EntityId) → value_at nat_cmp live e.index ≡ None → IsUnnamed names e
  unnamed e none n p = true≢false (sym (ap is_some (h.named n e p)) ∙ ap is_some none)

  module _ (e : EntityId) (fresh : value_at nat_cmp live e.index ≡ None) where
    abbrev live' : Map ℕ ℕ
    live' = with_value nat_cmp live e.index e.generation

    live'_is : IsMap nat_cmp live'
    live'_is = IsMap-with_value nat_cmp nat_cmp_total live e.index e.generation h.in_order

    -- with a new entity that has no name, the names are as they were
    pub names_same : names_of names live' ≡ names_of names live
    names_same = same_names (names_of names live') (names_of names live) (IsMap-names names live' live'_is) (IsMap-names names live h.in_order) (λ j. names_at names live' j live'_is ∙ by j (nat_value_at live e.index e.generation j))
      where
        by : (j : ℕ) → ((j ≡ e.index) × (value_at nat_cmp live' j ≡ Some e.generation)) ⊎ ((j ≢ e.index) × (value_at nat_cmp live' j ≡ value_at nat_cmp live j))
            → and_then (value_at nat_cmp live' j) (λ g. name_in names (entity j g)) ≡ value_at nat_cmp (names_of names live) j
        by j (inl p) =
            ap (λ o. and_then o (λ g. name_in names (entity j g))) p.1 ∙ ap (λ i. name_in names (entity i e.generation)) p.0 ∙ no_name names e (unnamed e fresh)
            ∙ sym (ap (value_at nat_cmp (names_of names live)) p.0 ∙ names_at names live e.index h.in_order ∙ ap (λ o. and_then o (λ g. name_in names (entity e.index g))) fresh)
        by j (inr p) = ap (λ o. and_then o (λ g. name_in names (entity j g))) p.1 ∙ sym (names_at names live j h.in_order)

    pub AreNamed-same : AreNamed names live'
    AreNamed-same = record {
      in_order = live'_is;
      one = h.one;
      named = λ n f p. elim (nat_value_at live e.index e.generation f.index) [
        | inl q ↦ absurd (true≢false (sym (ap is_some (h.named n f p)) ∙ ap is_some (ap (value_at nat_cmp live) q.0 ∙ fresh)))
        | inr q ↦ q.1 ∙ h.named n f p
      ];
    }

    -- with a new entity of a new name
    module _ (n : List ℕ) where
      abbrev names' : Names
      names' = finite.insert names n e

      got' : (m : List ℕ) → finite.get names' m ≡ cond (eq_by_cmp R m n) (Some e) (finite.get names m)
      got' m = finite.get-insert nat_list_cmp_total names n e m

      got_new : finite.get names' n ≡ Some e
      got_new = got' n ∙ ap (λ b. cond b (Some e) (finite.get names n)) (eq_itself R nat_list_cmp_total n)

      only_new : (m : List ℕ) (b : Bool) → eq_by_cmp R m n ≡ b → cond b (Some e) (finite.get names m) ≡ Some e → m ≡ n
      only_new m true p g = R_same m n ((Equal-is (R m n)).0 p)
      only_new m false p g = absurd (unnamed e fresh m g)

      others : (free : finite.get names n ≡ None) (m : List ℕ) (f : EntityId) → f ≢ e → (finite.get names' m ≡ Some f) ↔ (finite.get names m ≡ Some f)
      others free m f d = by (eq_by_cmp R m n) refl
        where
          by : (b : Bool) → eq_by_cmp R m n ≡ b → (finite.get names' m ≡ Some f) ↔ (finite.get names m ≡ Some f)
          by true p =
              let is : finite.get names' m ≡ Some e = got' m ∙ ap (λ b. cond b (Some e) (finite.get names m)) p in
              let none : finite.get names m ≡ None = ap (finite.get names) (R_same m n ((Equal-is (R m n)).0 p)) ∙ free in
              (λ g. absurd (d (let s : Some e ≡ Some f = sym is ∙ g in let t : e ≡ f = cc in sym t)), λ g. absurd (true≢false (sym (ap is_some g) ∙ ap is_some none)))
          by false p =
              let is : finite.get names' m ≡ finite.get names m = got' m ∙ ap (λ b. cond b (Some e) (finite.get names m)) p in
              (λ g. sym is ∙ g, λ g. is ∙ g)

      same_or_not : (f : EntityId) → (f ≡ e) ⊎ (f ≢ e)
      same_or_not f = by (entity_eq f e) refl
        where
          by : (b : Bool) → entity_eq f e ≡ b → (f ≡ e) ⊎ (f ≢ e)
          by true p = inl (same_entity f e p)
          by false p = inr (λ q. true≢false (sym (entity_eq_true f e q) ∙ p))

      module _ (free : finite.get names n ≡ None) where
        one' : IsOneToOne names'
        one' m k f p q = elim (same_or_not f) [
          | inl is ↦ only_new m (eq_by_cmp R m n) refl (sym (got' m) ∙ p ∙ ap Some is) ∙ sym (only_new k (eq_by_cmp R k n) refl (sym (got' k) ∙ q ∙ ap Some is))
          | inr d ↦ h.one m k f ((others free m f d).0 p) ((others free k f d).0 q)
        ]

        pub AreNamed-bound : AreNamed names' live'
        AreNamed-bound = record {
          in_order = live'_is;
          one = one';
          named = λ m f p. elim (same_or_not f) [
            | inl is ↦ elim (nat_value_at live e.index e.generation f.index) [
              | inl q ↦ q.1 ∙ ap (λ x. Some x.generation) (sym is)
              | inr q ↦ absurd (q.0 (ap (λ x. x.index) is))
            ]
            | inr d ↦ let old = h.named m f ((others free m f d).0 p) in
                elim (nat_value_at live e.index e.generation f.index) [
                  | inl q ↦ absurd (true≢false (sym (ap is_some old) ∙ ap is_some (ap (value_at nat_cmp live) q.0 ∙ fresh)))
                  | inr q ↦ q.1 ∙ old
                ]
          ];
        }

        pub names_bound : names_of names' live' ≡ with_value nat_cmp (names_of names live) e.index n
        names_bound = same_names (names_of names' live') (with_value nat_cmp (names_of names live) e.index n) (IsMap-names names' live' live'_is)
            (IsMap-with_value nat_cmp nat_cmp_total (names_of names live) e.index n (IsMap-names names live h.in_order))
            (λ j. names_at names' live' j live'_is ∙ by j (nat_value_at live e.index e.generation j) (nat_value_at (names_of names live) e.index n j))
          where
            by : (j : ℕ) → ((j ≡ e.index) × (value_at nat_cmp live' j ≡ Some e.generation)) ⊎ ((j ≢ e.index) × (value_at nat_cmp live' j ≡ value_at nat_cmp live j))
                → ((j ≡ e.index) × (value_at nat_cmp (with_value nat_cmp (names_of names live) e.index n) j ≡ Some n)) ⊎ ((j ≢ e.index) × (value_at nat_cmp (with_value nat_cmp (names_of names live) e.index n) j ≡ value_at nat_cmp (names_of names live) j))
                → and_then (value_at nat_cmp live' j) (λ g. name_in names' (entity j g)) ≡ value_at nat_cmp (with_value nat_cmp (names_of names live) e.index n) j
            by j (inl p) (inl q) = ap (λ o. and_then o (λ g. name_in names' (entity j g))) p.1 ∙ ap (λ i. name_in names' (entity i e.generation)) p.0 ∙ name_got names' one' n e got_new ∙ sym q.1
            by j (inl p) (inr q) = absurd (q.0 p.0)
            by j (inr p) (inl q) = absurd (p.0 q.0)
            by j (inr p) (inr q) = ap (λ o. and_then o (λ g. name_in names' (entity j g))) p.1 ∙ kept_at (value_at nat_cmp live j) ∙ sym (names_at names live j h.in_order) ∙ sym q.1
              where
                kept_at : (o : Option ℕ) → and_then o (λ g. name_in names' (entity j g)) ≡ and_then o (λ g. name_in names (entity j g))
                kept_at None = refl
                kept_at (Some g) = name_kept names names' h.one one' (entity j g) (λ m. others free m (entity j g) (λ is. p.0 (ap (λ x. x.index) is)))

-- a name that is freed after it was bound leaves the names as they were
pub bound_and_freed : (names : Names) (n : List ℕ) (e : EntityId) → finite.get names n ≡ None → finite.remove (finite.insert names n e) n ≡ names
bound_and_freed names n e free = finite.same_map nat_list_cmp_total R_same _ names (λ q. finite.get-remove nat_list_cmp_total (finite.insert names n e) n q ∙ by q (eq_by_cmp R q n) refl)
  where
    by : (q : List ℕ) (b : Bool) → eq_by_cmp R q n ≡ b → cond b None (finite.get (finite.insert names n e) q) ≡ finite.get names q
    by q true p = sym (ap (finite.get names) (R_same q n ((Equal-is (R q n)).0 p)) ∙ free)
    by q false p = finite.get-insert nat_list_cmp_total names n e q ∙ ap (λ b. cond b (Some e) (finite.get names q)) p

-- what was bound and then is freed
pub freed : (names names' names'' : Names) (n : List ℕ) (e : EntityId) → finite.get names n ≡ None → names' ≡ finite.insert names n e
    → ((m : List ℕ) → finite.get names' m ≡ Some e → names'' ≡ finite.remove names' m) → names'' ≡ names
freed names names' names'' n e free bound gone =
    let there : finite.get names' n ≡ Some e = ap (λ ns. finite.get ns n) bound ∙ finite.get-insert nat_list_cmp_total names n e n ∙ ap (λ b. cond b (Some e) (finite.get names n)) (eq_itself R nat_list_cmp_total n) in
    gone n there ∙ ap (λ ns. finite.remove ns n) bound ∙ bound_and_freed names n e free
