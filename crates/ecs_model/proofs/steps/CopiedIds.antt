-- What a copied id is, and the facts with copies, one by one.
use Rattle.std.proofs.Common.{◌≡◌, ℕ, suc, ◌==◌, ◌⊎◌, ◌↔◌, Bool, true, false, cond, not, ◌&&◌, ◌||◌, IsTrue, List, [], ◌∷◌, ◌++◌, length, refl, sym, ap, subst, ◌∙◌, inl, inr, arith, true≢false}
use Rattle.std.specs.Prelude.{ℤ, Option, Some, None, fold, filter, filter_map, is_some, unwrap_or, if◌then◌else◌}
use Rattle.std.specs.List.{Contains, list_any}
use Rattle.std.specs.Option.{option_map_or}
use Rattle.std.proofs.lemmas.Bool.Decides.{nat_tests}
use Rattle.std.proofs.lemmas.List.Elements.{Contains-append_left, Contains-append_right}
use Rattle.ecs_id.specs.Id.{Id, plain, pair, first_of, id_eq, id_eq_itself}
use Rattle.ecs_model.specs.Added.{IsAdded, is_exclusive, is_symmetric}
use Rattle.ecs_model.specs.BuiltIns.{exclusive, symmetric, traversable}
use Rattle.ecs_model.specs.Copied.{has_pair, is_copied, is_inherited, is_withheld, stays_behind, takes, takes_pair}
use Rattle.ecs_model.specs.Links.{is_held, target_under}
use Rattle.ecs_model.specs.Map.{Map, IsMap, has_key, keys, value_at, with_value}
use Rattle.ecs_model.specs.Sets.{Set}
use Rattle.ecs_model.specs.World.{WorldState, Key, key_cmp, holds, ids_of, value_of}
use Rattle.ecs_model.specs.steps.FactChanges.{added, copied, own_ids}
use Rattle.ecs_model.specs.steps.Rules.{is_trait}
use Rattle.ecs_model.proofs.Maps.{IsMap-with_value, fact_value_at, key_cmp_same, key_cmp_total}
use Rattle.ecs_model.proofs.Members.{any_passes, both, eq_itself, filtered, from_or, head_or_tail, in_filter_map, or_left, or_right}
use Rattle.ecs_model.proofs.Reasons.{denied, refused}
use Rattle.ecs_model.proofs.steps.Facts.{held_listed, is_held-holds, key_there, listed_held}
use Rattle.ecs_model.proofs.steps.LivingIds.{refuted}

-- a fact is copied from this base, if there is one
abbrev pub CopiedFrom : (w : WorldState) → ℕ → Id → Option ℕ → Key → Type 0
CopiedFrom w e i o k = (b : ℕ) × (o ≡ Some b) × (k.0 ≡ e) × Contains (copied w e i b) k.1

-- what comes: the added set, and the copies from a base, if there is one
abbrev pub Comes : WorldState → ℕ → Id → Option ℕ → Key → Type 0
Comes w e i o q = IsAdded (ids_of w) (e, i) q ⊎ CopiedFrom w e i o q

module _ (w : WorldState) (e : ℕ) (i : Id) where
  -- an id that is held or added is one of the entity's own
  own_listed : (c : Id) → (holds w e c ≡ true) ⊎ (has_key key_cmp (added w e i) (e, c) ≡ true) → Contains (own_ids w e i) c
  own_listed c (inl held) = Contains-append_left (ids_of w e) (filter_map (λ k. if k.0 == e then Some k.1 else None) (keys (added w e i))) c (held_listed w e c held)
  own_listed c (inr new) =
      Contains-append_right (ids_of w e) (filter_map (λ k. if k.0 == e then Some k.1 else None) (keys (added w e i))) c
      (in_filter_map (λ (k : Key). if k.0 == e then Some k.1 else None) (keys (added w e i)) (e, c) c (key_there key_cmp key_cmp_same (added w e i) (e, c) new) (rw (eq_itself e) refl))

  own_pair : (r t : ℕ) → Contains (own_ids w e i) (pair r t) → has_pair (own_ids w e i) r ≡ true
  own_pair r t c = any_passes (λ j. is_some (target_under r j)) (own_ids w e i) (pair r t) c (rw (eq_itself r) refl)

  module _ (b : ℕ) where
    -- what the tests of a copied id say
    passes : (c : Id) → Contains (copied w e i b) c → (holds w b c ≡ true) × (is_copied (ids_of w) (own_ids w e i) c ≡ true)
    unfolding copied
    passes c h = let f = (filtered (is_copied (ids_of w) (own_ids w e i)) (ids_of w b) c).0 h in (listed_held w b c f.0, f.1)

    last_three : (m n s o t : Bool) → (not m && not n && not s && not o && t) ≡ true → (s ≡ false) × (o ≡ false) × (t ≡ true)
    last_three false false false false t h = (refl, refl, h)
    last_three true n s o t h = absurd (true≢false (sym h))
    last_three false true s o t h = absurd (true≢false (sym h))
    last_three false false true o t h = absurd (true≢false (sym h))
    last_three false false false true t h = absurd (true≢false (sym h))

    tested : (c : Id) → Contains (copied w e i b) c → (stays_behind c ≡ false) × (is_held (own_ids w e i) c ≡ false) × (takes (ids_of w) (own_ids w e i) c ≡ true)
    tested c h =
        last_three (is_inherited (ids_of w) (first_of c)) (is_withheld (ids_of w) (first_of c)) (stays_behind c) (is_held (own_ids w e i) c) (takes (ids_of w) (own_ids w e i) c) (passes c h).1

    -- the base holds it
    pub of_base : (c : Id) → Contains (copied w e i b) c → holds w b c ≡ true
    of_base c h = (passes c h).0

    -- it is no trait
    pub no_trait : (c : Id) → Contains (copied w e i b) c → is_trait c ≡ false
    no_trait (plain c) h = last (c == 3) (c == 4) (c == 5) (is_trait (plain c)) (tested (plain c) h).0
      where
        last : (p q r s : Bool) → (p || q || r || s) ≡ false → s ≡ false
        last false false false s h = h
        last true q r s h = absurd (true≢false h)
        last false true r s h = absurd (true≢false h)
        last false false true s h = absurd (true≢false h)
    no_trait (pair r t) h = (tested (pair r t) h).0

    -- it is neither held nor added
    not_own : (c : Id) → Contains (copied w e i b) c → (holds w e c ≡ true) ⊎ (has_key key_cmp (added w e i) (e, c) ≡ true) → ⊥
    not_own c h o = true≢false (sym (any_passes (λ j. id_eq j c) (own_ids w e i) c (own_listed c o) (id_eq_itself c)) ∙ (tested c h).1)

    pub not_held : (c : Id) → Contains (copied w e i b) c → holds w e c ≡ false
    not_held c h = refuted (holds w e c) (λ t. not_own c h (inl t))

    pub not_added : (c : Id) → Contains (copied w e i b) c → has_key key_cmp (added w e i) (e, c) ≡ false
    not_added c h = refuted (has_key key_cmp (added w e i) (e, c)) (λ t. not_own c h (inr t))

    three : (p q r : Bool) → (not p && not q && not r) ≡ true → (p ≡ false) × (q ≡ false) × (r ≡ false)
    three false false false h = (refl, refl, refl)
    three true q r h = absurd (true≢false (sym h))
    three false true r h = absurd (true≢false (sym h))
    three false false true h = absurd (true≢false (sym h))

    pair_tests : (r t : ℕ) → Contains (copied w e i b) (pair r t)
        → (is_held (ids_of w r) (plain traversable) ≡ false) × (is_symmetric (ids_of w) r ≡ false) × ((is_exclusive (ids_of w) r && has_pair (own_ids w e i) r) ≡ false)
    pair_tests r t h =
        three (is_held (ids_of w r) (plain traversable)) (is_symmetric (ids_of w) r) (is_exclusive (ids_of w) r && has_pair (own_ids w e i) r) (tested (pair r t) h).2

    -- the relationship of a copied pair has no mirrors
    pub not_symmetric : (r t : ℕ) → Contains (copied w e i b) (pair r t) → holds w r (plain symmetric) ≡ false
    not_symmetric r t h = sym (is_held-holds w r (plain symmetric)) ∙ (pair_tests r t h).1

    -- and the entity has no other pair of one that is exclusive, nor is one added
    pub no_other : (r t u : ℕ) → Contains (copied w e i b) (pair r t) → holds w r (plain exclusive) ≡ true → (holds w e (pair r u) ≡ true) ⊎ (has_key key_cmp (added w e i) (e, pair r u) ≡ true) → ⊥
    no_other r t u h x o = clash (is_exclusive (ids_of w) r) (has_pair (own_ids w e i) r) (is_held-holds w r (plain exclusive) ∙ x) (own_pair r u (own_listed (pair r u) o)) (pair_tests r t h).2
      where
        clash : (p q : Bool) → p ≡ true → q ≡ true → (p && q) ≡ false → ⊥
        clash true true f g h = true≢false h
        clash true false f g h = true≢false (sym g)
        clash false q f g h = true≢false (sym f)

-- a map with something more at each of an entity's ids
module _ {X : Type 0} (e : ℕ) (value : Id → X) where
  abbrev pub with_each : Map Key X → List Id → Map Key X
  with_each m cs = fold (λ m c. with_value key_cmp m (e, c) (value c)) m cs

  pub IsMap-with_each : (m : Map Key X) (cs : List Id) → IsMap key_cmp m → IsMap key_cmp (with_each m cs)
  IsMap-with_each m [] h = h
  IsMap-with_each m (c ∷ cs) h = IsMap-with_each (with_value key_cmp m (e, c) (value c)) cs (IsMap-with_value key_cmp key_cmp_total m (e, c) (value c) h)

  abbrev IsAmong : List Id → Key → Type 0
  IsAmong cs q = (q.0 ≡ e) × Contains cs q.1

  -- each is one of these, or as it was
  pub value-with_each : (cs : List Id) (m : Map Key X) (q : Key)
      → (IsAmong cs q × (value_at key_cmp (with_each m cs) q ≡ Some (value q.1))) ⊎ (¬ (IsAmong cs q) × (value_at key_cmp (with_each m cs) q ≡ value_at key_cmp m q))
  value-with_each [] m q = inr (λ a. omega (arith, (a.1).1), refl)
  value-with_each (c ∷ cs) m q =
      elim (value-with_each cs (with_value key_cmp m (e, c) (value c)) q) [
        | inl p ↦ inl (((p.0).0, Contains-append_right (c ∷ []) cs q.1 (p.0).1), p.1)
        | inr p ↦ elim (fact_value_at m (e, c) (value c) q) [
          | inl n ↦ inl ((ap (λ (k : Key). k.0) n.0, (0, omega arith, sym (ap (λ (k : Key). k.1) n.0))), p.1 ∙ n.1 ∙ ap (λ (k : Key). Some (value k.1)) (sym n.0))
          | inr n ↦ inr (
            λ a. elim (head_or_tail c q.1 cs a.1) [ inl s ↦ n.0 (λ j. (a.0 j, sym s j)) | inr t ↦ p.0 (a.0, t) ],
            p.1 ∙ n.1,
          )
        ]
      ]

-- the value that a copy has
abbrev pub base_value : WorldState → ℕ → Id → List ℤ
base_value w b c = unwrap_or (value_of w b c) []

-- the facts with the copies from this base, if there is one
abbrev pub with_base : (w : WorldState) → ℕ → Id → Map Key (List ℤ) → Option ℕ → Map Key (List ℤ)
with_base w e i m o = option_map_or (λ b. with_each e (base_value w b) m (copied w e i b)) o m

-- what comes with such a base, as a set
abbrev pub coming_with : (w : WorldState) → ℕ → Id → Option ℕ → Set Key
coming_with w e i o = option_map_or (λ b. with_each e (λ c. tt) (added w e i) (copied w e i b)) o (added w e i)

-- the value of a fact of the base
pub some_value : (o : Option (List ℤ)) → is_some o ≡ true → Some (unwrap_or o []) ≡ o
some_value None h = absurd (true≢false (sym h))
some_value (Some x) h = refl

module _ (w : WorldState) (e : ℕ) (i : Id) where
  pub IsMap-with_base : (m : Map Key (List ℤ)) (o : Option ℕ) → IsMap key_cmp m → IsMap key_cmp (with_base w e i m o)
  IsMap-with_base m None h = h
  IsMap-with_base m (Some b) h = IsMap-with_each e (base_value w b) m (copied w e i b) h

  -- each is a copy of the base's, or as it was
  pub value-with_base : (m : Map Key (List ℤ)) (o : Option ℕ) (q : Key)
      → ((b : ℕ) × (o ≡ Some b) × (q.0 ≡ e) × Contains (copied w e i b) q.1 × (value_at key_cmp (with_base w e i m o) q ≡ value_of w b q.1))
      ⊎ (¬ (CopiedFrom w e i o q) × (value_at key_cmp (with_base w e i m o) q ≡ value_at key_cmp m q))
  value-with_base m None q = inr (λ c. (cc), refl)
  value-with_base m (Some b) q =
      elim (value-with_each e (base_value w b) (copied w e i b) m q) [
        | inl p ↦ inl (b, refl, (p.0).0, (p.0).1, p.1 ∙ some_value (value_of w b q.1) (of_base w e i b q.1 (p.0).1))
        | inr p ↦ inr (λ c. let same : b ≡ c.0 = cc in p.0 (c.2, rw same c.3), p.1)
      ]

  pub IsMap-coming : (o : Option ℕ) → IsMap key_cmp (added w e i) → IsMap key_cmp (coming_with w e i o)
  IsMap-coming None h = h
  IsMap-coming (Some b) h = IsMap-with_each e (λ c. tt) (added w e i) (copied w e i b) h

  -- what comes is copied, or added
  pub coming_at : (o : Option ℕ) (q : Key)
      → (CopiedFrom w e i o q × (has_key key_cmp (coming_with w e i o) q ≡ true)) ⊎ (¬ (CopiedFrom w e i o q) × (has_key key_cmp (coming_with w e i o) q ≡ has_key key_cmp (added w e i) q))
  coming_at None q = inr (λ c. (cc), refl)
  coming_at (Some b) q =
      elim (value-with_each e (λ c. tt) (copied w e i b) (added w e i) q) [
        | inl p ↦ inl ((b, refl, (p.0).0, (p.0).1), ap is_some p.1)
        | inr p ↦ inr (λ c. let same : b ≡ c.0 = cc in p.0 (c.2, rw same c.3), ap is_some p.1)
      ]
