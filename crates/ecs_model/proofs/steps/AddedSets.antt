-- The added set: what its members are, that they mention live entities, and that the rounds give them all.
use Rattle.std.proofs.Common.{◌≡◌, ℕ, ◌*◌, ◌⊎◌, ◌↔◌, Bool, true, false, cond, ◌&&◌, IsTrue, List, [], ◌∷◌, ◌++◌, length, refl, sym, ap, ◌∙◌, inl, inr, arith, true≢false}
use Rattle.std.specs.Prelude.{map}
use Rattle.std.specs.List.{Contains, list_all}
use Rattle.std.specs.Cmp.{Equal-is}
use Rattle.std.proofs.lemmas.List.{length-append, length-map}
use Rattle.std.proofs.lemmas.List.Sums.{list_all-from_AllPass}
use Rattle.std.proofs.lemmas.List.Elements.{Contains-append_cases, Contains-append_left, Contains-append_right}
use Rattle.ecs_id.specs.Id.{Id, plain, pair, first_of, mentioned, target_or_zero}
use Rattle.ecs_model.specs.Added.{IsAdded, brought, is_symmetric, mirror, with_first}
use Rattle.ecs_model.specs.BuiltIns.{with_trait, symmetric}
use Rattle.ecs_model.specs.Links.{upward}
use Rattle.ecs_model.specs.Map.{has_key}
use Rattle.ecs_model.specs.Reach.{itself, onward}
use Rattle.ecs_model.specs.World.{WorldState, Key, key_cmp, entities, holds, ids_of, is_live}
use Rattle.ecs_model.specs.steps.FactChanges.{added}
use Rattle.ecs_model.specs.steps.WellFormed.{IsWellFormed}
use Rattle.ecs_model.specs.steps.StepLaws.{AddedIsLeast}
use Rattle.ecs_model.proofs.LeastSets.{within_is_least}
use Rattle.ecs_model.proofs.Maps.{key_cmp_same, key_cmp_total, both_true}
use Rattle.ecs_model.proofs.Members.{head_or_tail}
use Rattle.ecs_model.proofs.steps.Facts.{is_held-holds, leads_holds, live_listed}
use Rattle.ecs_model.proofs.steps.LivingIds.{mentioned_lives}

pub in_map : {A B : Type 0} (f : A → B) (xs : List A) (x : A) → Contains xs x → Contains (map f xs) (f x)
in_map f [] x h = absurd (omega (arith, h.1))
in_map f (y ∷ ys) x h =
    elim (head_or_tail y x ys h) [ inl e ↦ (0, omega arith, ap f e) | inr t ↦ Contains-append_right (f y ∷ []) (map f ys) (f x) (in_map f ys x t) ]

pub from_map : {A B : Type 0} (f : A → B) (xs : List A) (y : B) → Contains (map f xs) y → (x : A) × Contains xs x × (f x ≡ y)
from_map f [] y h = absurd (omega (arith, h.1))
from_map f (x ∷ xs) y h =
    elim (head_or_tail (f x) y (map f xs) h) [
      | inl e ↦ (x, (0, omega arith, refl), e)
      | inr t ↦ let r = from_map f xs y t in (r.0, Contains-append_right (x ∷ []) xs r.0 r.1, r.2)
    ]

-- the one thing that stands where a test passes
pub from_one : {A : Type 0} (b : Bool) (x y : A) → Contains (cond b (x ∷ []) []) y → (b ≡ true) × (x ≡ y)
from_one true x y h = elim (head_or_tail x y [] h) [ inl e ↦ (refl, e) | inr t ↦ absurd (omega (arith, t.1)) ]
from_one false x y h = absurd (omega (arith, h.1))

pub in_one : {A : Type 0} (b : Bool) (x : A) → b ≡ true → Contains (cond b (x ∷ []) []) x
in_one true x e = (0, omega arith, refl)
in_one false x e = absurd (true≢false (sym e))

-- a member of the added set has this id as component or relationship: a plain id is one of the entity, a pair leads from the entity to the target or back
abbrev pub HasForm : ℕ → Id → ℕ → Key → Type 0
HasForm e (plain d) c k = k ≡ (e, plain c)
HasForm e (pair r t) c k = (k ≡ (e, pair c t)) ⊎ (k ≡ (t, pair c e))

module _ (w : WorldState) where
  abbrev ids : ℕ → List Id
  ids = ids_of w

  -- the mirror of a pair
  pub from_mirror : (e r t : ℕ) (z : Key) → Contains (mirror ids (e, pair r t)) z → (holds w r (plain symmetric) ≡ true) × ((t, pair r e) ≡ z)
  from_mirror e r t z h =
      let found = from_one {A = Key} (is_symmetric ids r) (t, pair r e) z h in (sym (is_held-holds w r (plain symmetric)) ∙ found.0, found.1)

  pub in_mirror : (e r t : ℕ) → holds w r (plain symmetric) ≡ true → Contains (mirror ids (e, pair r t)) (t, pair r e)
  in_mirror e r t h = in_one {A = Key} (is_symmetric ids r) (t, pair r e) (is_held-holds w r (plain symmetric) ∙ h)

  -- what a member brings has the same form, with an id that With leads to or its own
  pub by_with : (k : Key) (z : Key) → Contains (map (λ c. (k.0, with_first c k.1)) (upward ids with_trait (first_of k.1))) z
      → (d : ℕ) × (holds w (first_of k.1) (pair with_trait d) ≡ true) × ((k.0, with_first d k.1) ≡ z)
  by_with k z h =
      let found = from_map (λ c. (k.0, with_first c k.1)) (upward ids with_trait (first_of k.1)) z h in
      (found.0, leads_holds w with_trait (first_of k.1) found.0 found.1, found.2)

  abbrev Follows : ℕ → Id → ℕ → Key → Type 0
  Follows e i c z = (d : ℕ) × HasForm e i d z × ((d ≡ c) ⊎ (holds w c (pair with_trait d) ≡ true))

  brought_plain : (e c : ℕ) (z : Key) → Contains (brought ids (e, plain c)) z → (d : ℕ) × (z ≡ (e, plain d)) × ((d ≡ c) ⊎ (holds w c (pair with_trait d) ≡ true))
  brought_plain e c z h =
      elim (Contains-append_cases (map (λ d. (e, plain d)) (upward ids with_trait c)) [] z h) [
        | inl n ↦ let f = by_with (e, plain c) z n in (f.0, sym f.2, inr f.1)
        | inr n ↦ absurd (omega (arith, n.1))
      ]

  brought_pair : (e c t : ℕ) (z : Key) → Contains (brought ids (e, pair c t)) z
      → (d : ℕ) × ((z ≡ (e, pair d t)) ⊎ (z ≡ (t, pair d e))) × ((d ≡ c) ⊎ (holds w c (pair with_trait d) ≡ true))
  brought_pair e c t z h =
      elim (Contains-append_cases (map (λ d. (e, pair d t)) (upward ids with_trait c)) (mirror ids (e, pair c t)) z h) [
        | inl n ↦ let f = by_with (e, pair c t) z n in (f.0, inl (sym f.2), inr f.1)
        | inr n ↦ let f = from_mirror e c t z n in (c, inr (sym f.1), inl refl)
      ]

  turned : {A B : Type 0} → A ⊎ B → B ⊎ A
  turned (inl a) = inr a
  turned (inr b) = inl b

  follows : (e : ℕ) (i : Id) (c : ℕ) (k z : Key) → HasForm e i c k → Contains (brought ids k) z → Follows e i c z
  follows e (plain d) c k z f h = brought_plain e c z (rw f at h)
  follows e (pair r t) c k z (inl f) h = brought_pair e c t z (rw f at h)
  follows e (pair r t) c k z (inr f) h = let b = brought_pair t c e z (rw f at h) in (b.0, turned b.1, b.2)

  own_form : (e : ℕ) (i : Id) → HasForm e i (first_of i) (e, i)
  own_form e (plain c) = refl
  own_form e (pair r t) = inl refl

  first_lives : (i : Id) → list_all (is_live w) (mentioned i) ≡ true → is_live w (first_of i) ≡ true
  first_lives (plain c) m = (both_true (is_live w c) true m).0
  first_lives (pair r t) m = (both_true (is_live w r) (is_live w t && true) m).0

  module _ (h : IsWellFormed w) where
    still_lives : (c d : ℕ) → is_live w c ≡ true → (d ≡ c) ⊎ (holds w c (pair with_trait d) ≡ true) → is_live w d ≡ true
    still_lives c d l (inl e) = rw e l
    still_lives c d l (inr f) = mentioned_lives w h c (pair with_trait d) f d (1, omega arith, refl)

    -- each member has the form, with a live component or relationship
    pub added_form : (e : ℕ) (i : Id) → list_all (is_live w) (mentioned i) ≡ true → {z : Key} → IsAdded ids (e, i) z → (c : ℕ) × (is_live w c ≡ true) × HasForm e i c z
    added_form e i m itself = (first_of i, first_lives i m, own_form e i)
    added_form e i m (onward {y = y} {z = z} r n) =
        let before = added_form e i m r in
        let next = follows e i before.0 y z before.2 n in
        (next.0, still_lives before.0 next.0 before.1 next.2, next.1)

  all_live : (r t : ℕ) → is_live w r ≡ true → is_live w t ≡ true → list_all (is_live w) (r ∷ t ∷ []) ≡ true
  all_live r t a b = λ j. a j && (b j && true)

  -- what has the form mentions live entities
  pub form_lives : (e : ℕ) (i : Id) (c : ℕ) (k : Key) → is_live w e ≡ true → list_all (is_live w) (mentioned i) ≡ true → is_live w c ≡ true → HasForm e i c k
      → (is_live w k.0 ≡ true) × (list_all (is_live w) (mentioned k.1) ≡ true)
  form_lives e (plain d) c k le m lc f = rw f (le, λ j. lc j && true)
  form_lives e (pair r t) c k le m lc f =
      let lt = (both_true (is_live w t) true (both_true (is_live w r) (is_live w t && true) m).1).0 in
      elim f [ inl q ↦ rw q (le, all_live c t lc lt) | inr q ↦ rw q (lt, all_live c e lc le) ]

  -- all that can be a member
  abbrev things : ℕ → Id → List Key
  things e i = map (λ c. (e, with_first c i)) (entities w) ++ map (λ c. (target_or_zero i, pair c e)) (entities w)

  things_are_few : (e : ℕ) (i : Id) → length (things e i) ≡ 2 * length (entities w)
  things_are_few e i =
      let own : List Key = map (λ c. (e, with_first c i)) (entities w) in
      let back : List Key = map (λ c. (target_or_zero i, pair c e)) (entities w) in
      omega (arith, length-append own back, length-map {B = Key} (entities w) (λ c. (e, with_first c i)), length-map {B = Key} (entities w) (λ c. (target_or_zero i, pair c e)))

  among_things : (e : ℕ) (i : Id) (c : ℕ) (k : Key) → Contains (entities w) c → HasForm e i c k → Contains (things e i) k
  among_things e (plain d) c k l f =
      rw f (Contains-append_left (map (λ c. (e, plain c)) (entities w)) (map (λ c. (0, pair c e)) (entities w)) (e, plain c) (in_map (λ c. (e, plain c)) (entities w) c l))
  among_things e (pair r t) c k l (inl f) =
      rw f (Contains-append_left (map (λ c. (e, pair c t)) (entities w)) (map (λ c. (t, pair c e)) (entities w)) (e, pair c t) (in_map (λ c. (e, pair c t)) (entities w) c l))
  among_things e (pair r t) c k l (inr f) =
      rw f (Contains-append_right (map (λ c. (e, pair c t)) (entities w)) (map (λ c. (t, pair c e)) (entities w)) (t, pair c e) (in_map (λ c. (t, pair c e)) (entities w) c l))

pub added_are_members : (w : WorldState) (e : ℕ) (i : Id) → IsWellFormed w → list_all (is_live w) (mentioned i) ≡ true
    → (k : Key) → IsTrue (has_key key_cmp (added w e i) k) ↔ IsAdded (ids_of w) (e, i) k
unfolding added
added_are_members w e i h m k =
    within_is_least key_cmp_total (λ x y q. key_cmp_same x y ((Equal-is (key_cmp x y)).0 q)) (brought (ids_of w)) (2 * length (entities w)) (things w e i) (omega (arith, things_are_few w e i)) (e, i)
    (λ y r. let f = added_form w h e i m r in among_things w e i f.0 y (live_listed w f.0 f.1) f.2) k

-- the rounds give the least set
pub added_is_least : AddedIsLeast
added_is_least w e i h l m k = added_are_members w e i h (list_all-from_AllPass (is_live w) (mentioned i) m) k
