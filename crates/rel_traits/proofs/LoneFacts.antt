-- Which facts come alone.
use Rattle.std.proofs.Common.{◌≡◌, ◌⊎◌, ℕ, arith, ◌+◌, ◌<◌, ◌==◌, Bool, true, false, not, List, [], ◌∷◌, ◌++◌, length, take, get_or, Option, Some, None, is_some, if◌then◌else◌, refl, sym, ap, subst, ◌∙◌, inl, inr, true≢false}
use Rattle.std.specs.Prelude.{map}
use Rattle.std.specs.List.{Contains, cons_option, filter, flat_map}
use Rattle.std.proofs.lemmas.List.{take_more}
use Rattle.std.proofs.lemmas.List.Elements.{Contains-push, filter_map-append}
use Rattle.std.proofs.lemmas.Bool.Decides.{nat_tests}
use Rattle.std.proofs.lemmas.Option.{same_Some}
use Rattle.ecs_id.specs.Id.{Id, IsIndex, IsPair, plain, pair, first_of, second_of}
use Rattle.ecs_model.specs.Added.{brought, displaced, is_exclusive, is_symmetric, mirror, with_first}
use Rattle.ecs_model.specs.BuiltIns.{acyclic, with_trait}
use Rattle.ecs_model.specs.Links.{AreLinks, is_held, target_under, targets_in, upward}
use Rattle.ecs_model.specs.Reach.{Reached, itself, onward}
use Rattle.ecs_model.specs.World.{Key}
use Rattle.ecs_model.proofs.LivePairs.{held_leads, of_pair}
use Rattle.ecs_model.proofs.Members.{from_filter_map, head_or_tail}
use Rattle.rel_traits.specs.Simple.{TakesPlaceOf}
use Rattle.rel_traits.specs.After.{ClosesAt}

-- the targets among ids and one more
target_more : (is : List Id) (n : ℕ) (i : Id) (r : ℕ) → n < length is → i ≡ get_or is n i → targets_in (take (n + 1) is) r ≡ targets_in (take n is) r ++ targets_in (i ∷ []) r
target_more is n i r inside at = rw (take_more is n i inside, ← at) (filter_map-append (target_under r) (take n is) (i ∷ []))

-- one more id that is no pair of the relationship leads nowhere along it
pub none_more : (is : List Id) (n : ℕ) (i : Id) (r : ℕ) → n < length is → i ≡ get_or is n i → is_some (target_under r i) ≡ false → targets_in (take n is) r ≡ [] → targets_in (take (n + 1) is) r ≡ []
none_more is n i r inside at none before = target_more is n i r inside at ∙ (λ k. before k ++ alone (target_under r i) none k)
  where
    alone : (o : Option ℕ) → is_some o ≡ false → cons_option o [] ≡ []
    alone None h = refl
    alone (Some t) h = absurd (true≢false h)

-- one more id, with the only target so far
pub one_more : (is : List Id) (n : ℕ) (i : Id) (r : ℕ) (only one : Option ℕ) → n < length is → i ≡ get_or is n i → targets_in (take n is) r ≡ cons_option only [] → cons_option one [] ≡ cons_option only (cons_option (target_under r i) [])
    → targets_in (take (n + 1) is) r ≡ cons_option one []
one_more is n i r only one inside at before now = target_more is n i r inside at ∙ (λ k. before k ++ cons_option (target_under r i) []) ∙ by only ∙ sym now
  where
    by : (o : Option ℕ) → cons_option o [] ++ cons_option (target_under r i) [] ≡ cons_option o (cons_option (target_under r i) [])
    by None = refl
    by (Some t) = refl

module _ (ids : ℕ → List Id) (e : ℕ) where
  pub no_mirror : (i : Id) → second_of i ≡ None → mirror ids (e, i) ≡ []
  no_mirror (plain c) h = refl
  no_mirror (pair r t) h = absurd cc

  pub no_mirror_either : (i : Id) → is_symmetric ids (first_of i) ≡ false → mirror ids (e, i) ≡ []
  no_mirror_either (plain c) h = refl
  no_mirror_either (pair r t) h = ap (λ b. if b then (t, pair r e) ∷ [] else []) h

  -- where With leads nowhere and there is no mirror, nothing is brought
  pub brings_none : (i : Id) → targets_in (ids (first_of i)) with_trait ≡ [] → mirror ids (e, i) ≡ [] → brought ids (e, i) ≡ []
  brings_none i leads alone = λ k. map (λ c. (e, with_first c i)) (leads k) ++ alone k

module _ (ids : ℕ → List Id) where
  -- where the entity has no target, none gives way
  pub displaces_none : (k : Key) → targets_in (ids k.0) (first_of k.1) ≡ [] → displaced ids k ≡ []
  displaces_none (e, plain c) none = refl
  displaces_none (e, pair r t) none = ap (λ ts. if is_exclusive ids r then flat_map (λ u. (e, pair r u) ∷ (if is_symmetric ids r then (u, pair r e) ∷ [] else [])) (filter (λ u. not (u == t)) ts) else []) none ∙ either (is_exclusive ids r)
    where
      either : (b : Bool) → ◌≡◌ {A = List Key} (if b then [] else []) []
      either true = refl
      either false = refl

  -- a fact of a relationship that may have cycles closes none
  pub may_have_cycles : (k : Key) → is_held (ids (first_of k.1)) (plain acyclic) ≡ false → ¬ (ClosesAt ids k.0 k)
  may_have_cycles k free c = true≢false (sym c.2 ∙ free)

  -- nor does one of an entity to which its relationship leads from none, unless that is its own target
  pub nobody_leads : (k : Key) (t : ℕ) → second_of k.1 ≡ Some t → ¬ (t ≡ k.0) → ((y : ℕ) → ¬ (Contains (upward ids (first_of k.1) y) k.0)) → ¬ (ClosesAt ids k.0 k)
  nobody_leads k t target apart none c = by c.3
    where
      same : c.0 ≡ t
      same = same_Some c.0 t (c.1 ∙ target)

      ends : {x y : ℕ} → x ≡ t → y ≡ k.0 → Reached (upward ids (first_of k.1)) x y → ⊥
      ends a b itself = apart (sym a ∙ b)
      ends a b (onward {y} {z} r n) = none y (rw (sym b) n)

      by : ¬ (k.0 ≡ k.0) ⊎ Reached (upward ids (first_of k.1)) c.0 k.0 → ⊥
      by (inl other) = other refl
      by (inr r) = ends same refl r

  -- to a fact of a relationship that isn't Exclusive none gives way
  pub keeps_others : (k : Key) → is_exclusive ids (first_of k.1) ≡ false → displaced ids k ≡ []
  keeps_others (e, plain c) several = refl
  keeps_others (e, pair r t) several = rw several refl

  -- nor to one of no pair
  pub unpaired_displaces : (k : Key) → ¬ (IsPair k.1) → displaced ids k ≡ []
  unpaired_displaces (e, plain c) single = refl
  unpaired_displaces (e, pair r t) single = absurd (single tt)

-- a pair brings its mirror
pub unmirrored : (b : Bool) (xs : List Key) (x : Key) → xs ++ (if b then x ∷ [] else []) ≡ [] → b ≡ false
unmirrored true [] x h = absurd cc
unmirrored true (y ∷ ys) x h = absurd cc
unmirrored false xs x h = refl

-- a pair that gives way, and its mirror
abbrev with_mirror : Bool → ℕ → ℕ → ℕ → List Key
with_mirror mirrored e r u = (e, pair r u) ∷ (if mirrored then (u, pair r e) ∷ [] else [])

module _ (ids : ℕ → List Id) where
  others : (e r t u : ℕ) (only : Bool) (mirrored : Bool) (ts : List ℕ) → only ≡ true → mirrored ≡ false → ts ≡ u ∷ [] → (u == t) ≡ false
      → (if only then flat_map (with_mirror mirrored e r) (filter (λ v. not (v == t)) ts) else []) ≡ (e, pair r u) ∷ []
  others e r t u only mirrored ts a b c d = rw (a, b, c, d) refl

  -- the only target's pair gives way to one with another target
  pub takes_place : (k : Key) (t u : ℕ) → second_of k.1 ≡ Some t → brought ids k ≡ [] → is_exclusive ids (first_of k.1) ≡ true → targets_in (ids k.0) (first_of k.1) ≡ u ∷ [] → ¬ (u ≡ t) → TakesPlaceOf ids k (pair (first_of k.1) u)
  takes_place (e, plain c) t u target alone only leads other = absurd cc
  takes_place (e, pair r q) t u target alone only leads other = record {
    is_new = by (is_held (ids e) (pair r q)) refl;
    displaces = others e r q u (is_exclusive ids r) (is_symmetric ids r) (targets_in (ids e) r) only (unmirrored (is_symmetric ids r) (map (λ c. (e, pair c q)) (upward ids with_trait r)) (q, pair r e) alone) leads apart;
  }
    where
      same : q ≡ t
      same = same_Some q t target

      apart : (u == q) ≡ false
      apart = let differ : ¬ (u ≡ q) = (λ h. other (h ∙ same)) in grind (arith, nat_tests)

      by : (b : Bool) → is_held (ids e) (pair r q) ≡ b → is_held (ids e) (pair r q) ≡ false
      by true held = elim (head_or_tail u q [] (subst (λ ts. Contains ts q) leads (held_leads ids r e q held))) [
        | inl h ↦ absurd (other (h ∙ same))
        | inr m ↦ absurd (omega (arith, m.1))
      ]
      by false held = held

  -- and to itself it doesn't
  pub own_stays : (k : Key) (t u : ℕ) → second_of k.1 ≡ Some t → targets_in (ids k.0) (first_of k.1) ≡ u ∷ [] → u ≡ t → displaced ids k ≡ []
  own_stays (e, plain c) t u target leads own = absurd cc
  own_stays (e, pair r q) t u target leads own = by (is_exclusive ids r)
    where
      same : (u == q) ≡ true
      same = let is : q ≡ t = same_Some q t target in grind (arith, nat_tests)

      by : (b : Bool) → (if b then flat_map (with_mirror (is_symmetric ids r) e r) (filter (λ v. not (v == q)) (targets_in (ids e) r)) else []) ≡ []
      by true = rw (leads, same) refl
      by false = refl

-- a target is live, and so has an index
pub target_index : {n : ℕ} {entities : List ℕ} {ids : ℕ → List Id} → AreLinks n entities ids → (e r u : ℕ) → targets_in (ids e) r ≡ u ∷ [] → IsIndex u
target_index {ids = ids} links e r u leads =
    let i = from_filter_map (target_under r) (ids e) u (subst (λ ts. Contains ts u) (sym leads) (Contains-push [] u)) in
    let there = subst (λ j. Contains (ids e) j) (of_pair r u i.0 i.2) i.1 in
    links.indexes u (links.live e (pair r u) there 1 0 (omega arith))
