-- Entities in order: a list that was sorted, of which each was kept once, and those at indexes that rise.
use Rattle.std.proofs.Common.{◌≡◌, ◌↔◌, ℕ, List, [], ◌∷◌, Option, Some, None, refl, sym, ap, subst, ◌∙◌, arith}
use Rattle.std.specs.Cmp.{IsEquivalence, IsTotalOrder, nat_cmp_total}
use Rattle.std.specs.FinMap.{nat_cmp-IsAntisymmetric}
use Rattle.std.specs.List.{AllByRecursion, Contains, cons_option, dedup}
use Rattle.std.specs.List.Sorted.{IsPermutation, IsSorted, IsStrictlySortedBy}
use Rattle.std.specs.Ordering.{eq_by_cmp, nat_cmp, ordering_then}
use Rattle.std.specs.declared.cmp.Ordering.{Ordering}
use Rattle.std.specs.declared.cmp.Ordering.TheVariants.{Less, Equal, Greater}
use Rattle.std.proofs.lemmas.Bool.Decides.{nat_tests}
use Rattle.std.proofs.lemmas.Cmp.{eq_by_cmp_equiv, on_total, then_total}
use Rattle.std.proofs.lemmas.List.Kept.{Contains-dedup, Contains-from_dedup, IsStrictlySortedBy-dedup}
use Rattle.std.proofs.lemmas.List.Sorted.{Contains-permutation, IsPermutation-sym}
use Rattle.ecs_id.specs.declared.EntityId.{EntityId}
use Rattle.ecs_model.specs.Map.{keys}
use Rattle.ecs_model.specs.World.{WorldState, entity_at}
use Rattle.ecs_model.specs.steps.FactChanges.{deleted}
use Rattle.ecs_model.proofs.Members.{from_filter_map, in_filter_map}
use Rattle.ecs_model.proofs.RisingLists.{keys_rise, one_list}
use Rattle.name_index.specs.Names.{entity_eq}
use Rattle.rel_traits.proofs.DeletedSets.{IsMap-deleted}
use Rattle.ecs_world.specs.Changes.{entities_at, entity_cmp}
use Rattle.ecs_world.proofs.Entities.{same_entity}
use Rattle.ecs_world.proofs.SeenGraph.{there_alive}

entity_cmp_total : IsTotalOrder entity_cmp
entity_cmp_total = then_total (on_total (λ (e : EntityId). e.index) nat_cmp_total) (on_total (λ (e : EntityId). e.generation) nat_cmp_total)

entity_cmp_same : (x y : EntityId) → entity_cmp x y ≡ Equal → x ≡ y
entity_cmp_same x y e = by (nat_cmp x.index y.index) refl e
  where
    by : (r : Ordering) → nat_cmp x.index y.index ≡ r → ordering_then r (nat_cmp x.generation y.generation) ≡ Equal → x ≡ y
    by Less p q = cc
    by Equal p q = λ i. record { index = nat_cmp-IsAntisymmetric x.index y.index p i; generation = nat_cmp-IsAntisymmetric x.generation y.generation q i }
    by Greater p q = cc

entity_eq_by : (x y : EntityId) → entity_eq x y ≡ eq_by_cmp entity_cmp x y
entity_eq_by x y = grind (arith, nat_tests)

module _ (old mid new : List EntityId) (is : new ≡ dedup entity_eq mid) where
  pub in_order : IsSorted entity_cmp mid → IsStrictlySortedBy entity_cmp new
  in_order sorted = rw is (IsStrictlySortedBy-dedup entity_cmp_total entity_eq_by mid sorted)

  pub same_entities : IsPermutation old mid → (e : EntityId) → Contains new e ↔ Contains old e
  same_entities moved e = (
    λ h. Contains-permutation mid old e (IsPermutation-sym old mid moved) (Contains-from_dedup entity_eq mid e (rw is at h)),
    λ h. rw is (Contains-dedup (subst IsEquivalence (λ i x y. sym (entity_eq_by x y) i) (eq_by_cmp_equiv entity_cmp_total)) same_entity mid e (Contains-permutation old mid e moved h)),
  )

module _ (w : WorldState) where
  -- those at greater indexes are above
  below_at : (e : EntityId) (x : ℕ) → e.index ≡ x → (is : List ℕ) → AllByRecursion (λ y. nat_cmp x y ≡ Less) is → AllByRecursion (λ f. entity_cmp e f ≡ Less) (entities_at w is)
  below_at e x here [] all = tt
  below_at e x here (i ∷ is) all = by (entity_at w i) refl (below_at e x here is all.1)
    where
      by : (o : Option EntityId) → entity_at w i ≡ o → AllByRecursion (λ f. entity_cmp e f ≡ Less) (entities_at w is) → AllByRecursion (λ f. entity_cmp e f ≡ Less) (cons_option o (entities_at w is))
      by None p rest = rest
      by (Some f) p rest =
          let there : f.index ≡ i = (there_alive w i f (sym p)).1 in
          let less : nat_cmp e.index f.index ≡ Less = (λ k. nat_cmp (here k) (there k)) ∙ all.0 in
          (ap (λ r. ordering_then r (nat_cmp e.generation f.generation)) less, rest)

  rise_one : (i : ℕ) (is : List ℕ) (o : Option EntityId) → entity_at w i ≡ o → AllByRecursion (λ y. nat_cmp i y ≡ Less) is → IsStrictlySortedBy entity_cmp (entities_at w is)
      → IsStrictlySortedBy entity_cmp (cons_option o (entities_at w is))
  unfolding IsStrictlySortedBy
  rise_one i is None p above rest = rest
  rise_one i is (Some f) p above rest = (below_at f i (there_alive w i f (sym p)).1 is above, rest)

  rise_at : (is : List ℕ) → IsStrictlySortedBy nat_cmp is → IsStrictlySortedBy entity_cmp (entities_at w is)
  unfolding IsStrictlySortedBy
  rise_at [] s = tt
  rise_at (i ∷ is) s = rise_one i is (entity_at w i) refl s.0 (rise_at is s.1)

  at_more : (xs ys : List ℕ) → ((y : ℕ) → Contains xs y → Contains ys y) → (e : EntityId) → Contains (entities_at w xs) e → Contains (entities_at w ys) e
  at_more xs ys within e c = let p = from_filter_map (entity_at w) xs e c in in_filter_map (entity_at w) ys p.0 e (within p.0 p.1) p.2

  -- the found entities in order, where the found are the deleted
  pub dead_listed : (e : ℕ) (found shown : List ℕ) (dead : List EntityId) → shown ≡ found → ((y : ℕ) → Contains found y ↔ Contains (keys (deleted w e)) y)
      → IsStrictlySortedBy entity_cmp dead → ((f : EntityId) → Contains dead f ↔ Contains (entities_at w shown) f) → dead ≡ entities_at w (keys (deleted w e))
  dead_listed e found shown dead is fall rises same =
      one_list entity_cmp entity_cmp_total entity_cmp_same dead (entities_at w gone) rises (rise_at gone (keys_rise nat_cmp (deleted w e) (IsMap-deleted w e)))
      (λ f. (λ c. at_more shown gone (λ y s. (fall y).0 (subst (λ xs. Contains xs y) is s)) f ((same f).0 c), λ c. (same f).1 (at_more gone shown (λ y s. subst (λ xs. Contains xs y) (sym is) ((fall y).1 s)) f c)))
    where
      gone : List ℕ
      gone = keys (deleted w e)
