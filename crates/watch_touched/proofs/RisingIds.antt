-- The ids of an entity strictly rise.
use Rattle.std.specs.Prelude.{◌≡◌, ℕ, ◌==◌, Bool, true, false, List, [], ◌∷◌, filter_map, Some, None, cond, if◌then◌else◌}
use Rattle.std.specs.Cmp.{nat_cmp_total, tied_itself}
use Rattle.std.specs.List.{AllByRecursion, cons_option}
use Rattle.std.specs.List.Sorted.{IsStrictlySortedBy}
use Rattle.std.specs.Ordering.{nat_cmp, ordering_then}
use Rattle.std.specs.declared.cmp.Ordering.TheVariants.{Less}
use Rattle.std.proofs.Common.{refl, sym, ap, subst, ◌∙◌}
use Rattle.ecs_id.specs.Id.{Id, id_cmp}
use Rattle.ecs_model.specs.World.{Key, key_cmp}
use Rattle.ecs_model.proofs.Members.{eq_same}
pub use Rattle.ecs_model.proofs.RisingLists.{keys_rise, left_rise, one_list}

module _ (x : ℕ) where
  -- the id of a fact, if it is this entity's
  abbrev own_ids : List Key → List Id
  own_ids ks = filter_map (λ k. if k.0 == x then Some k.1 else None) ks

  own_less : (i : Id) (k : Key) → k.0 ≡ x → key_cmp (x, i) k ≡ Less → id_cmp i k.1 ≡ Less
  unfolding key_cmp
  own_less i k same h = sym (ap (λ n. ordering_then (nat_cmp x n) (id_cmp i k.1)) same ∙ ap (λ r. ordering_then r (id_cmp i k.1)) (tied_itself nat_cmp_total x)) ∙ h

  below_own : (i : Id) (ks : List Key) → AllByRecursion (λ k. key_cmp (x, i) k ≡ Less) ks → AllByRecursion (λ j. id_cmp i j ≡ Less) (own_ids ks)
  below_own i [] h = tt
  below_own i (k ∷ ks) h = by (k.0 == x) refl (below_own i ks h.1)
    where
      by : (b : Bool) → (k.0 == x) ≡ b → AllByRecursion (λ j. id_cmp i j ≡ Less) (own_ids ks)
          → AllByRecursion (λ j. id_cmp i j ≡ Less) (cons_option (cond b (Some k.1) None) (own_ids ks))
      by true same rest = (own_less i k (eq_same k.0 x same) h.0, rest)
      by false other rest = rest

  pub ids_rise : (ks : List Key) → IsStrictlySortedBy key_cmp ks → IsStrictlySortedBy id_cmp (own_ids ks)
  unfolding IsStrictlySortedBy
  ids_rise [] h = tt
  ids_rise (k ∷ ks) h = by (k.0 == x) refl (ids_rise ks h.1)
    where
      by : (b : Bool) → (k.0 == x) ≡ b → IsStrictlySortedBy id_cmp (own_ids ks)
          → IsStrictlySortedBy id_cmp (cons_option (cond b (Some k.1) None) (own_ids ks))
      by true same rest =
          let own : k ≡ (x, k.1) = λ j. (eq_same k.0 x same j, k.1) in
          (below_own k.1 ks (subst (λ e. AllByRecursion (λ y. key_cmp e y ≡ Less) ks) own h.0), rest)
      by false other rest = rest
