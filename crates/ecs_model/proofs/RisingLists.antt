-- Lists that strictly rise: the keys of a map; and that such a list is the only one with its items.
use Rattle.std.specs.Prelude.{◌≡◌, ◌↔◌, Bool, true, not, ◌&&◌, List, [], ◌∷◌, map}
use Rattle.std.specs.Cmp.{IsTotalOrder}
use Rattle.std.specs.FinMap.Entries.{below_all, is_sorted, is_sorted-where_key}
use Rattle.std.specs.List.{AllByRecursion, Contains}
use Rattle.std.specs.List.Sorted.{IsStrictlySortedBy}
use Rattle.std.specs.Ordering.{is_lt}
use Rattle.std.specs.declared.cmp.Ordering.{Ordering}
use Rattle.std.specs.declared.cmp.Ordering.TheVariants.{Less, Equal}
use Rattle.std.proofs.Common.{refl, sym, ap, subst, ◌∙◌}
use Rattle.ecs_model.specs.Map.{Map, IsMap, has_key, keys, without}
use Rattle.ecs_model.specs.Sets.{Set}
use Rattle.ecs_model.proofs.Maps.{both_true, from_T, less, to_T}
use Rattle.ecs_model.proofs.Members.{alike}
use Rattle.ecs_model.proofs.steps.Facts.{key_there, there_key}
use Rattle.ecs_model.proofs.steps.SameKeys.{same_keys}

module _ {K : Type 0} (R : K → K → Ordering) where
  below_keys : {X : Type 0} (k : K) (m : Map K X) → below_all R k m ≡ true → AllByRecursion (λ y. R k y ≡ Less) (keys m)
  below_keys k [] h = tt
  below_keys k (e ∷ es) h = let parts = both_true (is_lt (R k e.0)) (below_all R k es) h in (less (R k e.0) parts.0, below_keys k es parts.1)

  pub keys_rise : {X : Type 0} (m : Map K X) → IsMap R m → IsStrictlySortedBy R (keys m)
  unfolding IsStrictlySortedBy
  keys_rise [] h = tt
  keys_rise (e ∷ es) h = let parts = both_true (below_all R e.0 es) (is_sorted R es) h in (below_keys e.0 es parts.0, keys_rise es parts.1)

  pub left_rise : {X : Type 0} (m : Map K X) (test : K → Bool) → IsMap R m → IsStrictlySortedBy R (keys (without R m test))
  left_rise m test h = keys_rise (without R m test) (from_T _ (is_sorted-where_key R (λ k. not (test k)) m (to_T _ h)))

  -- a list's items as a set
  abbrev as_set : List K → Set K
  as_set ks = map (λ k. (k, tt)) ks

  keys-as_set : (ks : List K) → keys (as_set ks) ≡ ks
  keys-as_set [] = refl
  keys-as_set (k ∷ ks) = ap (λ xs. k ∷ xs) (keys-as_set ks)

  below-as_set : (k : K) (ks : List K) → AllByRecursion (λ y. R k y ≡ Less) ks → below_all R k (as_set ks) ≡ true
  below-as_set k [] a = refl
  below-as_set k (x ∷ xs) a = let rest = below-as_set k xs a.1 in λ j. is_lt (a.0 j) && rest j

  IsMap-as_set : (ks : List K) → IsStrictlySortedBy R ks → IsMap R (as_set ks)
  unfolding IsStrictlySortedBy
  IsMap-as_set [] s = refl
  IsMap-as_set (x ∷ xs) s = let first = below-as_set x xs s.0 in let rest = IsMap-as_set xs s.1 in λ j. first j && rest j

  pub one_list : IsTotalOrder R → ((x y : K) → R x y ≡ Equal → x ≡ y) → (xs ys : List K) → IsStrictlySortedBy R xs → IsStrictlySortedBy R ys
      → ((k : K) → Contains xs k ↔ Contains ys k) → xs ≡ ys
  one_list o exact xs ys s t same =
      sym (keys-as_set xs)
      ∙ same_keys R o exact (as_set xs) (as_set ys) (IsMap-as_set xs s) (IsMap-as_set ys t)
      (λ k. alike (has_key R (as_set xs) k) (has_key R (as_set ys) k) (λ h. there ys k ((same k).0 (from xs k h))) (λ h. there xs k ((same k).1 (from ys k h))))
      ∙ keys-as_set ys
    where
      from : (ks : List K) (k : K) → has_key R (as_set ks) k ≡ true → Contains ks k
      from ks k h = subst (λ xs. Contains xs k) (keys-as_set ks) (key_there R exact (as_set ks) k h)

      there : (ks : List K) (k : K) → Contains ks k → has_key R (as_set ks) k ≡ true
      there ks k h = there_key R o (as_set ks) k (subst (λ xs. Contains xs k) (sym (keys-as_set ks)) h)
