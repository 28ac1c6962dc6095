-- Maps with the same keys, and least sets as maps.
use Rattle.std.specs.Prelude.{◌≡◌, ℕ, zero, suc, ◌&&◌, Bool, true, false, not, List, [], ◌∷◌, flat_map, fold, map, filter, Option, Some, None, is_some, cond}
use Rattle.std.specs.FinMap.Entries.{find, same_entries, is_sorted, below_all}
use Rattle.std.specs.Ordering.{eq_by_cmp, is_lt}
use Rattle.std.specs.declared.cmp.Ordering.{Ordering}
use Rattle.std.specs.declared.cmp.Ordering.TheVariants.{Equal}
use Rattle.std.specs.Cmp.{IsTotalOrder}
use Rattle.std.proofs.Common.{refl, sym, ap, ◌∙◌, true≢false}
use Rattle.ecs_model.specs.Map.{Map, IsMap, has_key, keys, value_at, without}
use Rattle.ecs_model.specs.Sets.{Set, with_member, within}
use Rattle.ecs_model.proofs.Maps.{to_T, IsMap-with_value}

module _ {K : Type 0} (R : K → K → Ordering) where
  -- the keys of a map as a set
  abbrev bare : {X : Type 0} → Map K X → Set K
  bare m = map (λ e. (e.0, tt)) m

  keys-bare : {X : Type 0} (m : Map K X) → keys (bare m) ≡ keys m
  keys-bare [] = refl
  keys-bare (e ∷ es) = ap (λ ks. e.0 ∷ ks) (keys-bare es)

  below_all-bare : {X : Type 0} (k : K) (m : Map K X) → below_all R k (bare m) ≡ below_all R k m
  below_all-bare k [] = refl
  below_all-bare k (e ∷ es) = ap (λ b. is_lt (R k e.0) && b) (below_all-bare k es)

  is_sorted-bare : {X : Type 0} (m : Map K X) → is_sorted R (bare m) ≡ is_sorted R m
  is_sorted-bare [] = refl
  is_sorted-bare (e ∷ es) = λ j. below_all-bare e.0 es j && is_sorted-bare es j

  has_key-bare : {X : Type 0} (m : Map K X) (k : K) → has_key R (bare m) k ≡ has_key R m k
  has_key-bare [] k = refl
  has_key-bare {X = X} (e ∷ es) k = by (eq_by_cmp R k e.0) (has_key-bare es k)
    where
      by : (b : Bool) → has_key R (bare es) k ≡ has_key R es k → is_some (cond b (Some tt) (value_at R (bare es) k)) ≡ is_some (cond b (Some e.1) (value_at R es k))
      by true rest = refl
      by false rest = rest

  same_unit : (o p : Option (Unit {0})) → is_some o ≡ is_some p → o ≡ p
  same_unit None None e = refl
  same_unit (Some x) (Some y) e = refl
  same_unit None (Some y) e = absurd (true≢false (sym e))
  same_unit (Some x) None e = absurd (true≢false e)

  -- which keys are there decides the list of keys
  pub same_keys : IsTotalOrder R → ((x y : K) → R x y ≡ Equal → x ≡ y) → {X Y : Type 0} (m : Map K X) (n : Map K Y) → IsMap R m → IsMap R n
      → ((k : K) → has_key R m k ≡ has_key R n k) → keys m ≡ keys n
  same_keys o same m n p q alike =
      sym (keys-bare m)
      ∙ ap keys (same_entries R o same (bare m) (bare n) (to_T _ (is_sorted-bare m ∙ p)) (to_T _ (is_sorted-bare n ∙ q))
      (λ k. same_unit (find R k (bare m)) (find R k (bare n)) (has_key-bare m k ∙ (alike k ∙ sym (has_key-bare n k)))))
      ∙ keys-bare n

  -- the rounds of a least set give a map
  IsMap-with_members : IsTotalOrder R → (ks : List K) (s : Set K) → IsMap R s → IsMap R (fold (with_member R) s ks)
  IsMap-with_members o [] s h = h
  IsMap-with_members o (k ∷ ks) s h = IsMap-with_members o ks (with_member R s k) (IsMap-with_value R o s k tt h)

  pub IsMap-within : IsTotalOrder R → (next : K → List K) (n : ℕ) (x : K) → IsMap R (within R next n x)
  unfolding within
  IsMap-within o next zero x = IsMap-with_value R o (let none : Set K = [] in none) x tt refl
  IsMap-within o next (suc n) x = IsMap-with_members o (flat_map next (keys (within R next n x))) (within R next n x) (IsMap-within o next n x)

  -- the keys that are left
  pub keys-left : {X : Type 0} (m : Map K X) (test : K → Bool) → keys (without R m test) ≡ filter (λ k. not (test k)) (keys m)
  keys-left [] test = refl
  keys-left {X = X} (e ∷ es) test = by (test e.0) (keys-left es test)
    where
      by : (b : Bool) → keys (without R es test) ≡ filter (λ k. not (test k)) (keys es)
          → keys (cond (not b) (e ∷ without R es test) (without R es test)) ≡ cond (not b) (e.0 ∷ filter (λ k. not (test k)) (keys es)) (filter (λ k. not (test k)) (keys es))
      by true rest = rest
      by false rest = ap (λ ks. e.0 ∷ ks) rest
