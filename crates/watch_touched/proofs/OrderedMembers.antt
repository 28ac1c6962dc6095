-- What a list has in order, each once: exactly its members, so a map whose keys they are has these keys.
use Rattle.std.specs.Prelude.{◌≡◌, Bool, true, false, not, ◌&&◌, ◌||◌, List, [], ◌∷◌, filter, fold, Option, Some, None, is_some, cond}
use Rattle.std.specs.Cmp.{IsTotalOrder}
use Rattle.std.specs.FinMap.Entries.{find-put, find-where_key, is_some-find}
use Rattle.std.specs.List.{list_any}
use Rattle.std.specs.Ordering.{eq_by_cmp}
use Rattle.std.specs.declared.cmp.Ordering.{Ordering}
use Rattle.std.specs.declared.cmp.Ordering.TheVariants.{Equal}
use Rattle.std.proofs.Common.{refl, sym, ap, ◌∙◌}
use Rattle.std.proofs.Math.Bool.{or-false}
use Rattle.ecs_model.specs.Map.{Map, IsMap, has_key, keys, value_at, without}
use Rattle.ecs_model.specs.Sets.{Set, with_member}
use Rattle.ecs_model.proofs.Maps.{IsMap-with_value}
use Rattle.ecs_model.proofs.steps.SameKeys.{keys-left, same_keys}
use Rattle.watch_touched.specs.Before.{in_order}

one_first : (a b c : Bool) → (a || (b || c)) ≡ ((b || a) || c)
one_first true true c = refl
one_first true false c = refl
one_first false true c = refl
one_first false false c = refl

module _ {K : Type 0} (R : K → K → Ordering) (o : IsTotalOrder R) where
  with_one : (s : Set K) (x k : K) → has_key R (with_member R s x) k ≡ (eq_by_cmp R k x || has_key R s k)
  with_one s x k = ap is_some (find-put R o k x tt s) ∙ by (eq_by_cmp R k x) (value_at R s k)
    where
      by : (b : Bool) (p : Option (Unit {0})) → is_some (cond b (Some tt) p) ≡ (b || is_some p)
      by true p = refl
      by false p = refl

  with_all : (xs : List K) (s : Set K) (k : K) → has_key R (fold (with_member R) s xs) k ≡ (list_any (eq_by_cmp R k) xs || has_key R s k)
  with_all [] s k = refl
  with_all (x ∷ xs) s k =
      with_all xs (with_member R s x) k
      ∙ ap (λ b. list_any (eq_by_cmp R k) xs || b) (with_one s x k)
      ∙ one_first (list_any (eq_by_cmp R k) xs) (eq_by_cmp R k x) (has_key R s k)

  IsMap-with_all : (xs : List K) (s : Set K) → IsMap R s → IsMap R (fold (with_member R) s xs)
  IsMap-with_all [] s h = h
  IsMap-with_all (x ∷ xs) s h = IsMap-with_all xs (with_member R s x) (IsMap-with_value R o s x tt h)

  module _ (same : (x y : K) → R x y ≡ Equal → x ≡ y) {X : Type 0} (m : Map K X) where
    pub in_order_are_keys : (xs : List K) → IsMap R m → ((k : K) → list_any (eq_by_cmp R k) xs ≡ has_key R m k) → in_order R xs ≡ keys m
    in_order_are_keys xs h alike =
        let none : Set K = [] in
        same_keys R o same (fold (with_member R) none xs) m (IsMap-with_all xs none refl) h
        (λ k. with_all xs none k ∙ or-false (list_any (eq_by_cmp R k) xs) ∙ alike k)

    -- those keys of a map that are left
    pub any_without : (test : K → Bool) (k : K) → list_any (eq_by_cmp R k) (keys (without R m test)) ≡ (not (test k) && has_key R m k)
    any_without test k =
        sym (is_some-find R k (without R m test))
        ∙ ap is_some (find-where_key R (λ x. not (test x)) k (λ x t. ap (λ y. not (test y)) (sym (same k x t))) m)
        ∙ by (not (test k)) (value_at R m k)
      where
        by : (b : Bool) (p : Option X) → is_some (cond b p None) ≡ (b && is_some p)
        by true p = refl
        by false p = refl

    pub any_left : (test : K → Bool) (k : K) → list_any (eq_by_cmp R k) (filter (λ x. not (test x)) (keys m)) ≡ (not (test k) && has_key R m k)
    any_left test k = ap (list_any (eq_by_cmp R k)) (sym (keys-left R m test)) ∙ any_without test k
