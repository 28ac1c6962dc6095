-- A map without some of its facts.
use Rattle.std.specs.Prelude.{◌≡◌, ◌≤◌, Bool, true, false, not, List, [], ◌∷◌, filter_map, length, Option, Some, None, cond}
use Rattle.std.specs.List.{cons_option}
use Rattle.std.specs.FinMap.Entries.{find-where_key, is_sorted-where_key}
use Rattle.std.proofs.Common.{sym, ap, arith}
use Rattle.ecs_model.specs.Map.{Map, IsMap, value_at, without, keys}
use Rattle.ecs_model.specs.World.{Key, key_cmp}
use Rattle.ecs_model.proofs.Maps.{to_T, from_T, key_cmp_same}

-- the value of a fact that does not go
pub value_at-without : {X : Type 0} (m : Map Key X) (test : Key → Bool) (q : Key)
    → value_at key_cmp (without key_cmp m test) q ≡ cond (not (test q)) (value_at key_cmp m q) None
value_at-without m test q = find-where_key key_cmp (λ k. not (test k)) q (λ x t. ap (λ k. not (test k)) (sym (key_cmp_same q x t))) m

pub IsMap-without : {X : Type 0} (m : Map Key X) (test : Key → Bool) → IsMap key_cmp m → IsMap key_cmp (without key_cmp m test)
IsMap-without m test h = from_T _ (is_sorted-where_key key_cmp (λ k. not (test k)) m (to_T _ h))

longer : {A : Type 0} (o : Option A) (xs ys : List A) → length xs ≤ length ys → length xs ≤ length (cons_option o ys)
longer None xs ys h = h
longer (Some y) xs ys h = omega (arith, h)

both_longer : {A : Type 0} (o : Option A) (xs ys : List A) → length xs ≤ length ys → length (cons_option o xs) ≤ length (cons_option o ys)
both_longer None xs ys h = h
both_longer (Some y) xs ys h = omega (arith, h)

-- fewer keys make no more
pub fewer : {X Y : Type 0} (f : Key → Option Y) (m : Map Key X) (test : Key → Bool)
    → length (filter_map f (keys (without key_cmp m test))) ≤ length (filter_map f (keys m))
fewer f [] test = omega arith
fewer f (x ∷ xs) test = by (test x.0) (fewer f xs test)
  where
    by : (b : Bool) → length (filter_map f (keys (without key_cmp xs test))) ≤ length (filter_map f (keys xs))
        → length (filter_map f (keys (cond (not b) (x ∷ without key_cmp xs test) (without key_cmp xs test)))) ≤ length (filter_map f (keys (x ∷ xs)))
    by true rest = longer (f x.0) _ _ rest
    by false rest = both_longer (f x.0) _ _ rest
