-- Who dies: the deleted entities with their generations, in order.
use Rattle.std.proofs.Common.{◌≡◌, ◌∙◌, ℕ, Bool, true, false, cond, ◌&&◌, not, [], ◌∷◌, Option, Some, None, refl, sym, ap, true≢false}
use Rattle.std.specs.Prelude.{is_some, map, unwrap_or}
use Rattle.std.specs.Cmp.{Equal-is, nat_cmp_total}
use Rattle.std.specs.FinMap.{nat_cmp-IsAntisymmetric}
use Rattle.std.specs.FinMap.Entries.{below_all, is_sorted, same_entries}
use Rattle.std.specs.List.{list_any}
use Rattle.std.specs.Ordering.{eq_by_cmp, is_lt, nat_cmp}
use Rattle.ecs_model.specs.Cleanup.{falling, falls_by}
use Rattle.ecs_model.specs.Map.{Map, count_at, has_key, keys, value_at, without}
use Rattle.ecs_model.specs.Reach.{Reached, itself, onward}
use Rattle.ecs_model.specs.Sets.{Set}
use Rattle.ecs_model.specs.World.{WorldState, entities, ids_of, is_live}
use Rattle.ecs_model.specs.steps.FactChanges.{deleted}
use Rattle.ecs_model.specs.steps.WellFormed.{IsWellFormed}
use Rattle.ecs_model.proofs.Maps.{to_T}
use Rattle.ecs_model.proofs.Members.{filtered}
use Rattle.ecs_model.proofs.steps.DeletedSets.{deleted_is_least}
use Rattle.ecs_model.proofs.steps.Deletions.{nat_IsMap-without, nat_value_at-without}
use Rattle.ecs_model.proofs.steps.Facts.{listed_live}
use Rattle.rel_traits.proofs.DeletedSets.{IsMap-deleted}

module _ (f : ℕ → ℕ) where
  -- a number beside each member of a set
  abbrev beside : Set ℕ → Map ℕ ℕ
  beside s = map (λ i. (i, f i)) (keys s)

  below-beside : (k : ℕ) (s : Set ℕ) → below_all nat_cmp k (beside s) ≡ below_all nat_cmp k s
  below-beside k [] = refl
  below-beside k (e ∷ es) = ap (λ b. is_lt (nat_cmp k e.0) && b) (below-beside k es)

  sorted-beside : (s : Set ℕ) → is_sorted nat_cmp (beside s) ≡ is_sorted nat_cmp s
  sorted-beside [] = refl
  sorted-beside (e ∷ es) = λ j. below-beside e.0 es j && sorted-beside es j

  value-beside : (q : ℕ) (s : Set ℕ) → value_at nat_cmp (beside s) q ≡ cond (has_key nat_cmp s q) (Some (f q)) None
  value-beside q [] = refl
  value-beside q (e ∷ es) = by (eq_by_cmp nat_cmp q e.0) refl (value-beside q es)
    where
      by : (b : Bool) → eq_by_cmp nat_cmp q e.0 ≡ b → value_at nat_cmp (beside es) q ≡ cond (has_key nat_cmp es q) (Some (f q)) None
          → cond b (Some (f e.0)) (value_at nat_cmp (beside es) q) ≡ cond (is_some (cond b (Some e.1) (value_at nat_cmp es q))) (Some (f q)) None
      by true same rest = ap (λ x. Some (f x)) (sym (nat_cmp-IsAntisymmetric q e.0 ((Equal-is (nat_cmp q e.0)).0 same)))
      by false other rest = rest

-- who falls with a live entity is live
reached_lives : (w : WorldState) (e : ℕ) → is_live w e ≡ true → {y : ℕ} → Reached (falling (ids_of w) (entities w)) e y → is_live w y ≡ true
reached_lives w e live itself = live
reached_lives w e live (onward {y = y} {z = z} r c) = listed_live w z ((filtered (λ x. list_any (falls_by (ids_of w) y) (ids_of w x)) (entities w) z).0 c).0

pub died_are : (w : WorldState) (e : ℕ) → IsWellFormed w → is_live w e ≡ true
    → without nat_cmp w.live (λ i. not (has_key nat_cmp (deleted w e) i)) ≡ map (λ i. (i, count_at w.live i)) (keys (deleted w e))
died_are w e h live =
    same_entries nat_cmp nat_cmp_total nat_cmp-IsAntisymmetric (without nat_cmp w.live (λ i. not (gone i))) (beside (count_at w.live) (deleted w e))
    (to_T _ (nat_IsMap-without w.live (λ i. not (gone i)) (h.in_order).live)) (to_T _ (sorted-beside (count_at w.live) (deleted w e) ∙ IsMap-deleted w e))
    (λ q. nat_value_at-without w.live (λ i. not (gone i)) q ∙ by (gone q) (value_at nat_cmp w.live q) (λ g. lives q g) ∙ sym (value-beside (count_at w.live) q (deleted w e)))
  where
    gone : ℕ → Bool
    gone = has_key nat_cmp (deleted w e)

    lives : (q : ℕ) → gone q ≡ true → is_live w q ≡ true
    lives q g = reached_lives w e live ((deleted_is_least w e live q).0 g)

    by : (b : Bool) (o : Option ℕ) → (b ≡ true → is_some o ≡ true) → cond (not (not b)) o None ≡ cond b (Some (unwrap_or o 0)) None
    by true None f = absurd (true≢false (sym (f refl)))
    by true (Some x) f = refl
    by false o f = refl
