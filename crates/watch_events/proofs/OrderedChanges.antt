-- What has changed is in order.
use Rattle.std.specs.List.{AllByRecursion}
use Rattle.std.specs.List.Sorted.{IsStrictlySortedBy}
use Rattle.std.specs.Ordering.{is_lt, nat_cmp}
use Rattle.std.specs.FinMap.{is_sorted}
use Rattle.std.specs.FinMap.Entries.{below_all, is_sorted-where_key}
use Rattle.std.specs.declared.cmp.Ordering.{Ordering}
use Rattle.std.specs.declared.cmp.Ordering.TheVariants.{Less}
use Rattle.std.proofs.Common.{◌≡◌, ℕ, Bool, true, not, List, [], ◌∷◌, map, refl, sym, ap, subst, ◌∙◌, Option}
use Rattle.ecs_model.specs.steps.Outcomes.{Changed, counted, differences}
use Rattle.ecs_model.specs.Map.{Map, has_key, keys, without}
use Rattle.ecs_model.specs.World.{WorldState, Key, key_cmp, is_live, name_of}
use Rattle.ecs_model.specs.steps.Step.{effect, written_by}
use Rattle.ecs_model.specs.steps.WellFormed.{IsWellFormed}
use Rattle.ecs_model.proofs.Maps.{both_true, from_T, to_T, less}
use Rattle.ecs_model.proofs.steps.RefusalNumbers.{accepted_step}
use Rattle.watch_concerns.specs.Since.{Dead, IsAfter}

module _ {K X : Type 0} (R : K → K → Ordering) where
  below_keys : (x : K) (es : Map K X) → below_all R x es ≡ true → AllByRecursion (λ y. R x y ≡ Less) (keys es)
  below_keys x [] h = tt
  below_keys x (e ∷ es) h = let parts = both_true (is_lt (R x e.0)) (below_all R x es) h in (less (R x e.0) parts.0, below_keys x es parts.1)

  keys_rise : (es : Map K X) → is_sorted R es ≡ true → IsStrictlySortedBy R (keys es)
  unfolding IsStrictlySortedBy
  keys_rise [] h = tt
  keys_rise (e ∷ es) h = let parts = both_true (below_all R e.0 es) (is_sorted R es) h in (below_keys e.0 es parts.0, keys_rise es parts.1)

  -- those of a map that are left
  left_rise : (test : K → Bool) (es : Map K X) → is_sorted R es ≡ true → IsStrictlySortedBy R (keys (without R es test))
  left_rise test es h = keys_rise (without R es test) (from_T (is_sorted R (without R es test)) (is_sorted-where_key R (λ k. not (test k)) es (to_T (is_sorted R es) h)))

-- the indexes of those that died are those of the entities that are left out
dead_indexes : (name : ℕ → Option (List ℕ)) (es : Map ℕ ℕ) → map (λ (d : Dead). (d.0).index) (map (λ e. (record { index = e.0; generation = e.1 }, name e.0)) es) ≡ keys es
dead_indexes name [] = refl
dead_indexes name (e ∷ es) = ap (λ ks. e.0 ∷ ks) (dead_indexes name es)

module _ (w v : WorldState) (written : List Key) where
  gone_rise : IsWellFormed w → IsStrictlySortedBy key_cmp (differences w v written).went
  unfolding differences
  gone_rise h = left_rise key_cmp (has_key key_cmp v.facts) w.facts h.in_order.facts

  new_rise : IsWellFormed v → IsStrictlySortedBy key_cmp (differences w v written).came
  unfolding differences
  new_rise h = left_rise key_cmp (has_key key_cmp w.facts) v.facts h.in_order.facts

  dead_rise : IsWellFormed w → IsStrictlySortedBy nat_cmp (map (λ d. (d.0).index) (differences w v written).died)
  unfolding differences
  dead_rise h = subst (IsStrictlySortedBy nat_cmp) (sym (dead_indexes (name_of w) (without nat_cmp w.live (is_live v)))) (left_rise nat_cmp (is_live v) w.live h.in_order.live)

module _ (v : WorldState) (c : Changed) (a : IsAfter v c) where
  -- what has changed is what differs
  differs : c ≡ differences a.before (counted (effect a.before a.command)) (written_by a.command)
  differs = (accepted_step a.before v a.command c a.stepped).2

  differs_now : c ≡ differences a.before v (written_by a.command)
  differs_now = differs ∙ ap (λ x. differences a.before x (written_by a.command)) (sym (accepted_step a.before v a.command c a.stepped).1)

  pub went_rises : IsStrictlySortedBy key_cmp c.went
  went_rises = subst (λ x. IsStrictlySortedBy key_cmp x.went) (sym differs_now) (gone_rise a.before v (written_by a.command) a.kept)

  pub came_rises : IsWellFormed v → IsStrictlySortedBy key_cmp c.came
  came_rises h = subst (λ x. IsStrictlySortedBy key_cmp x.came) (sym differs_now) (new_rise a.before v (written_by a.command) h)

  pub died_rises : IsStrictlySortedBy nat_cmp (map (λ d. (d.0).index) c.died)
  died_rises = subst (λ (x : Changed). IsStrictlySortedBy nat_cmp (map (λ d. (d.0).index) x.died)) (sym differs_now) (dead_rise a.before v (written_by a.command) a.kept)
