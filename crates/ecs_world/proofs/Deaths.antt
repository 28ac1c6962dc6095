-- The deaths of a deletion: the deleted entities with the names that they had.
use Rattle.std.proofs.Common.{◌≡◌, ℕ, true, List, [], ◌∷◌, Option, Some, None, is_some, refl, sym, ap, ◌∙◌, arith, true≢false}
use Rattle.std.specs.Prelude.{map, not, option_map, unwrap_or}
use Rattle.std.specs.List.{Contains, cons_option, list_any}
use Rattle.std.specs.Cmp.{nat_cmp_total}
use Rattle.std.specs.Ordering.{nat_cmp}
use Rattle.std.proofs.lemmas.List.Elements.{Contains-append_right}
use Rattle.ecs_id.specs.declared.EntityId.{EntityId}
use Rattle.ecs_model.specs.Cleanup.{falling, falls_by}
use Rattle.ecs_model.specs.Map.{count_at, has_key, keys, value_at, without}
use Rattle.ecs_model.specs.Reach.{Reached, itself, onward}
use Rattle.ecs_model.specs.World.{WorldState, entities, ids_of, is_live, name_of}
use Rattle.ecs_model.specs.steps.FactChanges.{deleted}
use Rattle.ecs_model.specs.steps.WellFormed.{IsWellFormed}
use Rattle.ecs_model.proofs.Members.{filtered}
use Rattle.ecs_model.proofs.steps.DeletedSets.{deleted_is_least}
use Rattle.ecs_model.proofs.steps.Differences.{with_name}
use Rattle.ecs_model.proofs.steps.Facts.{listed_live, there_key}
use Rattle.rel_traits.proofs.DyingEntities.{died_are}
use Rattle.ecs_world.specs.Changes.{deaths_of, entities_at}

module _ (w : WorldState) where
  abbrev with_generation : ℕ → ℕ × ℕ
  with_generation i = (i, count_at w.live i)

  -- the live entities of a list of their indexes
  deaths_listed : (is : List ℕ) → ((i : ℕ) → Contains is i → is_live w i ≡ true) → deaths_of w is ≡ map (with_name w) (map with_generation is)
  deaths_listed [] live = refl
  deaths_listed (i ∷ is) live = by (value_at nat_cmp w.live i) refl (live i (0, omega arith, refl)) (deaths_listed is (λ j c. live j (Contains-append_right (i ∷ []) is j c)))
    where
      entity : ℕ → EntityId
      entity g = record { index = i; generation = g }

      told : EntityId → EntityId × Option (List ℕ)
      told e = (e, name_of w e.index)

      by : (o : Option ℕ) → value_at nat_cmp w.live i ≡ o → is_some o ≡ true → deaths_of w is ≡ map (with_name w) (map with_generation is)
          → map told (cons_option (option_map entity (value_at nat_cmp w.live i)) (entities_at w is)) ≡ told (entity (unwrap_or (value_at nat_cmp w.live i) 0)) ∷ map (with_name w) (map with_generation is)
      by None p h rest = absurd (true≢false (sym h))
      by (Some g) p h rest =
          ap (λ o. map told (cons_option (option_map entity o) (entities_at w is))) p
          ∙ ap (λ ds. told (entity g) ∷ ds) rest
          ∙ sym (ap (λ o. told (entity (unwrap_or o 0)) ∷ map (with_name w) (map with_generation is)) p)

  -- who falls with a live entity is live
  pub falls_live : (e : ℕ) → is_live w e ≡ true → {y : ℕ} → Reached (falling (ids_of w) (entities w)) e y → is_live w y ≡ true
  falls_live e live itself = live
  falls_live e live (onward {y = y} {z = z} r c) = listed_live w z ((filtered (λ x. list_any (falls_by (ids_of w) y) (ids_of w x)) (entities w) z).0 c).0

  pub deaths_told : (e : ℕ) → IsWellFormed w → is_live w e ≡ true → deaths_of w (keys (deleted w e)) ≡ map (with_name w) (without nat_cmp w.live (λ i. not (has_key nat_cmp (deleted w e) i)))
  deaths_told e h live =
      deaths_listed (keys (deleted w e)) (λ i c. falls_live e live ((deleted_is_least w e live i).0 (there_key nat_cmp nat_cmp_total (deleted w e) i c)))
      ∙ ap (map (with_name w)) (sym (died_are w e h live))
