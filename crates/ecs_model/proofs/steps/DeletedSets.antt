-- Who is deleted with an entity: the least set, which holds no built-in entity where the entity isn't one.
use Rattle.std.specs.Prelude.{◌≡◌, ℕ, ◌<◌, ◌^◌, ◌==◌, true, false, not, ◌&&◌, List, [], ◌∷◌, length, None, nat_lt, unwrap_or}
use Rattle.std.specs.List.{Contains, list_any}
use Rattle.std.specs.Ordering.{nat_cmp}
use Rattle.std.specs.Cmp.{nat_cmp_total}
use Rattle.std.proofs.Common.{sym, ap, ◌∙◌, inl, inr, arith, true≢false}
use Rattle.std.proofs.lemmas.Bool.Decides.{nat_tests}
use Rattle.ecs_id.specs.declared.EntityId.{EntityId}
use Rattle.ecs_id.specs.Id.{Id, plain, pair, mentioned}
use Rattle.ecs_model.specs.declared.faults.Refusal.TheVariants.{Dead, BuiltIn, InUse, Panic, Full}
use Rattle.ecs_model.specs.steps.Outcomes.{counted, is_spent}
use Rattle.ecs_model.specs.Cleanup.{deletes_sources, deletes_users, falls_by, falling}
use Rattle.ecs_model.specs.Map.{has_key, keys, value_at}
use Rattle.ecs_model.specs.Reach.{Reached, itself, onward}
use Rattle.ecs_model.specs.Refusal.{first_reason}
use Rattle.ecs_model.specs.World.{WorldState, is_live, is_alive, is_built_in, entities, ids_of}
use Rattle.ecs_model.specs.steps.FactChanges.{deleted, is_forbidden}
use Rattle.ecs_model.specs.steps.Step.{Delete, is_pinned, delete_reasons, reasons, effect}
use Rattle.ecs_model.specs.steps.WellFormed.{IsWellFormed}
use Rattle.ecs_model.specs.steps.StepLaws.{DeletedIsLeast}
use Rattle.ecs_model.proofs.Additions.{none_passes}
use Rattle.ecs_model.proofs.LeastSets.{rounds_reach, within_is_least, nat_same}
use Rattle.ecs_model.proofs.Maps.{of_some}
use Rattle.ecs_model.proofs.Members.{both, eq_same, filtered, from_or, passing}
use Rattle.ecs_model.proofs.Reasons.{passed}
use Rattle.ecs_model.proofs.steps.Deletions.{MayGo, deletion_keeps}
use Rattle.ecs_model.proofs.steps.Facts.{live_listed, listed_held}
use Rattle.ecs_model.proofs.steps.LivingIds.{built_in_mentions, refuted}

-- who falls with an entity, mentions it
falls_mention : (ids : ℕ → List Id) (x : ℕ) (i : Id) → falls_by ids x i ≡ true → Contains (mentioned i) x
falls_mention ids x (plain c) f = (0, omega arith, eq_same c x (both (c == x) (deletes_users ids x) f).0)
falls_mention ids x (pair r t) f =
    elim (from_or (t == x && deletes_sources ids r) (r == x && deletes_users ids x) f) [
      | inl p ↦ (1, omega arith, eq_same t x (both (t == x) (deletes_sources ids r) p).0)
      | inr p ↦ (0, omega arith, eq_same r x (both (r == x) (deletes_users ids x) p).0)
    ]

module _ (w : WorldState) where
  abbrev next : ℕ → List ℕ
  next = falling (ids_of w) (entities w)

  falls_live : (x y : ℕ) → Contains (next x) y → Contains (entities w) y
  falls_live x y c = ((filtered (λ z. list_any (falls_by (ids_of w) x) (ids_of w z)) (entities w) y).0 c).0

  reached_live : (e : ℕ) → is_live w e ≡ true → {y : ℕ} → Reached next e y → Contains (entities w) y
  reached_live e l itself = live_listed w e l
  reached_live e l (onward {y = y} {z = z} r c) = falls_live y z c

  pub deleted_reached : (e y : ℕ) → has_key nat_cmp (deleted w e) y ≡ true → Reached next e y
  unfolding deleted
  deleted_reached e y d = rounds_reach nat_cmp_total nat_same next (length (entities w)) e y d

  module _ (h : IsWellFormed w) where
    -- no built-in entity falls with one that isn't
    none_built_in : (e : ℕ) → is_built_in e ≡ false → {y : ℕ} → Reached next e y → is_built_in y ≡ false
    none_built_in e own itself = own
    none_built_in e own (onward {y = y} {z = z} r c) = refuted (is_built_in z) (λ b. true≢false (sym (mentions b) ∙ none_built_in e own r))
      where
        mentions : is_built_in z ≡ true → is_built_in y ≡ true
        mentions b =
            let falls = (filtered (λ z. list_any (falls_by (ids_of w) y) (ids_of w z)) (entities w) z).0 c in
            let i = passing (falls_by (ids_of w) y) (ids_of w z) falls.1 in
            built_in_mentions w h z i.0 b (listed_held w z i.0 i.1) y (falls_mention (ids_of w) y i.0 i.2)

    none_counted : (n : ℕ) → 0 < n → nat_lt 0 n ≡ false → ⊥
    none_counted n p q = grind (arith, nat_tests)

    pub may_go : (e : ℕ) → is_built_in e ≡ false → list_any (is_pinned w) (keys (deleted w e)) ≡ false → MayGo w (deleted w e)
    may_go e own free = record {
      own = λ i g. none_built_in e own (deleted_reached e i g);
      unpinned = λ i n g p.
          let none = none_passes (is_pinned w) (deleted w e) i g free in
          let kept = of_some (λ n. (is_live w i ≡ true) × (0 < n) × (n < 2 ^ 64)) (value_at nat_cmp w.pins i) ((h.live).pins i) n p in
          none_counted n kept.1 (sym (ap (λ o. nat_lt 0 (unwrap_or o 0)) p) ∙ none);
    }

pub delete_keeps : (w : WorldState) (e : EntityId) → IsWellFormed w → first_reason (reasons w (Delete e)) ≡ None → IsWellFormed (counted (effect w (Delete e)))
unfolding reasons effect
delete_keeps w e h r =
    let gone = deleted w e.index in
    let live = passed (not (is_alive w e)) Dead ((is_built_in e.index, BuiltIn) ∷ delete_reasons w gone) r in
    let own = passed (is_built_in e.index) BuiltIn (delete_reasons w gone) live.1 in
    let free = passed (list_any (is_pinned w) (keys gone)) InUse ((is_forbidden w gone, Panic) ∷ (is_spent w, Full) ∷ []) own.1 in
    let calm = passed (is_forbidden w gone) Panic ((is_spent w, Full) ∷ []) free.1 in
    deletion_keeps w gone h (may_go w h e.index own.0 free.0) (passed (is_spent w) Full [] calm.1).0

pub deleted_is_least : DeletedIsLeast
unfolding deleted
deleted_is_least w e l y = within_is_least nat_cmp_total nat_same (next w) (length (entities w)) (entities w) (omega arith) e (λ z r. reached_live w e l r) y
