-- Ids decide whether an entity is in the rows of a query, but for those who have to be asked.
use Rattle.std.specs.Prelude.{◌≡◌, ◌||◌, ℕ, Bool, ◌==◌, true, false, not, List, None, Some, is_none, if◌then◌else◌}
use Rattle.std.specs.List.{Contains, list_any}
use Rattle.std.proofs.Common.{refl, sym, ap, subst, ◌∙◌, true≢false}
use Rattle.std.proofs.lemmas.Bool.{false_from_ne_true}
use Rattle.std.proofs.lemmas.Option.{same_Some}
use Rattle.ecs_id.specs.Id.{Id}
use Rattle.ecs_model.specs.World.{WorldState, entities, ids_of, is_live}
use Rattle.ecs_model.specs.rows.Rows.{rows}
use Rattle.ecs_model.specs.rows.View.{view_of}
use Rattle.ecs_model.specs.stored.Watches.{is_this, matching}
use Rattle.ecs_model.proofs.Members.{any_passes, eq_itself, eq_same, filtered, passing}
use Rattle.query_model.specs.Query.{Query}
use Rattle.query_local.specs.Touched.{held_in}
use Rattle.query_meaning.specs.Sound.{IsSound}
use Rattle.watch_concerns.specs.OwnIds.{lacks, meets}
use Rattle.watch_concerns.proofs.LackedIds.{lacking_match_nothing}
use Rattle.watch_concerns.proofs.MetIds.{meeting_match}
use Rattle.watch_touched.specs.Moving.{told_by_ids}
use Rattle.watch_touched.proofs.TouchedEntities.{listed_lives}

-- who lives is listed
listed : (v : WorldState) (e : ℕ) → is_live v e ≡ true → Contains (entities v) e
listed v e h =
    let found = passing (λ u. u == e) (entities v) (listed_lives v e ∙ h) in
    subst (Contains (entities v)) (eq_same found.0 e found.2) found.1

-- who is in the rows lives
in_rows_lives : (v : WorldState) (q : Query) (e : ℕ) → Contains (matching (view_of v) q) e → is_live v e ≡ true
unfolding matching
in_rows_lives v q e h = sym (listed_lives v e) ∙ any_passes (λ u. u == e) (entities v) e ((filtered (λ e. list_any (is_this e) (rows (view_of v) q)) (entities v) e).0 h).0 (eq_itself e)

among : (es : List ℕ) (e : ℕ) → list_any (λ x. x == e) es ≡ true → Contains es e
among es e h = let x = passing (λ x. x == e) es h in subst (Contains es) (eq_same x.0 e x.2) x.1

module _ (v : WorldState) (q : Query) (e : ℕ) where
  -- whether it is in the rows
  pub dead_are_out : is_live v e ≡ false → false ≡ list_any (λ x. x == e) (matching (view_of v) q)
  dead_are_out dead = sym (false_from_ne_true _ (λ h. true≢false (sym (in_rows_lives v q e (among (matching (view_of v) q) e h)) ∙ dead)))

  pub lacking_are_out : lacks q (ids_of v e) ≡ true → false ≡ list_any (λ x. x == e) (matching (view_of v) q)
  lacking_are_out lacking = sym (false_from_ne_true _ (λ h. lacking_match_nothing (view_of v) q e lacking (among (matching (view_of v) q) e h)))

  pub meeting_are_in : IsSound q → is_live v e ≡ true → meets q (ids_of v e) ≡ true → true ≡ list_any (λ x. x == e) (matching (view_of v) q)
  meeting_are_in sound live met = sym (any_passes (λ x. x == e) (matching (view_of v) q) e (meeting_match (view_of v) q sound e (listed v e live) met) (eq_itself e))

  -- ---- whether it is shown with ids

  shown : held_in (view_of v) e ≡ (if is_live v e then Some (ids_of v e) else None)
  shown = ap (λ b. if b then Some (ids_of v e) else None) (listed_lives v e)

  pub shown_dead : None ≡ held_in (view_of v) e → is_live v e ≡ false
  shown_dead h = by (is_live v e) refl
    where
      by : (b : Bool) → is_live v e ≡ b → is_live v e ≡ false
      by true live =
          let none : None ≡ Some (ids_of v e) = h ∙ shown ∙ ap (λ b. if b then Some (ids_of v e) else None) live in
          absurd cc
      by false dead = dead

  pub shown_lives : (ids : List Id) → Some ids ≡ held_in (view_of v) e → (is_live v e ≡ true) × (ids ≡ ids_of v e)
  shown_lives ids h = by (is_live v e) refl
    where
      by : (b : Bool) → is_live v e ≡ b → (is_live v e ≡ true) × (ids ≡ ids_of v e)
      by true live = (live, same_Some ids (ids_of v e) (h ∙ shown ∙ ap (λ b. if b then Some (ids_of v e) else None) live))
      by false dead =
          let none : Some ids ≡ None = h ∙ shown ∙ ap (λ b. if b then Some (ids_of v e) else None) dead in
          absurd cc

  -- ---- what its ids decide

  pub told_dead : is_live v e ≡ false → Some false ≡ told_by_ids q v e
  told_dead dead = sym (ap (λ b. if not b || lacks q (ids_of v e) then Some false else (if meets q (ids_of v e) then Some true else None)) dead)

  pub told_lacking : is_live v e ≡ true → lacks q (ids_of v e) ≡ true → Some false ≡ told_by_ids q v e
  told_lacking live lacking = sym (λ i. if not (live i) || lacking i then Some false else (if meets q (ids_of v e) then Some true else None))

  pub told_met : (met : Bool) → is_live v e ≡ true → lacks q (ids_of v e) ≡ false → meets q (ids_of v e) ≡ met → (if met then Some true else None) ≡ told_by_ids q v e
  told_met met live has is = sym (λ i. if not (live i) || has i then Some false else (if is i then Some true else None))

  -- of whom they don't decide it, lives
  pub untold_lives : is_none (told_by_ids q v e) ≡ true → Contains (entities v) e
  untold_lives untold = by (is_live v e) refl
    where
      by : (b : Bool) → is_live v e ≡ b → Contains (entities v) e
      by true live = listed v e live
      by false dead = absurd (true≢false (sym untold ∙ ap is_none (sym (told_dead dead))))

  pub lives_here : is_live v e ≡ true → Contains (entities v) e
  lives_here live = listed v e live
