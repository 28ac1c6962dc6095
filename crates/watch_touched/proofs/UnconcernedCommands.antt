-- A query had rows of the same entities by what follows of the world before, and has them after a command that doesn't concern it.
use Rattle.std.specs.Prelude.{◌≡◌, ℕ, suc, ◌==◌, Bool, true, false, not, ◌&&◌, ◌||◌, List, [], ◌∷◌, ◌++◌, filter, length, map, Ok, Option, Some, None, is_some}
use Rattle.std.specs.Cmp.{nat_cmp_total}
use Rattle.std.specs.FinMap.{nat_cmp-IsAntisymmetric}
use Rattle.std.specs.List.{list_any}
use Rattle.std.specs.Option.{option_map_or}
use Rattle.std.specs.Ordering.{nat_cmp, eq_by_cmp}
use Rattle.std.specs.List.Sorted.{IsStrictlySortedBy}
use Rattle.std.proofs.Common.{refl, sym, ap, ◌∙◌, inl, inr, true≢false, arith}
use Rattle.std.proofs.lemmas.Bool.{cases_Bool, ne_eqb, or_parts}
use Rattle.std.proofs.lemmas.List.Folds.{list_any-append}
use Rattle.std.proofs.lemmas.List.Kept.{IsStrictlySortedBy-filter}
use Rattle.ecs_id.specs.declared.EntityId.{EntityId}
use Rattle.ecs_id.specs.Id.{Id, id_cmp, id_cmp_same, id_cmp_total, last_index}
use Rattle.ecs_model.specs.steps.Outcomes.{Changed}
use Rattle.ecs_model.specs.World.{WorldState, Key, entities, holds, ids_of, is_live, key_cmp, key_eq}
use Rattle.ecs_model.specs.rows.Rows.{rows}
use Rattle.ecs_model.specs.rows.View.{view_of}
use Rattle.ecs_model.specs.stored.Watches.{is_this, matching}
use Rattle.ecs_model.specs.steps.Step.{Command, step}
use Rattle.ecs_model.specs.steps.WellFormed.{IsWellFormed}
use Rattle.ecs_model.proofs.Members.{any_passes, filtered}
use Rattle.ecs_model.proofs.steps.Facts.{held_listed, listed_held}
use Rattle.ecs_model.proofs.steps.LivingIds.{are_links, refuted}
use Rattle.query_model.specs.Query.{Query}
use Rattle.watch_concerns.specs.Anchored.{is_anchored}
use Rattle.watch_concerns.specs.Concerns.{concerns}
use Rattle.watch_concerns.proofs.MatchingRows.{match_by_what_concerns}
use Rattle.watch_concerns.proofs.AnchoredRows.{match_whoever_else_lives}
use Rattle.watch_concerns.specs.Since.{IsAfter}
use Rattle.watch_touched.specs.Before.{entities_before, is_born, view_before}
use Rattle.watch_touched.specs.Concerned.{any_concerns, has_births_or_deaths, is_concerned}
use Rattle.watch_touched.specs.Laws.{QueriesMatchedBefore, UnconcernedQueriesMatchOn}
use Rattle.watch_touched.proofs.IdsBefore.{is_among, same_held}
use Rattle.watch_touched.proofs.OrderedMembers.{any_left, in_order_are_keys}
use Rattle.watch_touched.proofs.RisingIds.{ids_rise, keys_rise, one_list}
use Rattle.watch_touched.proofs.WorldBefore.{dead, has_gone, is_new, shown_before}

pub queries_matched_before : QueriesMatchedBefore
queries_matched_before w v c changed q kept done =
    let shown = shown_before w v c changed kept done in
    match_by_what_concerns (view_before v changed) (view_of w) q (record { entities = shown.0; ids = λ e. ap (filter (concerns q)) (shown.1 e) })

-- ---- where no entity was born and none died, the same live

no_birth : (o : Option EntityId) → is_some o ≡ false → (i : ℕ) → option_map_or (λ e. e.index == i) o false ≡ false
no_birth None none i = refl
no_birth (Some e) none i = absurd (true≢false none)

no_items : {X : Type 0} (xs : List X) → not (length xs == 0) ≡ false → xs ≡ []
no_items [] none = refl
no_items (x ∷ xs) none = absurd (true≢false (sym (ap not (ne_eqb (suc (length xs)) 0 (λ e. absurd (omega (arith, e))))) ∙ none))

stay : (v : WorldState) (changed : Changed) → IsWellFormed v → is_some changed.born ≡ false → changed.died ≡ [] → (view_before v changed).entities ≡ entities v
unfolding entities_before
stay v changed kept none_born none_died =
    in_order_are_keys nat_cmp nat_cmp_total nat_cmp-IsAntisymmetric v.live (lasting ++ dead changed) (kept.in_order).live alive
  where
    lasting : List ℕ
    lasting = filter (λ i. not (is_born changed i)) (entities v)

    or_none : (b : Bool) → (b || false) ≡ b
    or_none true = refl
    or_none false = refl

    alive : (i : ℕ) → list_any (eq_by_cmp nat_cmp i) (lasting ++ dead changed) ≡ is_live v i
    alive i =
        list_any-append (eq_by_cmp nat_cmp i) lasting (dead changed)
        ∙ ap (λ ds. list_any (eq_by_cmp nat_cmp i) lasting || list_any (eq_by_cmp nat_cmp i) (map (λ d. (d.0).index) ds)) none_died
        ∙ or_none (list_any (eq_by_cmp nat_cmp i) lasting)
        ∙ any_left nat_cmp nat_cmp_total nat_cmp-IsAntisymmetric v.live (is_born changed) i
        ∙ ap (λ b. not b && is_live v i) (no_birth changed.born none_born i)

-- ---- and where no fact came or went that concerns a query, each holds the same ids of those that do

-- no fact of an id that concerns a query is among facts of which none does
not_among : (q : Query) (ks : List Key) → any_concerns q ks ≡ false → (k : Key) → concerns q k.1 ≡ true → list_any (key_eq k) ks ≡ false
not_among q ks none k h = refuted (list_any (key_eq k) ks) (λ t. true≢false (sym (any_passes (λ x. concerns q x.1) ks k (is_among ks k t) h) ∙ none))

module _ (w v : WorldState) (c : Command) (changed : Changed) (kept : IsWellFormed w) (kept_now : IsWellFormed v) (done : step w c ≡ Ok (v, changed)) (q : Query) where
  same_concerning : any_concerns q changed.came ≡ false → any_concerns q changed.went ≡ false → (e : ℕ) → filter (concerns q) (ids_of w e) ≡ filter (concerns q) (ids_of v e)
  same_concerning none_came none_went e =
      one_list id_cmp id_cmp_total id_cmp_same (filter (concerns q) (ids_of w e)) (filter (concerns q) (ids_of v e))
      (IsStrictlySortedBy-filter id_cmp (concerns q) (ids_of w e) (ids_rise e _ (keys_rise key_cmp w.facts (kept.in_order).facts)))
      (IsStrictlySortedBy-filter id_cmp (concerns q) (ids_of v e) (ids_rise e _ (keys_rise key_cmp v.facts (kept_now.in_order).facts)))
      (λ i. (
        λ h. let f = (filtered (concerns q) (ids_of w e) i).0 h in
            (filtered (concerns q) (ids_of v e) i).1 (held_listed v e i (sym (same i f.1) ∙ listed_held w e i f.0), f.1),
        λ h. let f = (filtered (concerns q) (ids_of v e) i).0 h in
            (filtered (concerns q) (ids_of w e) i).1 (held_listed w e i (same i f.1 ∙ listed_held v e i f.0), f.1),
      ))
    where
      same : (i : Id) → concerns q i ≡ true → holds w e i ≡ holds v e i
      same i h = same_held w v c changed kept done e (holds w e i) (holds v e i)
          (sym (is_new w v c changed kept done (e, i)) ∙ not_among q changed.came none_came (e, i) h)
          (sym (has_gone w v c changed kept done (e, i)) ∙ not_among q changed.went none_went (e, i) h)

-- ---- of an anchored query it doesn't matter who was born and who died

pub matching_rises : (w : WorldState) → IsWellFormed w → (q : Query) → IsStrictlySortedBy nat_cmp (matching (view_of w) q)
unfolding matching
matching_rises w kept q = IsStrictlySortedBy-filter nat_cmp (λ e. list_any (is_this e) (rows (view_of w) q)) (entities w) (keys_rise nat_cmp w.live (kept.in_order).live)

module _ (v : WorldState) (changed : Changed) (q : Query) (kept_now : IsWellFormed v) (after : IsAfter v changed)
    (none_came : any_concerns q changed.came ≡ false) (none_went : any_concerns q changed.went ≡ false) where
  concerning_stay : (e : ℕ) → filter (concerns q) (ids_of after.before e) ≡ filter (concerns q) (ids_of v e)
  concerning_stay = same_concerning after.before v after.command changed after.kept kept_now after.stepped q none_came none_went

  anchored_match_on : is_anchored q ≡ true → matching (view_before v changed) q ≡ matching (view_of v) q
  anchored_match_on anchored =
      queries_matched_before after.before v after.command changed q after.kept after.stepped
      ∙ one_list nat_cmp nat_cmp_total nat_cmp-IsAntisymmetric (matching (view_of after.before) q) (matching (view_of v) q)
      (matching_rises after.before after.kept q)
      (matching_rises v kept_now q)
      (match_whoever_else_lives (suc last_index) (suc last_index) (view_of after.before) (view_of v) q (are_links after.before after.kept) (are_links v kept_now) anchored concerning_stay)

  same_live_match_on : has_births_or_deaths changed ≡ false → matching (view_before v changed) q ≡ matching (view_of v) q
  same_live_match_on none =
      let parts = or_parts _ _ none in
      let shown = shown_before after.before v after.command changed after.kept after.stepped in
      match_by_what_concerns (view_before v changed) (view_of v) q (record {
        entities = stay v changed kept_now parts.0 (no_items changed.died parts.1);
        ids = λ e. ap (filter (concerns q)) (shown.1 e) ∙ concerning_stay e;
      })

not_both : (a b : Bool) → (a && not b) ≡ false → b ≡ false → a ≡ false
not_both true true h k = absurd (true≢false k)
not_both true false h k = absurd (true≢false h)
not_both false b h k = refl

pub unconcerned_queries_match_on : UnconcernedQueriesMatchOn
unfolding is_concerned
unconcerned_queries_match_on v changed q kept_now after none =
    let parts = or_parts _ _ none in
    let before = or_parts _ _ parts.0 in
    elim (cases_Bool (is_anchored q)) [
      | inl anchored ↦ anchored_match_on v changed q kept_now after before.1 parts.1 anchored
      | inr loose ↦ same_live_match_on v changed q kept_now after before.1 parts.1 (not_both (has_births_or_deaths changed) (is_anchored q) before.0 loose)
    ]
