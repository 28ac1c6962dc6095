-- Of a linked query, who may not stand for `$this` where somebody of whom a fact came or went may stand for another variable stays as before, unless facts of its own came or went.
use Rattle.std.specs.Prelude.{◌≡◌, ◌↔◌, ℕ, suc, ◌==◌, Bool, true, false, not, ◌&&◌, ◌||◌, nat_lt, List, ◌++◌, filter, flat_map, length, map}
use Rattle.std.specs.List.{Contains, list_any}
use Rattle.std.proofs.Common.{◌<◌, refl, sym, ap, subst, ◌∙◌, inl, inr, arith, true≢false}
use Rattle.std.proofs.lemmas.Bool.{and_from, and_parts, cases_Bool, eq-eqb, eqb-true, ltb-true, not-true}
use Rattle.std.proofs.lemmas.List.Elements.{Contains-append_left, Contains-append_right}
use Rattle.ecs_id.specs.Id.{Id, pair, last_index}
use Rattle.ecs_model.specs.steps.Outcomes.{Changed}
use Rattle.ecs_model.specs.Links.{ancestor_line}
use Rattle.ecs_model.specs.World.{WorldState, Key, entities, holds, ids_of, key_eq}
use Rattle.ecs_model.specs.rows.View.{View, view_of}
use Rattle.ecs_model.specs.stored.Watches.{matching}
use Rattle.ecs_model.specs.steps.WellFormed.{IsWellFormed}
use Rattle.ecs_model.proofs.Members.{any_passes, eq_itself, filtered, in_flat_map, passing}
use Rattle.ecs_model.proofs.steps.AddedSets.{in_map}
use Rattle.ecs_model.proofs.steps.Facts.{held_listed, listed_held}
use Rattle.ecs_model.proofs.steps.LivingIds.{are_links, refuted}
use Rattle.query_check.specs.Terms.{terms}
use Rattle.query_meaning.specs.Sound.{IsSound}
use Rattle.query_model.specs.declared.query.Term.{Term}
use Rattle.query_model.specs.Query.{Query}
use Rattle.watch_concerns.specs.Anchored.{is_anchored, is_variable}
use Rattle.watch_concerns.specs.Concerns.{concerns, may_match, term_concerns}
use Rattle.watch_concerns.specs.Idle.{asks_for, term_asks_for}
use Rattle.watch_concerns.specs.Others.{concerns_below}
use Rattle.watch_concerns.specs.Roles.{LeadsOn, is_linked_by, joins, leads_in, leads_out, may_stand}
use Rattle.watch_concerns.specs.Since.{IsAfter}
use Rattle.watch_concerns.proofs.Ancestors.{line_chain}
use Rattle.watch_concerns.proofs.CoveredTerms.{by_term}
use Rattle.watch_concerns.proofs.LevelAgreement.{by_match}
use Rattle.watch_concerns.proofs.StandingEntities.{match_by_roles}
use Rattle.watch_concerns.proofs.UnaskedVariables.{asked_for_others}
use Rattle.watch_touched.specs.Before.{view_before}
use Rattle.watch_touched.specs.Moving.{entities_by, entities_of, ids_around, may_be_this}
use Rattle.watch_touched.specs.Laws.{OthersThanRolesStay}
use Rattle.watch_touched.specs.Leaning.{target_of}
use Rattle.watch_touched.specs.Roles.{AreMovingByRoles, holders_as, holds_as, ids_of_both, stands_for, targets_as}
use Rattle.watch_touched.proofs.IdsBefore.{is_among}
use Rattle.watch_touched.proofs.StayingEntities.{around_before, below_matters, filter_twice, filter_within, holder_leans, its_target, lacking_stays, lasting, leans_below, matters, matters_itself, others_matter, passing_stay, seen, seen_links, unlisted_stay, up}
use Rattle.watch_touched.proofs.UnconcernedCommands.{queries_matched_before}
use Rattle.watch_touched.proofs.WorldBefore.{has_gone}

-- the one before another isn't the last, and the one after isn't the first
after_none : (u v : ℕ) → nat_lt u v ≡ true → (v == 0) ≡ false
after_none u v h = let low : u < v = ltb-true u v h in refuted (v == 0) (λ same. let none : v ≡ 0 = eqb-true v 0 same in omega (arith, low, none))

-- a pair by which a term leads from its holder is asked of the holder's variable, and concerns the query
module _ (by : ℕ → Term → Bool) (q : Query) (u v : ℕ) (i : Id) where
  record IsLeading : Type 0 where
    term : Term
    among : Contains (terms q) term
    source : is_variable u term.source ≡ true
    fits : term_concerns i term ≡ true
    below : nat_lt u v ≡ true

  leading : leads_out by q u v i ≡ true → IsLeading
  unfolding leads_out
  leading h =
      let both = and_parts _ _ h in
      let t = passing (λ t. by v t && joins u v t && may_match t.component t.target i) (terms q) both.1 in
      let tests = and_parts _ _ t.2 in
      let joined = and_parts _ _ (and_parts _ _ tests.0).1 in
      record { term = t.0; among = t.1; source = (and_parts _ _ joined.0).1; fits = by_match i t.0 tests.1; below = both.0 }

  pub asked_of_holder : leads_out by q u v i ≡ true → asks_for (terms q) u i ≡ true
  asked_of_holder h = let l = leading h in any_passes (term_asks_for u i) (terms q) l.term l.among (and_from _ _ l.source l.fits)

  leads_concerned : leads_out by q u v i ≡ true → concerns q i ≡ true
  leads_concerned h = let l = leading h in by_term q l.term l.among i l.fits

  pub leads_out_below : leads_out by q u v i ≡ true → nat_lt u v ≡ true
  leads_out_below h = (leading h).below

  pub leads_in_below : leads_in by q u v i ≡ true → nat_lt u v ≡ true
  unfolding leads_in
  leads_in_below h = (and_parts _ _ h).0

module _ (v : WorldState) (changed : Changed) (kept_now : IsWellFormed v) (after : IsAfter v changed) (q : Query) (e : ℕ) (fit : may_be_this q v e ≡ true)
    (sound : IsSound q) (anchored : is_anchored q ≡ true) (by : ℕ → Term → Bool) (linked : is_linked_by by q ≡ true) where
  -- what matters for the entity, and what is seen but for the rest
  abbrev weighs : ℕ → Id → Bool
  weighs x i = matters v changed kept_now after q e fit x i

  abbrev look : WorldState → View
  look w = seen v changed kept_now after q e fit w

  abbrev all_ids : ℕ → List Id
  all_ids x = ids_around v changed.went x

  asked_weighs : (u x : ℕ) → (u == 0) ≡ false → (i : Id) → asks_for (terms q) u i ≡ true → weighs x i ≡ true
  asked_weighs u x other i asked = others_matter v changed kept_now after q e fit x i (asked_for_others i u other q asked)

  -- what doesn't matter makes no difference
  match_seen : (w : WorldState) → IsWellFormed w → Contains (matching (view_of w) q) e ↔ Contains (matching (look w) q) e
  match_seen w kept =
      match_by_roles (suc last_index) (suc last_index) (view_of w) (look w) q (are_links w kept) (seen_links v changed kept_now after q e fit w kept) sound anchored by linked e
      (filter_within (concerns q) (weighs e) (λ i h. matters_itself v changed kept_now after q e fit i ∙ h) (ids_of w e))
      (λ r x there. filter_within (concerns_below q) (weighs x) (below_matters v changed kept_now after q e fit x) (ids_of w x))
      (ids_of w) (λ x i h. h) (λ x i h. ((filtered (weighs x) (ids_of w x) i).0 h).0)
      (λ u x. true) refl
      (record { target = λ u s r x y near may may' h leads. refl; holder = λ u s r x y near may may' h leads. refl })
      (record { target = λ u s r x y near may may' h leads. refl; holder = λ u s r x y near may may' h leads. refl })
      (λ u x other near may. filter_within (asks_for (terms q) u) (weighs x) (asked_weighs u x other) (ids_of w x))

  module _ (es : List ℕ) (all : AreMovingByRoles q v by changed es) (apart : Contains es e → ⊥) where
    abbrev found : List (ℕ × ℕ)
    found = all.roles

    -- ---- before and after

    own_stay : filter (concerns q) (filter (weighs e) (ids_of after.before e)) ≡ filter (concerns q) (filter (weighs e) (ids_of v e))
    own_stay = unlisted_stay v changed kept_now after (weighs e) (concerns q) e (λ h. apart (all.own e h))

    above_stay : (r x : ℕ) → Contains (ancestor_line (look v).ids (look v).entities r e) x
        → filter (concerns_below q) (filter (weighs x) (ids_of after.before x)) ≡ filter (concerns_below q) (filter (weighs x) (ids_of v x))
    above_stay r x there =
        unlisted_stay v changed kept_now after (weighs x) (concerns_below q) x
        (λ h.
        let low = leans_below v changed kept_now after q e fit r x (line_chain (up v changed kept_now after q e fit r) (length (entities v)) e x there) in
        apart (all.held low.0 e (all.all_below x low.0 h low.1) low.2))

    -- ---- near are those who aren't among the roles, and of those who stand for `$this` the entity alone

    abbrev is_found : ℕ → ℕ → Bool
    is_found u x = list_any (λ k. k.0 == u && k.1 == x) found

    abbrev is_near : ℕ → ℕ → Bool
    is_near u x = not (is_found u x) && (not (u == 0) || x == e)

    near_apart : (u x : ℕ) → is_near u x ≡ true → Contains found (u, x) → ⊥
    near_apart u x near h =
        true≢false
        (sym (any_passes (λ (k : ℕ × ℕ). k.0 == u && k.1 == x) found (u, x) h (and_from _ _ (eq-eqb u u refl) (eq-eqb x x refl)))
        ∙ not-true (is_found u x) (and_parts _ _ near).0)

    unfound : (u x : ℕ) → (Contains found (u, x) → ⊥) → not (is_found u x) ≡ true
    unfound u x none = ap not (refuted (is_found u x) (λ t.
        let k = passing (λ (k : ℕ × ℕ). k.0 == u && k.1 == x) found t in
        let both = and_parts _ _ k.2 in
        let first : (k.0).0 ≡ u = eqb-true (k.0).0 u both.0 in
        let second : (k.0).1 ≡ x = eqb-true (k.0).1 x both.1 in
        none (subst (Contains found) (λ j. (first j, second j)) k.1)))

    near_unless : (u x : ℕ) → (u == 0) ≡ false → (Contains found (u, x) → ⊥) → is_near u x ≡ true
    near_unless u x other none = and_from _ _ (unfound u x none) (ap (λ b. not b || x == e) other)

    itself_near : is_near 0 e ≡ true
    itself_near = and_from _ _ (unfound 0 e (λ h. apart (all.this e h fit))) (eq-eqb e e refl)

    near_itself : (x : ℕ) → is_near 0 x ≡ true → x ≡ e
    near_itself x near = eqb-true x e (and_parts _ _ near).1

    -- who is near as a variable that is asked for an id has gained and lost none such
    untouched : (u x : ℕ) → (u == 0) ≡ false → is_near u x ≡ true → may_stand q (all_ids x) u ≡ true → (i : Id) → asks_for (terms q) u i ≡ true → Contains (changed.came ++ changed.went) (x, i) → ⊥
    untouched u x other near may i asked h =
        near_apart u x near ((all.are_roles).asked u (x, i) h (and_from (not (u == 0) && asks_for (terms q) u i) _ (and_from (not (u == 0)) _ (ap not other) asked) may))

    came_in : (x : ℕ) (i : Id) → list_any (key_eq (x, i)) changed.came ≡ true → Contains (changed.came ++ changed.went) (x, i)
    came_in x i t = Contains-append_left changed.came changed.went (x, i) (is_among changed.came (x, i) t)

    went_in : (x : ℕ) (i : Id) → list_any (key_eq (x, i)) changed.went ≡ true → Contains (changed.came ++ changed.went) (x, i)
    went_in x i t = Contains-append_right changed.came changed.went (x, i) (is_among changed.went (x, i) t)

    -- who has lost a fact that concerns the query is listed
    went_listed : (x : ℕ) (i : Id) → list_any (key_eq (x, i)) changed.went ≡ true → concerns q i ≡ true → Contains (entities_of (concerns q) changed) x
    went_listed x i t concerned =
        let test : Key → Bool = λ k. concerns q k.1 in
        let fact = (filtered test changed.went (x, i)).1 (is_among changed.went (x, i) t, concerned) in
        Contains-append_right (entities_by (concerns q) changed.came) (entities_by (concerns q) changed.went) x (in_map (λ (k : Key). k.0) (filter test changed.went) (x, i) fact)

    near_known : (u x : ℕ) → (u == 0) ≡ false → is_near u x ≡ true → may_stand q (all_ids x) u ≡ true
        → filter (asks_for (terms q) u) (filter (weighs x) (ids_of after.before x)) ≡ filter (asks_for (terms q) u) (filter (weighs x) (ids_of v x))
    near_known u x other near may =
        filter_twice (asks_for (terms q) u) (weighs x) (ids_of after.before x)
        ∙ passing_stay v changed kept_now after (λ i. weighs x i && asks_for (terms q) u i) x
        (λ i h. refuted (list_any (key_eq (x, i)) changed.came) (λ t. untouched u x other near may i (and_parts _ _ h).1 (came_in x i t)))
        (λ i h. refuted (list_any (key_eq (x, i)) changed.went) (λ t. untouched u x other near may i (and_parts _ _ h).1 (went_in x i t)))
        ∙ sym (filter_twice (asks_for (terms q) u) (weighs x) (ids_of v x))

    -- ---- to whom a pair leads from somebody near

    -- what was held before is held now, or has gone
    held_or_gone : (x : ℕ) (i : Id) → Contains (ids_of after.before x) i → (list_any (key_eq (x, i)) changed.went ≡ false → Contains (ids_of v x) i)
    held_or_gone x i h lasts =
        let was = listed_held after.before x i h in
        let gone = has_gone after.before v after.command changed after.kept after.stepped (x, i) in
        held_listed v x i (lasting (holds v x i) (holds after.before x i) was (sym gone ∙ lasts))

    module _ (u s r x y : ℕ) (may : may_stand q (all_ids x) u ≡ true) (k : Contains found (s, y)) where
      by_held : leads_out by q u s (pair r y) ≡ true → Contains (ids_of v x) (pair r y) → Contains found (u, x)
      by_held leads h =
          let leans = holder_leans v changed kept_now after q e fit (holds_as q v by changed u s) x r y h (and_from _ _ leads may) in
          (all.are_roles).closed u s x y k (Contains-append_left (holders_as q v by changed u s y) (targets_as q v by changed u s y) x leans)

      by_target : leads_in by q u s (pair r x) ≡ true → Contains (ids_of_both q v by changed y) (pair r x) → Contains found (u, x)
      by_target leads h =
          let p = leads_in by q u s in
          let target = in_flat_map (target_of p) (ids_of_both q v by changed y) (pair r x) x h (its_target p r x leads) in
          (all.are_roles).closed u s x y k
          (Contains-append_right (holders_as q v by changed u s y) (targets_as q v by changed u s y) x
          ((filtered (stands_for q v by changed u) (flat_map (target_of p) (ids_of_both q v by changed y)) x).1 (target, may)))

      by_lost : leads_in by q u s (pair r x) ≡ true → list_any (key_eq (y, pair r x)) changed.went ≡ true → Contains found (u, x)
      by_lost leads gone =
          let test : Key → Bool = λ l. l.0 == y in
          let fact = (filtered test changed.went (y, pair r x)).1 (is_among changed.went (y, pair r x) gone, eq_itself y) in
          by_target leads (Contains-append_right (ids_of v y) (map (λ (l : Key). l.1) (filter test changed.went)) (pair r x) (in_map (λ (l : Key). l.1) (filter test changed.went) (y, pair r x) fact))

    module _ (u s r x y : ℕ) (near : is_near u x ≡ true) (may : may_stand q (all_ids x) u ≡ true) where
      target_now : leads_out by q u s (pair r y) ≡ true → Contains (ids_of v x) (pair r y) → is_near s y ≡ true
      target_now leads h = near_unless s y (after_none u s (leads_out_below by q u s (pair r y) leads)) (λ k.
          near_apart u x near (by_held u s r x y may k leads h))

      -- its holder would have lost a fact that is asked of it
      target_kept : leads_out by q u s (pair r y) ≡ true → list_any (key_eq (x, pair r y)) changed.went ≡ true → ⊥
      target_kept leads gone = elim (cases_Bool (u == 0)) [
        | inl first ↦
            let same : x ≡ e = near_itself x (subst (λ u. is_near u x ≡ true) (eqb-true u 0 first) near) in
            apart (all.own e (subst (Contains (entities_of (concerns q) changed)) same (went_listed x (pair r y) gone (leads_concerned by q u s (pair r y) leads))))
        | inr other ↦ untouched u x other near may (pair r y) (asked_of_holder by q u s (pair r y) leads) (went_in x (pair r y) gone)
      ]

      target_before : leads_out by q u s (pair r y) ≡ true → Contains (ids_of after.before x) (pair r y) → is_near s y ≡ true
      target_before leads h = elim (cases_Bool (list_any (key_eq (x, pair r y)) changed.went)) [
        | inl gone ↦ absurd (target_kept leads gone)
        | inr lasts ↦ target_now leads (held_or_gone x (pair r y) h lasts)
      ]

      holder_now : leads_in by q u s (pair r x) ≡ true → Contains (ids_of v y) (pair r x) → is_near s y ≡ true
      holder_now leads h = near_unless s y (after_none u s (leads_in_below by q u s (pair r x) leads)) (λ k.
          near_apart u x near (by_target u s r x y may k leads (Contains-append_left (ids_of v y) (map (λ (l : Key). l.1) (filter (λ (l : Key). l.0 == y) changed.went)) (pair r x) h)))

      holder_before : leads_in by q u s (pair r x) ≡ true → Contains (ids_of after.before y) (pair r x) → is_near s y ≡ true
      holder_before leads h = elim (cases_Bool (list_any (key_eq (y, pair r x)) changed.went)) [
        | inl gone ↦ near_unless s y (after_none u s (leads_in_below by q u s (pair r x) leads)) (λ k.
            near_apart u x near (by_lost u s r x y may k leads gone))
        | inr lasts ↦ holder_now leads (held_or_gone y (pair r x) h lasts)
      ]

    leads_before : LeadsOn by q all_ids (look after.before) is_near
    leads_before = record {
      target = λ u s r x y near may other h leads. target_before u s r x y near may leads ((filtered (weighs x) (ids_of after.before x) (pair r y)).0 h).0;
      holder = λ u s r x y near may other h leads. holder_before u s r x y near may leads ((filtered (weighs y) (ids_of after.before y) (pair r x)).0 h).0;
    }

    leads_now : LeadsOn by q all_ids (look v) is_near
    leads_now = record {
      target = λ u s r x y near may other h leads. target_now u s r x y near may leads ((filtered (weighs x) (ids_of v x) (pair r y)).0 h).0;
      holder = λ u s r x y near may other h leads. holder_now u s r x y near may leads ((filtered (weighs y) (ids_of v y) (pair r x)).0 h).0;
    }

    match_after : Contains (matching (look after.before) q) e ↔ Contains (matching (look v) q) e
    match_after =
        match_by_roles (suc last_index) (suc last_index) (look after.before) (look v) q (seen_links v changed kept_now after q e fit after.before after.kept) (seen_links v changed kept_now after q e fit v kept_now)
        sound anchored by linked e own_stay above_stay all_ids
        (λ x i h. around_before v changed kept_now after x i ((filtered (weighs x) (ids_of after.before x) i).0 h).0)
        (λ x i h. Contains-append_left (ids_of v x) (map (λ (k : Key). k.1) changed.went) i ((filtered (weighs x) (ids_of v x) i).0 h).0)
        is_near itself_near leads_before leads_now near_known

    pub fit_stays : Contains (matching (view_before v changed) q) e ↔ Contains (matching (view_of v) q) e
    fit_stays =
        let first = match_seen after.before after.kept in
        let last = match_seen v kept_now in
        let were = queries_matched_before after.before v after.command changed q after.kept after.stepped in (
          λ h. last.1 (match_after.0 (first.0 (subst (λ es. Contains es e) were h))),
          λ h. subst (λ es. Contains es e) (sym were) (first.1 (match_after.1 (last.0 h))),
        )

pub others_than_roles_stay : OthersThanRolesStay
others_than_roles_stay v changed q kept_now after sound anchored by linked es all e apart = elim (cases_Bool (may_be_this q v e)) [
  | inl fit ↦ fit_stays v changed kept_now after q e fit sound anchored by linked es all apart
  | inr lack ↦ lacking_stays v changed kept_now after q e (λ h. apart (all.own e h)) lack
]
