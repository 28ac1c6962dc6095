-- Who isn't among those that may have moved stays as before: no fact that concerns the query came or went of its own, nor one that concerns others of somebody with whom it holds a pair,
-- nor one that concerns those below of somebody above it.
use Rattle.std.specs.Prelude.{◌≡◌, ◌↔◌, ℕ, suc, ◌==◌, Bool, true, false, not, ◌&&◌, List, [], ◌∷◌, filter, length, map, if◌then◌else◌}
use Rattle.std.specs.List.{Contains, list_any}
use Rattle.std.proofs.Common.{refl, sym, ap, subst, ◌∙◌, inl, inr, arith, cond, true≢false}
use Rattle.std.proofs.lemmas.Bool.{and_from, and_parts, cases_Bool, false≢true, not-true, or_left, or_right, not-false}
use Rattle.std.proofs.lemmas.List.Kept.{IsStrictlySortedBy-filter}
use Rattle.std.proofs.lemmas.List.Elements.{Contains-append_left, Contains-append_right}
use Rattle.ecs_id.specs.Id.{Id, pair, id_cmp, id_cmp_same, id_cmp_total, last_index}
use Rattle.ecs_model.specs.steps.Outcomes.{Changed}
use Rattle.ecs_model.specs.Links.{AreLinks, ancestor_line, target_under, upward}
use Rattle.ecs_model.specs.Reach.{HasChain, Reached, itself, onward}
use Rattle.ecs_model.specs.World.{WorldState, Key, entities, holds, ids_of, key_cmp, key_eq}
use Rattle.ecs_model.specs.rows.View.{View, view_of}
use Rattle.ecs_model.specs.stored.Watches.{matching}
use Rattle.ecs_model.specs.steps.WellFormed.{IsWellFormed}
use Rattle.ecs_model.proofs.Members.{any_passes, eq_itself, eq_same, filtered, from_filter_map, from_or}
use Rattle.ecs_model.proofs.ReachSteps.{chain_reached}
use Rattle.ecs_model.proofs.steps.AddedSets.{in_map}
use Rattle.ecs_model.proofs.steps.Facts.{held_listed, listed_held}
use Rattle.ecs_model.proofs.steps.LivingIds.{are_links, refuted}
use Rattle.ecs_model.proofs.LivePairs.{of_pair}
use Rattle.id_pattern.specs.Patterns.{matches}
use Rattle.query_model.specs.Query.{Query}
use Rattle.query_meaning.specs.Sound.{IsSound}
use Rattle.watch_concerns.specs.Anchored.{is_anchored}
use Rattle.watch_concerns.specs.Concerns.{concerns}
use Rattle.watch_concerns.specs.Others.{concerns_below, concerns_others}
use Rattle.watch_concerns.specs.OwnIds.{lacks}
use Rattle.watch_concerns.specs.Tied.{is_tied}
use Rattle.watch_concerns.proofs.Ancestors.{line_chain}
use Rattle.watch_concerns.proofs.LackedIds.{lacking_match_nothing, lacks_alike}
use Rattle.watch_concerns.proofs.OwnFacts.{match_by_own_facts}
use Rattle.watch_concerns.proofs.TiedQueries.{match_by_ties}
use Rattle.watch_concerns.specs.Since.{IsAfter}
use Rattle.watch_touched.specs.Before.{view_before}
use Rattle.watch_touched.specs.Laws.{OthersThanMovingStay}
use Rattle.watch_touched.specs.Leaning.{concerns_beyond, leaning, leans, moves_by, pairs_to, target_of}
use Rattle.watch_touched.specs.Moving.{AreMoving, any_concerns_others, are_holders, entities_by, entities_of, ids_around, may_be_this}
use Rattle.watch_touched.proofs.CoveredConcerns.{below_concern, others_concern}
use Rattle.watch_touched.proofs.IdsBefore.{is_among, same_held}
use Rattle.watch_touched.proofs.RisingIds.{ids_rise, keys_rise, one_list}
use Rattle.watch_touched.proofs.UnconcernedCommands.{queries_matched_before}
use Rattle.watch_touched.proofs.WorldBefore.{has_gone, is_new}

-- ---- two tests

-- what passes two tests, one after the other, passes both
pub filter_twice : (p r : Id → Bool) (is : List Id) → filter p (filter r is) ≡ filter (λ i. r i && p i) is
filter_twice p r [] = refl
filter_twice p r (i ∷ is) = by (filter_twice p r is) (r i)
  where
    by : filter p (filter r is) ≡ filter (λ i. r i && p i) is → (b : Bool) → filter p (cond b (i ∷ filter r is) (filter r is)) ≡ cond (b && p i) (i ∷ filter (λ i. r i && p i) is) (filter (λ i. r i && p i) is)
    by rest true = ap (λ is. cond (p i) (i ∷ is) is) rest
    by rest false = rest

wider_and : (a b : Bool) → (b ≡ true → a ≡ true) → (a && b) ≡ b
wider_and true b h = refl
wider_and false true h = absurd (false≢true (h refl))
wider_and false false h = refl

-- so a wider test before changes nothing
pub filter_within : (p r : Id → Bool) → ((i : Id) → p i ≡ true → r i ≡ true) → (is : List Id) → filter p is ≡ filter p (filter r is)
filter_within p r wider is = sym (filter_twice p r is ∙ (λ j. filter (λ i. wider_and (r i) (p i) (wider i) j) is))

-- ---- facts

-- whoever isn't listed by a test has no fact among these whose id passes it
unlisted : (p : Key → Bool) (ks : List Key) (x : ℕ) → (Contains (map (λ k. k.0) (filter p ks)) x → ⊥) → (i : Id) → p (x, i) ≡ true → list_any (key_eq (x, i)) ks ≡ false
unlisted p ks x none i h =
    refuted (list_any (key_eq (x, i)) ks)
    (λ t. none (in_map (λ (k : Key). k.0) (filter p ks) (x, i) ((filtered p ks (x, i)).1 (is_among ks (x, i) t, h))))

-- whoever holds something that hasn't gone holds it still
pub lasting : (now before : Bool) → before ≡ true → (not now && before) ≡ false → now ≡ true
lasting true before h l = refl
lasting false before h l = absurd (true≢false (sym h ∙ l))

-- the target of a pair that passes
pub its_target : (p : Id → Bool) (r x : ℕ) → p (pair r x) ≡ true → Contains (target_of p (pair r x)) x
its_target p r x h = subst (λ b. Contains (if b then x ∷ [] else []) x) (sym h) (0, omega arith, refl)

-- where none of these facts concerns a query for others, no fact whose id does is among them
others_not_among : (q : Query) (ks : List Key) → any_concerns_others q ks ≡ false → (e : ℕ) (i : Id) → concerns_others q i ≡ true → list_any (key_eq (e, i)) ks ≡ false
others_not_among q ks none e i h = refuted (list_any (key_eq (e, i)) ks) (λ t. true≢false (sym (any_passes (λ x. concerns_others q x.1) ks (e, i) (is_among ks (e, i) t) h) ∙ none))

module _ (v : WorldState) (changed : Changed) (kept_now : IsWellFormed v) (after : IsAfter v changed) where
  -- where no fact came or went of the entity's ids that pass a test, it holds the same of these
  pub passing_stay : (p : Id → Bool) (e : ℕ) → ((i : Id) → p i ≡ true → list_any (key_eq (e, i)) changed.came ≡ false) → ((i : Id) → p i ≡ true → list_any (key_eq (e, i)) changed.went ≡ false)
      → filter p (ids_of after.before e) ≡ filter p (ids_of v e)
  passing_stay p e none_came none_went =
      let w = after.before in
      let same : (i : Id) → p i ≡ true → holds w e i ≡ holds v e i = λ i h. same_held w v after.command changed after.kept after.stepped e (holds w e i) (holds v e i)
      (sym (is_new w v after.command changed after.kept after.stepped (e, i)) ∙ none_came i h)
      (sym (has_gone w v after.command changed after.kept after.stepped (e, i)) ∙ none_went i h) in
      one_list id_cmp id_cmp_total id_cmp_same (filter p (ids_of w e)) (filter p (ids_of v e))
      (IsStrictlySortedBy-filter id_cmp p (ids_of w e) (ids_rise e _ (keys_rise key_cmp w.facts ((after.kept).in_order).facts)))
      (IsStrictlySortedBy-filter id_cmp p (ids_of v e) (ids_rise e _ (keys_rise key_cmp v.facts (kept_now.in_order).facts)))
      (λ i. (
        λ h. let f = (filtered p (ids_of w e) i).0 h in (filtered p (ids_of v e) i).1 (held_listed v e i (sym (same i f.1) ∙ listed_held w e i f.0), f.1),
        λ h. let f = (filtered p (ids_of v e) i).0 h in (filtered p (ids_of w e) i).1 (held_listed w e i (same i f.1 ∙ listed_held v e i f.0), f.1),
      ))

  -- who isn't listed by a test holds the same before and after of ids that pass it and another one
  pub unlisted_stay : (r p : Id → Bool) (x : ℕ) → (Contains (entities_of p changed) x → ⊥) → filter p (filter r (ids_of after.before x)) ≡ filter p (filter r (ids_of v x))
  unlisted_stay r p x none =
      let came = entities_by p changed.came in
      let went = entities_by p changed.went in
      filter_twice p r (ids_of after.before x)
      ∙ passing_stay (λ i. r i && p i) x
      (λ i h. unlisted (λ k. p k.1) changed.came x (λ m. none (Contains-append_left came went x m)) i (and_parts _ _ h).1)
      (λ i h. unlisted (λ k. p k.1) changed.went x (λ m. none (Contains-append_right came went x m)) i (and_parts _ _ h).1)
      ∙ sym (filter_twice p r (ids_of v x))

  -- what an entity held before it holds now, or a fact of that has gone
  pub around_before : (x : ℕ) (i : Id) → Contains (ids_of after.before x) i → Contains (ids_around v changed.went x) i
  around_before x i h = elim (cases_Bool (list_any (key_eq (x, i)) changed.went)) [
    | inl gone ↦ Contains-append_right (ids_of v x) (map (λ (k : Key). k.1) changed.went) i (in_map (λ (k : Key). k.1) changed.went (x, i) (is_among changed.went (x, i) gone))
    | inr lasts ↦
        let was = listed_held after.before x i h in
        let gone = has_gone after.before v after.command changed after.kept after.stepped (x, i) in
        Contains-append_left (ids_of v x) (map (λ (k : Key). k.1) changed.went) i (held_listed v x i (lasting (holds v x i) (holds after.before x i) was (sym gone ∙ lasts)))
  ]

  module _ (q : Query) (e : ℕ) (fit : may_be_this q v e ≡ true) where
    -- ---- what matters for the entity: of its own ids those that concern the query, of others' ids those that do so for somebody else

    abbrev pub matters : ℕ → Id → Bool
    matters x i = if x == e then concerns q i else concerns_beyond q i

    matters_covers : (p : Id → Bool) → ((i : Id) → p i ≡ true → concerns q i ≡ true) → ((i : Id) → p i ≡ true → concerns_beyond q i ≡ true) → (x : ℕ) (i : Id) → p i ≡ true → matters x i ≡ true
    matters_covers p own beyond x i h = by (x == e)
      where
        by : (b : Bool) → (if b then concerns q i else concerns_beyond q i) ≡ true
        by true = own i h
        by false = beyond i h

    pub matters_itself : (i : Id) → matters e i ≡ concerns q i
    matters_itself i = ap (λ b. if b then concerns q i else concerns_beyond q i) (eq_itself e)

    pub below_matters : (x : ℕ) (i : Id) → concerns_below q i ≡ true → matters x i ≡ true
    below_matters = matters_covers (concerns_below q) (below_concern q) (λ i h. or_left (concerns_below q i) (concerns_others q i) h)

    pub others_matter : (x : ℕ) (i : Id) → concerns_others q i ≡ true → matters x i ≡ true
    others_matter = matters_covers (concerns_others q) (others_concern q) (λ i h. or_right (concerns_below q i) (concerns_others q i) h)

    -- what is seen of a world but for the rest
    abbrev pub seen : WorldState → View
    seen w = record {
      entities = entities w;
      ids = λ x. filter (matters x) (ids_of w x);
      value = (view_of w).value;
    }

    pub seen_links : (w : WorldState) → IsWellFormed w → AreLinks (suc last_index) (entities w) (λ x. filter (matters x) (ids_of w x))
    seen_links w kept = record {
      indexes = (are_links w kept).indexes;
      below = (are_links w kept).below;
      held = λ x i h. (are_links w kept).held x i ((filtered (matters x) (ids_of w x) i).0 h).0;
      live = λ x i h. (are_links w kept).live x i ((filtered (matters x) (ids_of w x) i).0 h).0;
    }

    -- ---- whoever is above the entity

    -- who holds a pair that matters leans on its target
    pub holder_leans : (p : List Id → Id → Bool) (y r x : ℕ) → Contains (ids_of v y) (pair r x) → p (ids_of v y) (pair r x) ≡ true → Contains (leaning p v x) y
    holder_leans p y r x held passes =
        (filtered (leans p v x) (entities v) y).1
        ((are_links v kept_now).held y (pair r x) held, any_passes (λ i. matches (pairs_to x) i && p (ids_of v y) i) (ids_of v y) (pair r x) held (and_from _ _ (eq_itself x) passes))

    abbrev pub up : ℕ → ℕ → List ℕ
    up r = upward (λ x. filter (matters x) (ids_of v x)) r

    -- the entity by a pair that concerns the query, another one by one that does so for somebody else
    itself_leans : (r x : ℕ) → Contains (up r e) x → Contains (leaning (moves_by q) v x) e
    itself_leans r x h =
        let found = from_filter_map (target_under r) (filter (matters e) (ids_of v e)) x h in
        let f = (filtered (matters e) (ids_of v e) (pair r x)).0 (subst (Contains (filter (matters e) (ids_of v e))) (of_pair r x found.0 found.2) found.1) in
        holder_leans (moves_by q) e r x f.0 (and_from _ _ (sym (matters_itself (pair r x)) ∙ f.1) fit)

    other_leans : (r y x : ℕ) → (y == e) ≡ false → Contains (up r y) x → Contains (leaning (λ ids. concerns_beyond q) v x) y
    other_leans r y x other h =
        let found = from_filter_map (target_under r) (filter (matters y) (ids_of v y)) x h in
        let f = (filtered (matters y) (ids_of v y) (pair r x)).0 (subst (Contains (filter (matters y) (ids_of v y))) (of_pair r x found.0 found.2) found.1) in
        holder_leans (λ ids. concerns_beyond q) y r x f.0 (sym (λ j. if other j then concerns q (pair r x) else concerns_beyond q (pair r x)) ∙ f.1)

    -- so it leans on whoever is above it, or on somebody below that
    pub leans_below : (r x : ℕ) → HasChain (up r) e x → (y : ℕ) × Reached (leaning (λ ids. concerns_beyond q) v) x y × Contains (leaning (moves_by q) v y) e
    leans_below r x chain = by chain.2
      where
        by : {z : ℕ} → Reached (up r) chain.0 z → (y : ℕ) × Reached (leaning (λ ids. concerns_beyond q) v) z y × Contains (leaning (moves_by q) v y) e
        by itself = (chain.0, itself, itself_leans r chain.0 chain.1)
        by (onward {y} {z} reached h) = elim (cases_Bool (y == e)) [
          | inl same ↦ (z, itself, itself_leans r z (subst (λ y. Contains (up r y) z) (eq_same y e same) h))
          | inr other ↦
              let rest = by reached in
              (rest.0, chain_reached (leaning (λ ids. concerns_beyond q) v) z rest.0 (y, other_leans r y z other h, rest.1), rest.2)
        ]

    module _ (sound : IsSound q) (anchored : is_anchored q ≡ true) (holders : are_holders q changed ≡ true) (es : List ℕ) (all : AreMoving q v changed es) (apart : Contains es e → ⊥) where
      -- ---- two views

      -- the entity holds the same of what concerns the query; whoever is above it, of what does so for those below; and with whom it holds a pair, of what does so for others,
      -- as all do where no such fact came or went
      record AreAlike (w u : View) : Type 0 where
        own : filter (concerns q) (w.ids e) ≡ filter (concerns q) (u.ids e)
        above : (r x : ℕ) → Contains (ancestor_line u.ids u.entities r e) x → filter (concerns_below q) (w.ids x) ≡ filter (concerns_below q) (u.ids x)
        held : is_tied q ≡ true → (r x : ℕ) → Contains (u.ids e) (pair r x) → concerns q (pair r x) ≡ true → filter (concerns_others q) (w.ids x) ≡ filter (concerns_others q) (u.ids x)
        others : any_concerns_others q changed.came ≡ false → any_concerns_others q changed.went ≡ false → (x : ℕ) → filter (concerns_others q) (w.ids x) ≡ filter (concerns_others q) (u.ids x)

      match_alike : (w u : View) → AreLinks (suc last_index) w.entities w.ids → AreLinks (suc last_index) u.entities u.ids → AreAlike w u → Contains (matching w q) e ↔ Contains (matching u q) e
      match_alike w u links links' same = elim (from_or (is_tied q) (not (any_concerns_others q changed.came) && not (any_concerns_others q changed.went)) holders) [
        | inl tied ↦ match_by_ties (suc last_index) (suc last_index) w u q links links' sound anchored tied e same.own same.above (same.held tied)
        | inr none ↦
            let both = and_parts _ _ none in
            match_by_own_facts (suc last_index) (suc last_index) w u q links links' sound anchored
            (same.others (not-true (any_concerns_others q changed.came) both.0) (not-true (any_concerns_others q changed.went) both.1)) e same.own same.above
      ]

      -- what doesn't matter makes no difference
      match_seen : (w : WorldState) → IsWellFormed w → Contains (matching (view_of w) q) e ↔ Contains (matching (seen w) q) e
      match_seen w kept = match_alike (view_of w) (seen w) (are_links w kept) (seen_links w kept) (record {
        own = filter_within (concerns q) (matters e) (λ i h. matters_itself i ∙ h) (ids_of w e);
        above = λ r x there. filter_within (concerns_below q) (matters x) (below_matters x) (ids_of w x);
        held = λ tied r x there concerned. filter_within (concerns_others q) (matters x) (others_matter x) (ids_of w x);
        others = λ came went x. filter_within (concerns_others q) (matters x) (others_matter x) (ids_of w x);
      })

      -- ---- before and after

      -- where what came and went concerns no others, all hold the same of what does
      all_others_stay : any_concerns_others q changed.came ≡ false → any_concerns_others q changed.went ≡ false
          → (x : ℕ) → filter (concerns_others q) (filter (matters x) (ids_of after.before x)) ≡ filter (concerns_others q) (filter (matters x) (ids_of v x))
      all_others_stay came went x =
          filter_twice (concerns_others q) (matters x) (ids_of after.before x)
          ∙ passing_stay (λ i. matters x i && concerns_others q i) x
          (λ i h. others_not_among q changed.came came x i (and_parts _ _ h).1)
          (λ i h. others_not_among q changed.went went x i (and_parts _ _ h).1)
          ∙ sym (filter_twice (concerns_others q) (matters x) (ids_of v x))

      own_stay : filter (concerns q) (filter (matters e) (ids_of after.before e)) ≡ filter (concerns q) (filter (matters e) (ids_of v e))
      own_stay = unlisted_stay (matters e) (concerns q) e (λ h. apart (all.own e h))

      seen_alike : AreAlike (seen after.before) (seen v)
      seen_alike = record {
        own = own_stay;
        above = λ r x there. unlisted_stay (matters x) (concerns_below q) x
            (λ h.
            let low = leans_below r x (line_chain (up r) (length (entities v)) e x there) in
            apart (all.held low.0 e ((all.are_targets).below x low.0 h low.1) low.2));
        held = λ tied r x there concerned. unlisted_stay (matters x) (concerns_others q) x
            (λ h.
            let f = (filtered (matters e) (ids_of v e) (pair r x)).0 there in
            apart (all.held x e ((all.are_targets).others x h) (holder_leans (moves_by q) e r x f.0 (and_from _ _ concerned fit))));
        others = all_others_stay;
      }

      fit_stays : Contains (matching (view_before v changed) q) e ↔ Contains (matching (view_of v) q) e
      fit_stays =
          let first = match_seen after.before after.kept in
          let middle = match_alike (seen after.before) (seen v) (seen_links after.before after.kept) (seen_links v kept_now) seen_alike in
          let last = match_seen v kept_now in
          let were = queries_matched_before after.before v after.command changed q after.kept after.stepped in (
            λ h. last.1 (middle.0 (first.0 (subst (λ es. Contains es e) were h))),
            λ h. subst (λ es. Contains es e) (sym were) (first.1 (middle.1 (last.0 h))),
          )

  -- who lacks what is asked of `$this` now, and has gained and lost nothing that concerns the query, lacked it before
  pub lacking_stays : (q : Query) (e : ℕ) → (Contains (entities_of (concerns q) changed) e → ⊥) → may_be_this q v e ≡ false → Contains (matching (view_before v changed) q) e ↔ Contains (matching (view_of v) q) e
  lacking_stays q e none lack =
      let w = after.before in
      let p = concerns q in
      let same : filter p (ids_of w e) ≡ filter p (ids_of v e) = passing_stay p e
      (λ i h. unlisted (λ k. p k.1) changed.came e (λ m. none (Contains-append_left (entities_by p changed.came) (entities_by p changed.went) e m)) i h)
      (λ i h. unlisted (λ k. p k.1) changed.went e (λ m. none (Contains-append_right (entities_by p changed.came) (entities_by p changed.went) e m)) i h) in
      let now : lacks q (ids_of v e) ≡ true = not-false (lacks q (ids_of v e)) lack in
      let before : lacks q (ids_of w e) ≡ true = lacks_alike q (ids_of w e) (ids_of v e) same ∙ now in
      let were = queries_matched_before w v after.command changed q after.kept after.stepped in (
        λ h. absurd (lacking_match_nothing (view_of w) q e before (subst (λ es. Contains es e) were h)),
        λ h. absurd (lacking_match_nothing (view_of v) q e now h),
      )

  pub stay_put : (q : Query) → IsSound q → is_anchored q ≡ true → are_holders q changed ≡ true → (es : List ℕ) → AreMoving q v changed es → (e : ℕ) → (Contains es e → ⊥)
      → Contains (matching (view_before v changed) q) e ↔ Contains (matching (view_of v) q) e
  stay_put q sound anchored holders es all e apart = elim (cases_Bool (may_be_this q v e)) [
    | inl fit ↦ fit_stays q e fit sound anchored holders es all apart
    | inr lack ↦ lacking_stays q e (λ h. apart (all.own e h)) lack
  ]

pub others_than_moving_stay : OthersThanMovingStay
others_than_moving_stay v changed q kept_now after sound anchored holders es all e apart = stay_put v changed kept_now after q sound anchored holders es all e apart
