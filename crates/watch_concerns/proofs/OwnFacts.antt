-- What others hold of ids that concern a query for their holders alone matters for no entity that holds the same itself.
use Rattle.std.proofs.Common.{◌≡◌, ℕ, Bool, true, false, inl, inr, List, [], ◌∷◌, length, refl, sym, ap, ◌∙◌, subst}
use Rattle.std.specs.Prelude.{◌&&◌, ◌||◌, filter, is_some, map, not, take, Option, Some, None, if◌then◌else◌}
use Rattle.std.specs.List.{Contains, list_any, list_all}
use Rattle.std.specs.Option.{option_map_or}
use Rattle.std.proofs.lemmas.Bool.{and_from, and_parts, cases_Bool, eq-eqb, or_left}
use Rattle.std.proofs.lemmas.List.Folds.{list_any-append}
use Rattle.ecs_id.specs.Id.{Id, plain, pair, id_eq, id_eq_same}
use Rattle.ecs_model.specs.BuiltIns.{transitive, reflexive}
use Rattle.ecs_model.specs.Links.{AreLinks, ancestor_line, is_held, target_under, upward}
use Rattle.ecs_model.specs.Reach.{HasChain, Reached, itself, onward}
use Rattle.ecs_model.proofs.LivePairs.{upward_lives}
use Rattle.ecs_model.specs.rows.Level.{Level, done, also, unless, top}
use Rattle.ecs_model.specs.rows.Rows.{Assignment, asked, assignments, candidates, fields_of_item, fields_of_term, hits, is_passed_over, keeps_first_hit, level_mentions, matches, passes_over, rows, shown, shown_fields, solutions, visible}
use Rattle.ecs_model.specs.rows.View.{View}
use Rattle.ecs_model.specs.stored.Watches.{is_this, matching}
use Rattle.ecs_model.specs.steps.Rules.{prefab, disabled}
use Rattle.ecs_model.proofs.Members.{alike, any_passes, filtered, passing}
use Rattle.query_model.specs.declared.query.Term.{Term}
use Rattle.query_model.specs.Query.{Item, Query}
use Rattle.query_check.specs.Terms.{terms}
use Rattle.query_meaning.specs.Sound.{is_sound}
use Rattle.query_meaning.specs.Variables.{contains}
use Rattle.query_meaning.proofs.Assignments.{assignments-from_Extends, at}
use Rattle.query_meaning.proofs.LevelHolding.{Holds, Holds-solutions}
use Rattle.query_meaning.proofs.Lists.{place_of}
use Rattle.watch_concerns.specs.Anchored.{anchors, groups_are_anchored, is_anchored}
use Rattle.watch_concerns.specs.Concerns.{concerns, leads_up, term_concerns}
use Rattle.watch_concerns.specs.Laws.{MatchByOwnFacts}
use Rattle.watch_concerns.specs.Others.{asks_this_stored, concerns_below, concerns_others, says_how_far, term_concerns_others}
use Rattle.query_meaning.proofs.Choices.{any-map, has-some, some, some-first, some-map}
use Rattle.watch_concerns.proofs.Ancestors.{agree_linked, chain_line, line_chain}
use Rattle.watch_concerns.proofs.CoveredTerms.{OfEach, asked_by_all, by_term, by_term_below, by_term_of_others, top_so}
use Rattle.watch_concerns.proofs.LevelAgreement.{at_each, by_match, by_rise, item_alike, matches_may, shown_same}
use Rattle.watch_concerns.proofs.MatchingRows.{is_first_of}
use Rattle.watch_concerns.proofs.ReachAgreement.{Agree, HasPairs, no_target}
use Rattle.watch_concerns.proofs.ThisAssignments.{KeepsThis, asked_of_this, sound_keeps_this, this_of}
use Rattle.watch_concerns.proofs.AnchoredRows.{any_row, first_lives, lives_too}
use Rattle.watch_concerns.proofs.WiderTests.{any_same, filter_same, maps_same}

-- ---- chains, where the same comes next from their start and from all after it

module _ (next next' : ℕ → List ℕ) (e : ℕ) (here : next e ≡ next' e) (above : (x : ℕ) → HasChain next' e x → next x ≡ next' x) where
  reached_too : (c : ℕ) → Contains (next' e) c → {y : ℕ} → Reached next c y → Reached next' c y
  reached_too c first itself = itself
  reached_too c first (onward {y} {z} r h) = let s = reached_too c first r in onward s (subst (λ l. Contains l z) (above y (c, first, s)) h)

  reached_back : (c : ℕ) → Contains (next' e) c → {y : ℕ} → Reached next' c y → Reached next c y
  reached_back c first itself = itself
  reached_back c first (onward {y} {z} r h) = onward (reached_back c first r) (subst (λ l. Contains l z) (sym (above y (c, first, r))) h)

  chain_too : (y : ℕ) → HasChain next e y → HasChain next' e y
  chain_too y k = let first = subst (λ l. Contains l k.0) here k.1 in (k.0, first, reached_too k.0 first k.2)

  chain_back : (y : ℕ) → HasChain next' e y → HasChain next e y
  chain_back y k = (k.0, subst (λ l. Contains l k.0) (sym here) k.1, reached_back k.0 k.1 k.2)

-- ---- a term

module _ (w v : View) (a : Assignment) (t : Term) where
  -- what it matches of an entity's ids
  pub hits_alike : (wide : Id → Bool) (x : ℕ) → ((i : Id) → term_concerns i t ≡ true → wide i ≡ true) → filter wide (w.ids x) ≡ filter wide (v.ids x) → hits w a t x ≡ hits v a t x
  unfolding hits
  hits_alike wide x h same =
      let all = filter_same wide (w.ids x) (v.ids x) same (matches a t.component t.target) (λ i k. h i (by_match i t (matches_may a t.component t.target i k))) in
      λ k. if keeps_first_hit t then take 1 (all k) else all k

module _ (q : Query) {m n : ℕ} (w v : View) (links : AreLinks m w.entities w.ids) (links' : AreLinks n v.entities v.ids) (e : ℕ)
    (own : filter (concerns q) (w.ids e) ≡ filter (concerns q) (v.ids e))
    (above : (r x : ℕ) → Contains (ancestor_line v.ids v.entities r e) x → filter (concerns_below q) (w.ids x) ≡ filter (concerns_below q) (v.ids x)) where
  module _ (a : Assignment) (this : at a 0 ≡ Some e) (t : Term) (among : Contains (terms q) t) (asks : asks_this_stored t ≡ true) where
    -- whether an entity has a hit
    abbrev has : View → ℕ → Bool
    has u x = some (at_each x (hits u a t x))

    module _ (r : ℕ) (up : t.up ≡ Some r) where
      pairs : (wide : Id → Bool) → ((i : Id) → term_concerns i t ≡ true → wide i ≡ true) → HasPairs wide r
      pairs wide h u =
          let leads : leads_up t.up (pair r u) ≡ true = ap (λ o. leads_up o (pair r u)) up ∙ eq-eqb r r refl in
          h (pair r u) (by_rise (pair r u) t leads)

      covered_below : (i : Id) → term_concerns i t ≡ true → concerns_below q i ≡ true
      covered_below i h = by_term_below q t among i (and_from _ _ (and_from _ _ asks (ap is_some up)) h)

      next_alike : (wide : Id → Bool) (x : ℕ) → ((i : Id) → term_concerns i t ≡ true → wide i ≡ true) → filter wide (w.ids x) ≡ filter wide (v.ids x) → upward w.ids r x ≡ upward v.ids r x
      next_alike wide x h same = maps_same wide (w.ids x) (v.ids x) same (target_under r) (no_target wide r (pairs wide h))

      in_line : (x : ℕ) → HasChain (upward v.ids r) e x → Contains (ancestor_line v.ids v.entities r e) x
      in_line x k = chain_line (upward v.ids r) v.entities (upward_lives links' r) e x k

      here : upward w.ids r e ≡ upward v.ids r e
      here = next_alike (concerns q) e (by_term q t among) own

      on_line : (x : ℕ) → HasChain (upward v.ids r) e x → upward w.ids r x ≡ upward v.ids r x
      on_line x k = next_alike (concerns_below q) x covered_below (above r x (in_line x k))

      line_alike : list_any (has w) (ancestor_line w.ids w.entities r e) ≡ list_any (has v) (ancestor_line v.ids v.entities r e)
      line_alike =
          alike (list_any (has w) (ancestor_line w.ids w.entities r e)) (list_any (has v) (ancestor_line v.ids v.entities r e))
          (λ h.
          let x = passing (has w) (ancestor_line w.ids w.entities r e) h in
          let there = in_line x.0 (chain_too (upward w.ids r) (upward v.ids r) e here on_line x.0 (line_chain (upward w.ids r) (length w.entities) e x.0 x.1)) in
          any_passes (has v) (ancestor_line v.ids v.entities r e) x.0 there (sym (has_alike x.0 there) ∙ x.2))
          (λ h.
          let x = passing (has v) (ancestor_line v.ids v.entities r e) h in
          let back = chain_back (upward w.ids r) (upward v.ids r) e here on_line x.0 (line_chain (upward v.ids r) (length v.entities) e x.0 x.1) in
          any_passes (has w) (ancestor_line w.ids w.entities r e) x.0 (chain_line (upward w.ids r) w.entities (upward_lives links r) e x.0 back) (has_alike x.0 x.1 ∙ x.2))
        where
          has_alike : (x : ℕ) → Contains (ancestor_line v.ids v.entities r e) x → has w x ≡ has v x
          has_alike x i = ap (λ is. some (at_each x is)) (hits_alike w v a t (concerns_below q) x covered_below (above r x i))

    lines_alike : (o : Option ℕ) → t.up ≡ o → list_any (has w) (option_map_or (λ r. ancestor_line w.ids w.entities r e) o []) ≡ list_any (has v) (option_map_or (λ r. ancestor_line v.ids v.entities r e) o [])
    lines_alike None up = refl
    lines_alike (Some r) up = line_alike r up

    source_alike : (b : Bool) → list_any (has w) (if b then e ∷ [] else []) ≡ list_any (has v) (if b then e ∷ [] else [])
    source_alike true = ap (λ is. some (at_each e is) || false) (hits_alike w v a t (concerns q) e (by_term q t among) own)
    source_alike false = refl

    found : (u : View) → some (shown_fields u a t) ≡ (list_any (has u) (if t.on_source then e ∷ [] else []) || list_any (has u) (option_map_or (λ r. ancestor_line u.ids u.entities r e) t.up []))
    found u =
        some-map (λ f. shown u t f ∷ []) (fields_of_term u a t)
        ∙ ap some (asked_of_this u a e t this asks)
        ∙ some-first (map (λ m. at_each m (hits u a t m)) (asked u t e))
        ∙ any-map (λ m. at_each m (hits u a t m)) (asked u t e)
        ∙ list_any-append (has u) (if t.on_source then e ∷ [] else []) (option_map_or (λ r. ancestor_line u.ids u.entities r e) t.up [])

    pub this_alike : some (shown_fields w a t) ≡ some (shown_fields v a t)
    this_alike =
        let source = source_alike t.on_source in
        let risen = lines_alike t.up refl in
        found w ∙ (λ k. source k || risen k) ∙ sym (found v)

module _ (q : Query) {m n : ℕ} (w v : View) (links : AreLinks m w.entities w.ids) (links' : AreLinks n v.entities v.ids) (agree : Agree (concerns_others q) w v) (e : ℕ)
    (own : filter (concerns q) (w.ids e) ≡ filter (concerns q) (v.ids e))
    (above : (r x : ℕ) → Contains (ancestor_line v.ids v.entities r e) x → filter (concerns_below q) (w.ids x) ≡ filter (concerns_below q) (v.ids x)) where
  term_alike : (a : Assignment) → at a 0 ≡ Some e → (t : Term) → Contains (terms q) t → some (shown_fields w a t) ≡ some (shown_fields v a t)
  term_alike a this t among = elim (cases_Bool (asks_this_stored t)) [
    | inl asks ↦ this_alike q w v links links' e own above a this t among asks
    | inr other ↦ shown_same (concerns_others q) w v agree a t (λ i h. by_term_of_others q t among i (and_from _ _ (ap not other) h))
  ]

  -- ---- an item

  -- it holds in both views or in neither, where the first variable is the entity's
  abbrev IsAlike : Item → Type 0
  IsAlike x = (a : Assignment) → at a 0 ≡ Some e → some (fields_of_item w a x) ≡ some (fields_of_item v a x)

  top_alike : OfEach IsAlike (top q)
  top_alike = top_so q IsAlike (λ x among a this. item_alike w v a x (λ t c. term_alike a this t (among t c)))

  -- ---- a level, where facts are of the living alone

  level_alike : (l : Level) → OfEach IsAlike l → KeepsThis l → groups_are_anchored l ≡ true → (a : Assignment) → at a 0 ≡ Some e → (Holds w l a → Holds v l a) × (Holds v l a → Holds w l a)
  level_alike done alike keeps anchored a this = (λ x. tt, λ x. tt)
  level_alike (also x rest) alike keeps anchored a this =
      let same = has-some (fields_of_item w a x) ∙ alike.0 a this ∙ sym (has-some (fields_of_item v a x)) in
      let others = level_alike rest alike.1 keeps anchored a this in
      (λ y. (sym same ∙ y.0, others.0 y.1), λ y. (same ∙ y.0, others.1 y.1))
  level_alike (unless from_term own inner rest) alike keeps anchored a this =
      let parts = and_parts _ _ anchored in
      let both = and_parts _ _ parts.0 in
      let within = level_alike inner alike.0 keeps.1 both.1 in
      let others = level_alike rest alike.1 keeps.2 parts.1 a this in (
        λ y. (λ b ext holds. let here = (within b (ext.rest 0 keeps.0 ∙ this)).1 holds in y.0 b (lives_too v w links own inner both.0 a b ext here) here, others.0 y.1),
        λ y. (λ b ext holds. let there = (within b (ext.rest 0 keeps.0 ∙ this)).0 holds in y.0 b (lives_too w v links' own inner both.0 a b ext there) there, others.1 y.1),
      )

-- the entity is passed over in both views or in neither
module _ (q : Query) (w v : View) (e : ℕ) (own : filter (concerns q) (w.ids e) ≡ filter (concerns q) (v.ids e)) where
  pub passed_alike : (a : Assignment) → at a 0 ≡ Some e → passes_over w q a ≡ passes_over v q a
  passed_alike a this =
      let tagged : (tag : ℕ) → concerns q (plain tag) ≡ true → is_held (w.ids e) (plain tag) ≡ is_held (v.ids e) (plain tag)
      = λ tag h. any_same (concerns q) (w.ids e) (v.ids e) own (λ j. id_eq j (plain tag)) (λ j t. ap (concerns q) (id_eq_same j (plain tag) t) ∙ h) in
      let in_prefab = tagged prefab (asked_by_all q (plain prefab) refl) in
      let in_disabled = tagged disabled (asked_by_all q (plain disabled) refl) in
      (λ k. q.has_this && option_map_or (λ x. is_passed_over q (w.ids x)) (this k) false)
      ∙ (λ k. q.has_this && (in_prefab k && not (level_mentions prefab (top q)) || in_disabled k && not (level_mentions disabled (top q))))
      ∙ sym (λ k. q.has_this && option_map_or (λ x. is_passed_over q (v.ids x)) (this k) false)

asked_of_others : (q : Query) (i : Id) → says_how_far i ≡ true → concerns_others q i ≡ true
unfolding concerns_others
asked_of_others q i t = or_left (says_how_far i) (list_any (term_concerns_others i) (terms q)) t

-- ---- the entities of rows

-- who is `$this` of a row in one view is so in another where the query holds too and who isn't passed over
pub carried_over : {n : ℕ} (w v : View) (q : Query) (e : ℕ) → AreLinks n v.entities v.ids → list_all (λ u. anchors u (top q)) (visible q) ≡ true
    → ((a : Assignment) → at a 0 ≡ Some e → passes_over w q a ≡ passes_over v q a)
    → ((a : Assignment) → at a 0 ≡ Some e → contains (visible q) 0 ≡ true → Holds w (top q) a → Holds v (top q) a)
    → Contains (matching w q) e → Contains (matching v q) e
unfolding matching
carried_over w v q e links anchored passed over h =
    let found = this_of w q e h in
    let a : Assignment = found.0 in
    let is = found.1 in
    let there = over a is.this is.shown is.holds in
    let ext = lives_too w v links (visible q) (top q) anchored [] a is.extends there in
    let asked : Contains (candidates v q) a = (filtered (λ a. not (passes_over v q a)) (assignments (visible q) v.entities []) a).1
    (place_of _ a (assignments-from_Extends (visible q) v.entities [] a refl ext), sym (ap not (passed a is.this)) ∙ is.passed) in
    let solved = sym (has-some (solutions v (top q) a)) ∙ (Holds-solutions v (top q) a ext.in_order).1 there in
    (filtered (λ e. list_any (is_this e) (rows v q)) v.entities e).1 (
      place_of v.entities e (first_lives v.entities (visible q) e a ext is.first),
      any_row v q e ∙ any_passes (λ a. is_first_of e a && some (solutions v (top q) a)) (candidates v q) a asked (and_from _ _ is.first solved),
    )

pub match_by_own_facts : MatchByOwnFacts
unfolding is_anchored is_sound
match_by_own_facts m n w v q links links' sound anchored held e own above =
    let agree = agree_linked (concerns_others q) w v links links' held (asked_of_others q (plain transitive) refl) (asked_of_others q (plain reflexive) refl) in
    let both = and_parts _ _ anchored in
    let keeps = λ (shown : contains (visible q) 0 ≡ true). sound_keeps_this (visible q) (top q) shown (and_parts _ _ sound).0 in
    let passed = passed_alike q w v e own in
    let levels = λ (a : Assignment) (this : at a 0 ≡ Some e) (shown : contains (visible q) 0 ≡ true).
    level_alike q w v links links' agree e own above (top q) (top_alike q w v links links' agree e own above) (keeps shown) both.1 a this in (
      carried_over w v q e links' both.0 passed (λ a this shown. (levels a this shown).0),
      carried_over v w q e links both.0 (λ a this. sym (passed a this)) (λ a this shown. (levels a this shown).1),
    )
