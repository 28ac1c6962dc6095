-- Of a linked query, what others hold matters for an entity only where they may stand for a variable: to them pairs lead from the entity, from variable to variable.
use Rattle.std.proofs.Common.{◌≡◌, ℕ, zero, suc, ◌<◌, Bool, true, false, inl, inr, List, [], ◌∷◌, ◌++◌, refl, sym, ap, ◌∙◌, subst, arith}
use Rattle.std.specs.Prelude.{◌==◌, ◌&&◌, ◌||◌, filter, is_none, not, Some}
use Rattle.std.specs.List.{Contains, list_any, list_all}
use Rattle.std.specs.Option.{option_map_or}
use Rattle.std.proofs.lemmas.Bool.{and_from, and_parts, cases_Bool, eq-eqb, eqb-true, false≢true, not-true, or_cases, true≢false}
use Rattle.std.proofs.lemmas.Option.{same_Some}
use Rattle.ecs_id.specs.Id.{Id, pair}
use Rattle.ecs_model.specs.Links.{AreLinks, ancestor_line}
use Rattle.ecs_model.specs.rows.Level.{Level, done, also, unless, top}
use Rattle.ecs_model.specs.rows.Rows.{Assignment, fields_of_item, fields_of_term, meant, shown, shown_fields, visible}
use Rattle.ecs_model.specs.rows.View.{View}
use Rattle.ecs_model.proofs.Members.{any_passes}
use Rattle.ecs_model.proofs.steps.LivingIds.{refuted}
use Rattle.query_model.specs.declared.query.Term.{Term}
use Rattle.query_model.specs.Query.{Item, must, may, either, equal, differ, Query}
use Rattle.query_check.specs.Terms.{terms}
use Rattle.query_meaning.specs.Sound.{is_sound, is_sound_level}
use Rattle.query_meaning.specs.Variables.{contains, item_variables, pattern_variables, term_variables, variable_in}
use Rattle.query_meaning.proofs.Assignments.{Extends, at}
use Rattle.query_meaning.proofs.Choices.{has-some, none_of, some, some-map}
use Rattle.query_meaning.proofs.LevelHolding.{Holds, contains-cases, contains-left, contains-right}
use Rattle.watch_concerns.specs.Anchored.{anchors, is_anchored, is_variable, may_be_variable}
use Rattle.watch_concerns.specs.Bonds.{are_all_bound, each_must, groups_are_bound, has_directly}
use Rattle.watch_concerns.specs.Concerns.{concerns, may_match}
use Rattle.watch_concerns.specs.Idle.{asks_for, asks_itself, item_lacks_of}
use Rattle.watch_concerns.specs.Laws.{MatchByRoles}
use Rattle.watch_concerns.specs.Linked.{is_before, may_be_before, term_links}
use Rattle.watch_concerns.specs.Others.{concerns_below}
use Rattle.watch_concerns.specs.Roles.{LeadsOn, is_linked_by, is_linked_through, joins, lacks_in, leads_in, leads_out, may_stand}
use Rattle.watch_concerns.specs.Tied.{asks_near, term_asks}
use Rattle.watch_concerns.proofs.CoveredTerms.{AreAmong, OfEach, top_among}
use Rattle.watch_concerns.proofs.LevelAgreement.{matches_may, must_given}
use Rattle.watch_concerns.proofs.LinkedQueries.{IsHit, found_hit, one_before, pair_before}
use Rattle.watch_concerns.proofs.OwnFacts.{carried_over, passed_alike}
use Rattle.watch_concerns.proofs.ThisAssignments.{KeepsThis, sound_keeps_this}
use Rattle.watch_concerns.proofs.TiedQueries.{KnowsAll, item_near, scoped_term, the_variable, to_variable}
use Rattle.watch_concerns.proofs.AnchoredRows.{all_at, lives_too}

-- ---- in a view, whoever a variable stands for lacks nothing that is asked of it in its level, where that holds

module _ (all : ℕ → List Id) (z : View) (held : (x : ℕ) (i : Id) → Contains (z.ids x) i → Contains (all x) i) (a : Assignment) (u x : ℕ) (is : at a u ≡ Some x) where
  term_has : (t : Term) → asks_itself u t ≡ true → some (shown_fields z a t) ≡ true → list_any (may_match t.component t.target) (all x) ≡ true
  term_has t asks holds =
      let outer = and_parts _ _ asks in
      let middle = and_parts _ _ outer.0 in
      let inner = and_parts _ _ middle.0 in
      let found = found_hit z a t (none_of t.up middle.1) (not-true t.closed outer.1) (sym (some-map (λ f. shown z t f ∷ []) (fields_of_term z a t)) ∙ holds) in
      let holder : found.holder ≡ x = same_Some found.holder x (sym found.source ∙ ap (meant a) (the_variable u t.source inner.0) ∙ is) in
      any_passes (may_match t.component t.target) (all x) found.id (held x found.id (subst (λ y. Contains (z.ids y) found.id) holder found.held))
      (matches_may a t.component t.target found.id found.fits)

  item_has : (y : Item) → item_lacks_of (all x) u y ≡ true → some (fields_of_item z a y) ≡ true → ⊥
  unfolding fields_of_item
  item_has (must t) lack holds = let both = and_parts _ _ lack in true≢false (sym (term_has t both.0 holds) ∙ not-true _ both.1)
  item_has (may t) lack holds = false≢true lack
  item_has (either ts) lack holds = false≢true lack
  item_has (equal s r) lack holds = false≢true lack
  item_has (differ s r) lack holds = false≢true lack

  level_has : (l : Level) → has_directly (item_lacks_of (all x) u) l ≡ true → Holds z l a → ⊥
  level_has done lack holds = false≢true lack
  level_has (also y rest) lack holds = elim (or_cases _ _ lack) [
    | inl first ↦ item_has y first (sym (has-some (fields_of_item z a y)) ∙ holds.0)
    | inr later ↦ level_has rest later holds.1
  ]
  level_has (unless from_term us inner rest) lack holds = level_has rest lack holds.1

module _ (q : Query) (all : ℕ → List Id) where
  -- whoever a variable stands for may
  abbrev MayStand : Assignment → ℕ → Type 0
  MayStand a u = (x : ℕ) → at a u ≡ Some x → may_stand q (all x) u ≡ true

  abbrev AllMayStand : List ℕ → Assignment → Type 0
  AllMayStand scope a = (u : ℕ) → contains scope u ≡ true → MayStand a u

  -- so it is with each variable of a level that holds
  level_stands : (z : View) → ((x : ℕ) (i : Id) → Contains (z.ids x) i → Contains (all x) i) → (a : Assignment) → (us : List ℕ) (l : Level)
      → ((u x : ℕ) → are_all_bound (lacks_in (all x) u) q ≡ true → list_all (λ s. lacks_in (all x) u s l) us ≡ true) → Holds z l a → AllMayStand us a
  unfolding may_stand
  level_stands z held a us l lacking holds u mine x is =
      ap not (refuted (are_all_bound (lacks_in (all x) u) q) (λ h. never (all_at (λ s. lacks_in (all x) u s l) us u (lacking u x h) mine)))
    where
      never : lacks_in (all x) u u l ≡ true → ⊥
      never h = elim (or_cases _ _ h) [
        | inl other ↦ true≢false (sym (eq-eqb u u refl) ∙ not-true (u == u) other)
        | inr lack ↦ level_has all z held a u x is l lack holds
      ]

  -- those of a group besides
  stand_within : (scope us es : List ℕ) (a b : Assignment) → Extends us es a b → AllMayStand scope a → AllMayStand us b → AllMayStand (scope ++ us) b
  stand_within scope us es a b ext around within u c x is = elim (cases_Bool (contains us u)) [
    | inl mine ↦ within u mine x is
    | inr other ↦ elim (contains-cases scope us u c) [
      | inl outer ↦ around u outer x (sym (ext.rest u other) ∙ is)
      | inr mine ↦ absurd (true≢false (sym mine ∙ other))
    ]
  ]

  -- whoever may stand nowhere for a variable lacks something in the groups of a level where it belongs to them
  abbrev IsLackedIn : Level → Type 0
  IsLackedIn l = (u x : ℕ) → are_all_bound (lacks_in (all x) u) q ≡ true → groups_are_bound (lacks_in (all x) u) l ≡ true

module _ (q : Query) (by : ℕ → Term → Bool) (all : ℕ → List Id) (near : ℕ → ℕ → Bool) where
  -- whoever a variable stands for is near
  abbrev IsNear : Assignment → ℕ → Type 0
  IsNear a u = (x : ℕ) → at a u ≡ Some x → near u x ≡ true

  abbrev AreNear : List ℕ → Assignment → Type 0
  AreNear scope a = (u : ℕ) → contains scope u ≡ true → IsNear a u

  -- ---- in one view, a variable is linked with those before it

  module _ (z : View) (closed : LeadsOn by q all z near) (a : Assignment) (scope : List ℕ) (stand : AllMayStand q all scope a) (u x : ℕ) (mine : contains scope u ≡ true) (is : at a u ≡ Some x)
      (before : (s : ℕ) → s < u → contains scope s ≡ true → IsNear a s) where
    module _ (t : Term) (among : Contains (terms q) t) (scoped : list_all (contains scope) (term_variables t) ≡ true) (tie : (by u t && term_links u t) ≡ true)
        (holds : some (shown_fields z a t) ≡ true) where
      outer : ((is_none t.up && not t.closed) ≡ true) × ((is_variable u t.source && may_be_before u t.target || is_before u t.source && may_be_variable u t.target) ≡ true)
      outer = and_parts _ _ (and_parts _ _ tie).1

      found : IsHit z a t
      found =
          let inner = and_parts _ _ outer.0 in
          found_hit z a t (none_of t.up inner.0) (not-true t.closed inner.1) (sym (some-map (λ f. shown z t f ∷ []) (fields_of_term z a t)) ∙ holds)

      in_scope : (s : ℕ) → contains (term_variables t) s ≡ true → contains scope s ≡ true
      in_scope s h = all_at (contains scope) (term_variables t) s scoped h

      -- the term asks one of two variables for a pair with the other one
      joined : (s v : ℕ) → is_variable s t.source ≡ true → may_be_variable v t.target ≡ true → joins s v t ≡ true
      joined s v source target = and_from _ _ (and_from _ _ outer.0 source) target

      by_term : (p : Term → Bool) → p t ≡ true → list_any (λ t. by u t && p t && may_match t.component t.target found.id) (terms q) ≡ true
      by_term p passes =
          any_passes (λ t. by u t && p t && may_match t.component t.target found.id) (terms q) t among
          (and_from _ _ (and_from _ _ (and_parts _ _ tie).0 passes) (matches_may a t.component t.target found.id found.fits))

      to_target : (is_variable u t.source ≡ true) × (may_be_before u t.target ≡ true) → near u x ≡ true
      unfolding leads_in
      to_target both =
          let p = pair_before a u t.component t.target found.id both.1 found.fits in
          let s : ℕ = p.number in
          let holder : found.holder ≡ x = same_Some found.holder x (sym found.source ∙ ap (meant a) (the_variable u t.source both.0) ∙ is) in
          let c = in_scope s (contains-right (variable_in t.source) (pattern_variables t) s (contains-right (variable_in t.component) (option_map_or variable_in t.target []) s p.among)) in
          let held : Contains (z.ids x) (pair p.first p.second) = subst (λ y. Contains (z.ids y) (pair p.first p.second)) holder (subst (Contains (z.ids found.holder)) p.is found.held) in
          let leads : leads_in by q s u (pair p.first p.second) ≡ true = and_from _ _ p.is_below (subst (λ i. list_any (λ t. by u t && joins u s t && may_match t.component t.target i) (terms q) ≡ true) p.is (by_term (joins u s) (joined u s both.0 p.is_target))) in
          closed.holder s u p.first p.second x (before s p.below c p.second p.stands) (stand s c p.second p.stands) (stand u mine x is) held leads

      to_source : (is_before u t.source ≡ true) × (may_be_variable u t.target ≡ true) → near u x ≡ true
      unfolding leads_out
      to_source both =
          let b = one_before u t.source both.0 in
          let s : ℕ = b.number in
          let c = in_scope s (contains-left (variable_in t.source) (pattern_variables t) s b.among) in
          let stands : at a s ≡ Some found.holder = sym (ap (meant a) b.is) ∙ found.source in
          let r = to_variable a u x t.component t.target found.id both.1 is found.fits in
          let held : Contains (z.ids found.holder) (pair r.0 x) = subst (Contains (z.ids found.holder)) r.1 found.held in
          let source : is_variable s t.source ≡ true = ap (is_variable s) b.is ∙ eq-eqb s s refl in
          let leads : leads_out by q s u (pair r.0 x) ≡ true = and_from _ _ b.is_below (subst (λ i. list_any (λ t. by u t && joins s u t && may_match t.component t.target i) (terms q) ≡ true) r.1 (by_term (joins s u) (joined s u source both.1))) in
          closed.target s u r.0 found.holder x (before s b.below c found.holder stands) (stand s c found.holder stands) (stand u mine x is) held leads

      term_near : near u x ≡ true
      term_near = elim (or_cases _ _ outer.1) [ inl forth ↦ to_target (and_parts _ _ forth) | inr back ↦ to_source (and_parts _ _ back) ]

    item_links_near : (y : Item) → AreAmong (terms q) y → list_all (contains scope) (item_variables y) ≡ true → each_must (λ t. by u t && term_links u t) y ≡ true → some (fields_of_item z a y) ≡ true → near u x ≡ true
    item_links_near y among scoped tie holds =
        let t = must_given z a (λ t. by u t && term_links u t) y tie holds in
        term_near t.0 (among t.0 t.1) (scoped_term scope y scoped t.0 t.1) t.2 t.3

    level_links_near : (l : Level) → OfEach (AreAmong (terms q)) l → is_sound_level scope l ≡ true → has_directly (each_must (λ t. by u t && term_links u t)) l ≡ true → Holds z l a → near u x ≡ true
    level_links_near done among sound tie holds = absurd (false≢true tie)
    level_links_near (also y rest) among sound tie holds =
        let parts = and_parts _ _ sound in
        let checked = and_parts _ _ parts.0 in
        elim (or_cases _ _ tie) [
          | inl first ↦ item_links_near y among.0 checked.1 first (sym (has-some (fields_of_item z a y)) ∙ holds.0)
          | inr later ↦ level_links_near rest among.1 parts.1 later holds.1
        ]
    level_links_near (unless from_term us inner rest) among sound tie holds = level_links_near rest among.1 (and_parts _ _ sound).1 tie holds.1

  -- those of a group besides
  near_within : (scope us es : List ℕ) (a b : Assignment) → Extends us es a b → AreNear scope a → (u : ℕ) → contains us u ≡ false → contains (scope ++ us) u ≡ true → IsNear b u
  near_within scope us es a b ext around u other c x is = elim (contains-cases scope us u c) [
    | inl outer ↦ around u outer x (sym (ext.rest u other) ∙ is)
    | inr mine ↦ absurd (true≢false (sym mine ∙ other))
  ]

  -- ---- all variables in scope are near, where the level holds in one of the views and all others in scope are

  module _ (e : ℕ) (here : near 0 e ≡ true) where
    all_near : (z : View) → LeadsOn by q all z near → (a : Assignment) → at a 0 ≡ Some e → (scope us : List ℕ) → AllMayStand q all scope a → (l : Level) → OfEach (AreAmong (terms q)) l
        → is_sound_level scope l ≡ true → list_all (λ u. is_linked_through by u l) us ≡ true → Holds z l a → ((u : ℕ) → contains us u ≡ false → contains scope u ≡ true → IsNear a u) → AreNear scope a
    all_near z closed a this scope us stand l among sound tied holds others u c = up_to (suc u) u (omega arith) c
      where
        up_to : (n u : ℕ) → u < n → contains scope u ≡ true → IsNear a u
        up_to zero u low c x is = absurd (omega (arith, low))
        up_to (suc n) u low c x is = elim (cases_Bool (contains us u)) [
          | inl mine ↦ elim (or_cases _ _ (all_at (λ u. is_linked_through by u l) us u tied mine)) [
            | inl first ↦
                let none : u ≡ 0 = eqb-true u 0 first in
                let same : x ≡ e = same_Some x e (sym is ∙ ap (at a) none ∙ this) in
                (λ j. near (none j) (same j)) ∙ here
            | inr tie ↦ level_links_near z closed a scope stand u x c is (λ s below k. up_to n s (omega (arith, low, below)) k) l among sound tie holds
          ]
          | inr other ↦ others u other c x is
        ]

module _ (q : Query) {m n : ℕ} (w v : View) (links : AreLinks m w.entities w.ids) (links' : AreLinks n v.entities v.ids) (e : ℕ)
    (own : filter (concerns q) (w.ids e) ≡ filter (concerns q) (v.ids e))
    (above : (r x : ℕ) → Contains (ancestor_line v.ids v.entities r e) x → filter (concerns_below q) (w.ids x) ≡ filter (concerns_below q) (v.ids x))
    (by : ℕ → Term → Bool) (all : ℕ → List Id) (near : ℕ → ℕ → Bool) (here : near 0 e ≡ true)
    (known : (u x : ℕ) → (u == 0) ≡ false → near u x ≡ true → may_stand q (all x) u ≡ true → filter (asks_for (terms q) u) (w.ids x) ≡ filter (asks_for (terms q) u) (v.ids x)) where
  -- ---- whoever is near and may stand for a variable holds the same of what it is asked for

  known_near : (us : List ℕ) (a : Assignment) → AllMayStand q all us a → AreNear q by all near us a → KnowsAll q w v links links' e own above us a
  known_near us a stand nearby u mine needs x is = known u x (unlike (u == 0) needs) (nearby u mine x is) (stand u mine x is)
    where
      unlike : (b : Bool) → (b || not (list_any (term_asks u) (terms q))) ≡ false → b ≡ false
      unlike true h = h
      unlike false h = refl

  -- ---- a level

  module _ (asking : list_all asks_near (terms q) ≡ true) (held : (x : ℕ) (i : Id) → Contains (w.ids x) i → Contains (all x) i) (held' : (x : ℕ) (i : Id) → Contains (v.ids x) i → Contains (all x) i)
      (back : LeadsOn by q all w near) (there : LeadsOn by q all v near) where
    level_alike : (scope : List ℕ) (l : Level) → OfEach (AreAmong (terms q)) l → is_sound_level scope l ≡ true → KeepsThis l → groups_are_bound anchors l ≡ true → groups_are_bound (is_linked_through by) l ≡ true
        → IsLackedIn q all l → (a : Assignment) → at a 0 ≡ Some e → AllMayStand q all scope a → AreNear q by all near scope a → (Holds w l a → Holds v l a) × (Holds v l a → Holds w l a)
    level_alike scope done among sound keeps anchored tied lacked a this stand around = (λ x. tt, λ x. tt)
    level_alike scope (also x rest) among sound keeps anchored tied lacked a this stand around =
        let parts = and_parts _ _ sound in
        let checked = and_parts _ _ parts.0 in
        let items = item_near q w v links links' e own above asking scope a this (known_near scope a stand around) x among.0 checked.1 in
        let same = has-some (fields_of_item w a x) ∙ items ∙ sym (has-some (fields_of_item v a x)) in
        let others = level_alike scope rest among.1 parts.1 keeps anchored tied lacked a this stand around in
        (λ y. (sym same ∙ y.0, others.0 y.1), λ y. (same ∙ y.0, others.1 y.1))
    level_alike scope (unless from_term us inner rest) among sound keeps anchored tied lacked a this stand around =
        let s = and_parts _ _ sound in
        let s' = and_parts _ _ s.0 in
        let p = and_parts _ _ anchored in
        let p' = and_parts _ _ p.0 in
        let r = and_parts _ _ tied in
        let r' = and_parts _ _ r.0 in
        let own_lacked = λ (u x : ℕ) (h : are_all_bound (lacks_in (all x) u) q ≡ true). (and_parts _ _ (and_parts _ _ (lacked u x h)).0).0 in
        let inner_lacked = λ (u x : ℕ) (h : are_all_bound (lacks_in (all x) u) q ≡ true). (and_parts _ _ (and_parts _ _ (lacked u x h)).0).1 in
        let rest_lacked = λ (u x : ℕ) (h : are_all_bound (lacks_in (all x) u) q ≡ true). (and_parts _ _ (lacked u x h)).1 in
        let within = level_alike (scope ++ us) inner among.0 s'.1 keeps.1 p'.1 r'.1 inner_lacked in
        let others = level_alike scope rest among.1 s.1 keeps.2 p.1 r.1 rest_lacked a this stand around in (
          λ y. (
            λ b ext holds.
                let first = ext.rest 0 keeps.0 ∙ this in
                let stand' = stand_within q all scope us v.entities a b ext stand (level_stands q all v held' b us inner own_lacked holds) in
                let nearby = all_near q by all near e here v there b first (scope ++ us) us stand' inner among.0 s'.1 r'.0 holds (near_within q by all near scope us v.entities a b ext around) in
                let after = (within b first stand' nearby).1 holds in
                y.0 b (lives_too v w links us inner p'.0 a b ext after) after,
            others.0 y.1,
          ),
          λ y. (
            λ b ext holds.
                let first = ext.rest 0 keeps.0 ∙ this in
                let stand' = stand_within q all scope us w.entities a b ext stand (level_stands q all w held b us inner own_lacked holds) in
                let nearby = all_near q by all near e here w back b first (scope ++ us) us stand' inner among.0 s'.1 r'.0 holds (near_within q by all near scope us w.entities a b ext around) in
                let after = (within b first stand' nearby).0 holds in
                y.0 b (lives_too w v links' us inner p'.0 a b ext after) after,
            others.1 y.1,
          ),
        )

pub match_by_roles : MatchByRoles
unfolding is_anchored is_sound is_linked_by
match_by_roles m n w v q links links' sound anchored by linked e own above all held held' near here back there known =
    let both = and_parts _ _ anchored in
    let asking = and_parts _ _ linked in
    let bound = and_parts _ _ asking.1 in
    let checked = (and_parts _ _ sound).0 in
    let among = top_among q in
    let keeps = λ (shown : contains (visible q) 0 ≡ true). sound_keeps_this (visible q) (top q) shown checked in
    let passed = passed_alike q w v e own in
    let lacked = λ (u x : ℕ) (h : are_all_bound (lacks_in (all x) u) q ≡ true). (and_parts _ _ h).1 in
    let stand = λ (z : View) (held : (x : ℕ) (i : Id) → Contains (z.ids x) i → Contains (all x) i) (a : Assignment) (holds : Holds z (top q) a).
    level_stands q all z held a (visible q) (top q) (λ u x h. (and_parts _ _ h).0) holds in
    let nearby = λ (z : View) (held : (x : ℕ) (i : Id) → Contains (z.ids x) i → Contains (all x) i) (closed : LeadsOn by q all z near) (a : Assignment) (this : at a 0 ≡ Some e) (holds : Holds z (top q) a).
    all_near q by all near e here z closed a this (visible q) (visible q) (stand z held a holds) (top q) among checked bound.0 holds (λ u other c. absurd (true≢false (sym c ∙ other))) in
    let levels = λ (a : Assignment) (this : at a 0 ≡ Some e) (shown : contains (visible q) 0 ≡ true).
    level_alike q w v links links' e own above by all near here known asking.0 held held' back there (visible q) (top q) among checked (keeps shown) both.1 bound.1 lacked a this in (
      carried_over w v q e links' both.0 passed (λ a this shown holds. (levels a this shown (stand w held a holds) (nearby w held back a this holds)).0 holds),
      carried_over v w q e links both.0 (λ a this. sym (passed a this)) (λ a this shown holds. (levels a this shown (stand v held' a holds) (nearby v held' there a this holds)).1 holds),
    )
