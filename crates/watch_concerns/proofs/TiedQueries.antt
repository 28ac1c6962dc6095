-- Of a tied query, what others hold matters for an entity only where it holds a pair with them.
use Rattle.std.proofs.Common.{◌≡◌, ℕ, Bool, true, false, inl, inr, List, [], ◌∷◌, refl, sym, ap, ◌∙◌, subst, arith}
use Rattle.std.specs.Prelude.{◌==◌, ◌&&◌, ◌||◌, ◌++◌, filter, flat_map, map, not, Option, Some, None, if◌then◌else◌}
use Rattle.std.specs.List.{Contains, list_any, list_all}
use Rattle.std.specs.Option.{option_map_or}
use Rattle.std.proofs.lemmas.Bool.{and_from, and_parts, cases_Bool, eq-eqb, eqb-true, false≢true, not-true, or_cases, or_left, true≢false}
use Rattle.ecs_id.specs.Id.{Id, plain, pair}
use Rattle.ecs_model.specs.Links.{AreLinks, ancestor_line}
use Rattle.ecs_model.specs.rows.Level.{Level, done, also, unless, top}
use Rattle.ecs_model.specs.rows.Rows.{Assignment, asked, closed_fields, fields_of_item, fields_of_term, first_nonempty, hits, matches, meant, shown, shown_fields, visible}
use Rattle.ecs_model.specs.rows.View.{View}
use Rattle.ecs_model.proofs.Members.{any_passes, filtered, head_or_tail, passing}
use Rattle.ecs_model.proofs.steps.LivingIds.{each_passes}
use Rattle.query_model.specs.declared.query.Ref.{Ref}
use Rattle.query_model.specs.declared.query.Ref.TheVariants.{Is, Var, Any, AnyOnce}
use Rattle.query_model.specs.declared.query.Term.{Term}
use Rattle.query_model.specs.Observers.{is_constant, is_first}
use Rattle.query_model.specs.Query.{Item, must, may, either, equal, differ, Query}
use Rattle.query_check.specs.Terms.{item_terms, terms}
use Rattle.query_meaning.specs.Sound.{is_sound, is_sound_level}
use Rattle.query_meaning.specs.Variables.{contains, item_variables, pattern_variables, term_variables, variable_in}
use Rattle.query_meaning.proofs.Assignments.{Extends, at}
use Rattle.query_meaning.proofs.LevelHolding.{Holds, contains-cases, contains-left}
use Rattle.watch_concerns.specs.Anchored.{anchors, is_anchored, is_variable, may_be_variable}
use Rattle.watch_concerns.specs.Bonds.{groups_are_bound, has_directly}
use Rattle.watch_concerns.specs.Concerns.{concerns, term_concerns}
use Rattle.watch_concerns.specs.Idle.{asks_for, term_asks_for}
use Rattle.watch_concerns.specs.Laws.{MatchByTies}
use Rattle.watch_concerns.specs.Others.{asks_this_stored, concerns_below, concerns_others}
use Rattle.watch_concerns.specs.Tied.{asks_near, is_tied, item_ties, needs_no_tie, term_asks, term_ties, ties}
use Rattle.query_meaning.proofs.Choices.{any-map, has-some, none_of, some, some-first, some-map}
use Rattle.watch_concerns.proofs.CoveredTerms.{AreAmong, OfEach, by_term, top_among}
use Rattle.watch_concerns.proofs.LevelAgreement.{at_each, by_match, directly_given, item_alike, matches_may, must_given}
use Rattle.watch_concerns.proofs.LackedIds.{hits_itself}
use Rattle.watch_concerns.proofs.LivingVariables.{fits_only}
use Rattle.watch_concerns.proofs.OwnFacts.{carried_over, hits_alike, passed_alike, this_alike}
use Rattle.watch_concerns.proofs.ThisAssignments.{KeepsThis, sound_keeps_this}
use Rattle.watch_concerns.proofs.UnaskedVariables.{asked_for_others}
use Rattle.watch_concerns.proofs.AnchoredRows.{all_at, lives_too}
use Rattle.watch_concerns.proofs.WiderTests.{filter_same}

pub the_variable : (u : ℕ) (r : Ref) → is_variable u r ≡ true → r ≡ Var u
the_variable u (Is d) h = absurd (false≢true h)
the_variable u (Var s) h = ap Var (eqb-true s u h)
the_variable u Any h = absurd (false≢true h)
the_variable u AnyOnce h = absurd (false≢true h)

variable_of : (r : Ref) → not (is_constant r) ≡ true → (u : ℕ) × (r ≡ Var u)
variable_of (Is e) h = absurd (false≢true h)
variable_of (Var u) h = (u, refl)
variable_of Any h = absurd (false≢true h)
variable_of AnyOnce h = absurd (false≢true h)

-- an id that a pattern matches whose target is a variable is a pair with its entity as the target
pub to_variable : (a : Assignment) (u x : ℕ) (first : Ref) (target : Option Ref) (i : Id) → may_be_variable u target ≡ true → at a u ≡ Some x → matches a first target i ≡ true → (r : ℕ) × (i ≡ pair r x)
to_variable a u x first None i h is m = absurd (false≢true h)
to_variable a u x first (Some target) (plain c) h is m = absurd (false≢true m)
to_variable a u x first (Some target) (pair r t) h is m = (r, ap (pair r) (sym (fits_only a u x t target h is (and_parts _ _ m).1)))

pub all_left : (p : ℕ → Bool) (xs ys : List ℕ) → list_all p (xs ++ ys) ≡ true → (list_all p xs ≡ true) × (list_all p ys ≡ true)
all_left p [] ys h = (refl, h)
all_left p (x ∷ xs) ys h =
    let both = and_parts _ _ h in
    let rest = all_left p xs ys both.1 in
    (and_from _ _ both.0 rest.0, rest.1)

-- the variables of an item's terms are among its own
terms_scoped : (scope : List ℕ) (ts : List Term) → list_all (contains scope) (flat_map term_variables ts) ≡ true → (t : Term) → Contains ts t → list_all (contains scope) (term_variables t) ≡ true
terms_scoped scope [] h t c = absurd (omega (arith, c.1))
terms_scoped scope (u ∷ ts) h t c =
    let parts = all_left (contains scope) (term_variables u) (flat_map term_variables ts) h in
    elim (head_or_tail u t ts c) [ inl e ↦ subst (λ t. list_all (contains scope) (term_variables t) ≡ true) e parts.0 | inr later ↦ terms_scoped scope ts parts.1 t later ]

pub scoped_term : (scope : List ℕ) (x : Item) → list_all (contains scope) (item_variables x) ≡ true → (t : Term) → Contains (item_terms x) t → list_all (contains scope) (term_variables t) ≡ true
scoped_term scope (must u) h t c = elim (head_or_tail u t [] c) [ inl e ↦ subst (λ t. list_all (contains scope) (term_variables t) ≡ true) e h | inr none ↦ absurd (omega (arith, none.1)) ]
scoped_term scope (may u) h t c = elim (head_or_tail u t [] c) [ inl e ↦ subst (λ t. list_all (contains scope) (term_variables t) ≡ true) e h | inr none ↦ absurd (omega (arith, none.1)) ]
scoped_term scope (either ts) h t c = terms_scoped scope ts h t c
scoped_term scope (equal u r) h t c = absurd (omega (arith, c.1))
scoped_term scope (differ u r) h t c = absurd (omega (arith, c.1))

module _ (q : Query) {m n : ℕ} (w v : View) (links : AreLinks m w.entities w.ids) (links' : AreLinks n v.entities v.ids) (e : ℕ)
    (own : filter (concerns q) (w.ids e) ≡ filter (concerns q) (v.ids e))
    (above : (r x : ℕ) → Contains (ancestor_line v.ids v.entities r e) x → filter (concerns_below q) (w.ids x) ≡ filter (concerns_below q) (v.ids x)) where
  -- an entity holds the same in both views of ids for which that of a variable is asked
  abbrev pub IsKnown : ℕ → ℕ → Type 0
  IsKnown u x = filter (asks_for (terms q) u) (w.ids x) ≡ filter (asks_for (terms q) u) (v.ids x)

  -- so does whoever the variable stands for, if it is asked
  abbrev pub Knows : Assignment → ℕ → Type 0
  Knows a u = needs_no_tie (terms q) u ≡ false → (x : ℕ) → at a u ≡ Some x → IsKnown u x

  -- ---- a term that asks another entity

  module _ (a : Assignment) (t : Term) (among : Contains (terms q) t) (u : ℕ) (source : t.source ≡ Var u) where
    asked_of_it : (i : Id) → term_concerns i t ≡ true → asks_for (terms q) u i ≡ true
    asked_of_it i h = any_passes (term_asks_for u i) (terms q) t among (and_from _ _ (ap (is_variable u) source ∙ eq-eqb u u refl) h)

    abbrev gives : View → ℕ → Bool
    gives z s = some (first_nonempty (map (λ m. at_each m (hits z a t m)) (asked z t s)))

    gives_alike : (x : ℕ) → t.up ≡ None → IsKnown u x → gives w x ≡ gives v x
    gives_alike x up known = reduced w ∙ by t.on_source ∙ sym (reduced v)
      where
        alone : List ℕ
        alone = if t.on_source then x ∷ [] else []

        reduced : (z : View) → gives z x ≡ list_any (λ m. some (at_each m (hits z a t m))) ((if t.on_source then x ∷ [] else []) ++ [])
        reduced z =
            some-first (map (λ m. at_each m (hits z a t m)) (asked z t x))
            ∙ any-map (λ m. at_each m (hits z a t m)) (asked z t x)
            ∙ (λ k. list_any (λ m. some (at_each m (hits z a t m))) ((if t.on_source then x ∷ [] else []) ++ option_map_or (λ r. ancestor_line z.ids z.entities r x) (up k) []))

        by : (b : Bool) → list_any (λ m. some (at_each m (hits w a t m))) ((if b then x ∷ [] else []) ++ []) ≡ list_any (λ m. some (at_each m (hits v a t m))) ((if b then x ∷ [] else []) ++ [])
        by true = ap (λ is. some (at_each x is) || false) (hits_alike w v a t (asks_for (terms q) u) x asked_of_it known)
        by false = refl

    other_alike : t.up ≡ None → t.closed ≡ false → ((x : ℕ) → at a u ≡ Some x → IsKnown u x) → some (fields_of_term w a t) ≡ some (fields_of_term v a t)
    unfolding fields_of_term
    other_alike up stored knows = whole w ∙ by (at a u) refl ∙ sym (whole v)
      where
        whole : (z : View) → some (fields_of_term z a t) ≡ some (option_map_or (λ s. first_nonempty (map (λ m. at_each m (hits z a t m)) (asked z t s))) (at a u) [])
        whole z =
            λ k. some (option_map_or (λ s.
            if stored k then closed_fields z (meant a t.component) s (option_map_or (meant a) t.target None)
            else first_nonempty (map (λ m. at_each m (hits z a t m)) (asked z t s))) (meant a (source k)) [])

        by : (o : Option ℕ) → at a u ≡ o
            → some (option_map_or (λ s. first_nonempty (map (λ m. at_each m (hits w a t m)) (asked w t s))) o [])
            ≡ some (option_map_or (λ s. first_nonempty (map (λ m. at_each m (hits v a t m)) (asked v t s))) o [])
        by None is = refl
        by (Some x) is = gives_alike x up (knows x is)

  -- ---- a term

  asks_itself : (t : Term) → asks_this_stored t ≡ false → t.closed ≡ false → t.source ≡ Var 0 → ⊥
  asks_itself t other stored source =
      let is : asks_this_stored t ≡ true = λ k. is_first (source k) && not (stored k) in
      true≢false (sym is ∙ other)

  term_alike : (a : Assignment) → at a 0 ≡ Some e → (t : Term) → Contains (terms q) t → asks_near t ≡ true → ((u : ℕ) → is_variable u t.source ≡ true → not (u == 0) ≡ true → (x : ℕ) → at a u ≡ Some x → IsKnown u x)
      → some (shown_fields w a t) ≡ some (shown_fields v a t)
  term_alike a this t among near knows = elim (or_cases _ _ near) [
    | inl asks ↦ this_alike q w v links links' e own above a this t among asks
    | inr parts ↦ elim (cases_Bool (asks_this_stored t)) [
      | inl asks ↦ this_alike q w v links links' e own above a this t among asks
      | inr other ↦
          let outer = and_parts _ _ parts in
          let inner = and_parts _ _ outer.0 in
          let source = variable_of t.source inner.0 in
          let u : ℕ = source.0 in
          let stored = not-true t.closed outer.1 in
          let is_source : is_variable u t.source ≡ true = ap (is_variable u) source.1 ∙ eq-eqb u u refl in
          let apart : not (u == 0) ≡ true = elim (cases_Bool (u == 0)) [
            | inl same ↦ absurd (asks_itself t other stored (source.1 ∙ ap Var (eqb-true u 0 same)))
            | inr unlike ↦ ap not unlike
          ] in
          some-map (λ f. shown w t f ∷ []) (fields_of_term w a t)
          ∙ other_alike a t among u source.1 (none_of t.up inner.1) stored (knows u is_source apart)
          ∙ sym (some-map (λ f. shown v t f ∷ []) (fields_of_term v a t))
    ]
  ]

  -- ---- an item

  -- each variable in scope that needs it is known
  abbrev pub KnowsAll : List ℕ → Assignment → Type 0
  KnowsAll scope a = (u : ℕ) → contains scope u ≡ true → Knows a u

  needs_tie : (u : ℕ) → not (u == 0) ≡ true → list_any (term_asks u) (terms q) ≡ true → needs_no_tie (terms q) u ≡ false
  needs_tie u apart asked = let unlike = not-true (u == 0) apart in λ k. unlike k || not (asked k)

  known_source : (scope : List ℕ) (a : Assignment) → KnowsAll scope a → (t : Term) → Contains (terms q) t → list_all (contains scope) (term_variables t) ≡ true
      → (u : ℕ) → is_variable u t.source ≡ true → not (u == 0) ≡ true → (x : ℕ) → at a u ≡ Some x → IsKnown u x
  known_source scope a knows t among scoped u source apart x is =
      knows u (all_at (contains scope) (term_variables t) u scoped (contains-left (variable_in t.source) (pattern_variables t) u (in_source t.source source))) (needs_tie u apart (any_passes (term_asks u) (terms q) t among source)) x is
    where
      in_source : (r : Ref) → is_variable u r ≡ true → contains (variable_in r) u ≡ true
      in_source (Is d) h = absurd (false≢true h)
      in_source (Var s) h = or_left (s == u) false h
      in_source Any h = absurd (false≢true h)
      in_source AnyOnce h = absurd (false≢true h)

  -- those of a group besides
  pub known_within : (scope us : List ℕ) (es : List ℕ) (a b : Assignment) → Extends us es a b → KnowsAll scope a → KnowsAll us b → KnowsAll (scope ++ us) b
  known_within scope us es a b ext around within u in_scope needs x is =
      elim (cases_Bool (contains us u)) [
        | inl mine ↦ within u mine needs x is
        | inr other ↦ elim (contains-cases scope us u in_scope) [
          | inl outer ↦ around u outer needs x (sym (ext.rest u other) ∙ is)
          | inr mine ↦ absurd (true≢false (sym mine ∙ other))
        ]
      ]

  -- where all terms ask so, an item holds in both views or in neither
  pub item_near : list_all asks_near (terms q) ≡ true → (scope : List ℕ) (a : Assignment) → at a 0 ≡ Some e → KnowsAll scope a → (x : Item) → AreAmong (terms q) x → list_all (contains scope) (item_variables x) ≡ true
      → some (fields_of_item w a x) ≡ some (fields_of_item v a x)
  item_near near scope a this knows x among scoped = item_alike w v a x (λ t c.
      term_alike a this t (among t c) (each_passes asks_near (terms q) near t (among t c)) (known_source scope a knows t (among t c) (scoped_term scope x scoped t c)))

  -- ---- ties

  module _ (near : list_all asks_near (terms q) ≡ true) (held : (r x : ℕ) → Contains (v.ids e) (pair r x) → concerns q (pair r x) ≡ true → filter (concerns_others q) (w.ids x) ≡ filter (concerns_others q) (v.ids x)) where
    -- an entity holds the same in both views of ids that concern the query for others
    abbrev IsHeld : ℕ → Type 0
    IsHeld x = filter (concerns_others q) (w.ids x) ≡ filter (concerns_others q) (v.ids x)

    -- so it does of those for which the entity of a variable is asked that isn't `$this`
    held_for : (u x : ℕ) → needs_no_tie (terms q) u ≡ false → IsHeld x → IsKnown u x
    held_for u x needs same = filter_same (concerns_others q) (w.ids x) (v.ids x) same (asks_for (terms q) u) (λ i asked. asked_for_others i u (unlike (u == 0) needs) q asked)
      where
        unlike : (b : Bool) → (b || not (list_any (term_asks u) (terms q))) ≡ false → b ≡ false
        unlike true h = h
        unlike false h = refl

    -- with whom the entity holds a pair that concerns the query in one view, it does so in the other
    tied_known : (z : View) → filter (concerns q) (z.ids e) ≡ filter (concerns q) (v.ids e) → (a : Assignment) → at a 0 ≡ Some e → (t : Term) → Contains (terms q) t → (u x : ℕ) → at a u ≡ Some x
        → term_ties u t ≡ true → some (shown_fields z a t) ≡ true → IsHeld x
    tied_known z same a this t among u x is tie holds =
        let both = and_parts _ _ tie in
        let hit = sym (hits_itself z a e this t both.0) ∙ sym (some-map (λ f. shown z t f ∷ []) (fields_of_term z a t)) ∙ holds in
        let found = passing (matches a t.component t.target) (z.ids e) hit in
        let i : Id = found.0 in
        let concerned = by_term q t among i (by_match i t (matches_may a t.component t.target i found.2)) in
        let there = ((filtered (concerns q) (v.ids e) i).0 (subst (λ is. Contains is i) same ((filtered (concerns q) (z.ids e) i).1 (found.1, concerned)))).0 in
        let r = to_variable a u x t.component t.target i both.1 is found.2 in
        held r.0 x (subst (Contains (v.ids e)) r.1 there) (sym (ap (concerns q) r.1) ∙ concerned)

    level_tied : (z : View) → filter (concerns q) (z.ids e) ≡ filter (concerns q) (v.ids e) → (a : Assignment) → at a 0 ≡ Some e → (u x : ℕ) → at a u ≡ Some x
        → (l : Level) → OfEach (AreAmong (terms q)) l → has_directly (item_ties u) l ≡ true → Holds z l a → IsHeld x
    level_tied z same a this u x is l among tie holds =
        let y = directly_given z a (AreAmong (terms q)) (item_ties u) l among tie holds in
        let t = must_given z a (term_ties u) y.0 y.2 y.3 in
        tied_known z same a this t.0 (y.1 t.0 t.1) u x is t.2 t.3

    -- ---- a level

    -- what holds in one of the views says of the variables that are tied in it
    known_by : (z : View) → filter (concerns q) (z.ids e) ≡ filter (concerns q) (v.ids e) → (a : Assignment) → at a 0 ≡ Some e → (us : List ℕ) (l : Level) → OfEach (AreAmong (terms q)) l
        → list_all (λ u. ties (terms q) u l) us ≡ true → Holds z l a → KnowsAll us a
    known_by z same a this us l among tied holds u in_scope needs x is =
        elim (or_cases _ _ (all_at (λ u. ties (terms q) u l) us u tied in_scope)) [
          | inl free ↦ absurd (true≢false (sym free ∙ needs))
          | inr tie ↦ held_for u x needs (level_tied z same a this u x is l among tie holds)
        ]

    level_alike : (scope : List ℕ) (l : Level) → OfEach (AreAmong (terms q)) l → is_sound_level scope l ≡ true → KeepsThis l → groups_are_bound anchors l ≡ true → groups_are_bound (ties (terms q)) l ≡ true
        → (a : Assignment) → at a 0 ≡ Some e → KnowsAll scope a → (Holds w l a → Holds v l a) × (Holds v l a → Holds w l a)
    level_alike scope done among sound keeps anchored tied a this knows = (λ x. tt, λ x. tt)
    level_alike scope (also x rest) among sound keeps anchored tied a this knows =
        let parts = and_parts _ _ sound in
        let checked = and_parts _ _ parts.0 in
        let same = has-some (fields_of_item w a x) ∙ item_near near scope a this knows x among.0 checked.1 ∙ sym (has-some (fields_of_item v a x)) in
        let others = level_alike scope rest among.1 parts.1 keeps anchored tied a this knows in
        (λ y. (sym same ∙ y.0, others.0 y.1), λ y. (same ∙ y.0, others.1 y.1))
    level_alike scope (unless from_term us inner rest) among sound keeps anchored tied a this knows =
        let s = and_parts _ _ sound in
        let s' = and_parts _ _ s.0 in
        let p = and_parts _ _ anchored in
        let p' = and_parts _ _ p.0 in
        let r = and_parts _ _ tied in
        let r' = and_parts _ _ r.0 in
        let within = level_alike (scope ++ us) inner among.0 s'.1 keeps.1 p'.1 r'.1 in
        let others = level_alike scope rest among.1 s.1 keeps.2 p.1 r.1 a this knows in (
          λ y. (
            λ b ext holds.
                let first = ext.rest 0 keeps.0 ∙ this in
                let here = (within b first (known_within scope us v.entities a b ext knows (known_by v refl b first us inner among.0 r'.0 holds))).1 holds in
                y.0 b (lives_too v w links us inner p'.0 a b ext here) here,
            others.0 y.1,
          ),
          λ y. (
            λ b ext holds.
                let first = ext.rest 0 keeps.0 ∙ this in
                let there = (within b first (known_within scope us w.entities a b ext knows (known_by w own b first us inner among.0 r'.0 holds))).0 holds in
                y.0 b (lives_too w v links' us inner p'.0 a b ext there) there,
            others.1 y.1,
          ),
        )

pub match_by_ties : MatchByTies
unfolding is_anchored is_sound is_tied
match_by_ties m n w v q links links' sound anchored tied e own above held =
    let both = and_parts _ _ anchored in
    let near = and_parts _ _ tied in
    let bound = and_parts _ _ near.1 in
    let checked = (and_parts _ _ sound).0 in
    let items = top_among q in
    let keeps = λ (shown : contains (visible q) 0 ≡ true). sound_keeps_this (visible q) (top q) shown checked in
    let passed = passed_alike q w v e own in
    let known = known_by q w v links links' e own above near.0 held in
    let levels = λ (a : Assignment) (this : at a 0 ≡ Some e) (shown : contains (visible q) 0 ≡ true).
    level_alike q w v links links' e own above near.0 held (visible q) (top q) items checked (keeps shown) both.1 bound.1 a this in (
      carried_over w v q e links' both.0 passed (λ a this shown holds. (levels a this shown (known w own a this (visible q) (top q) items bound.0 holds)).0 holds),
      carried_over v w q e links both.0 (λ a this. sym (passed a this)) (λ a this shown holds. (levels a this shown (known v refl a this (visible q) (top q) items bound.0 holds)).1 holds),
    )
