-- A live entity that meets all that a query asks, by its own ids alone, is `$this` of a row.
use Rattle.std.proofs.Common.{◌≡◌, ◌⊎◌, ℕ, zero, suc, Bool, true, false, inl, inr, List, [], ◌∷◌, refl, sym, ap, ◌∙◌, subst}
use Rattle.std.specs.Prelude.{◌==◌, ◌&&◌, ◌||◌, length, map, not, Option, Some, None, is_some}
use Rattle.std.specs.List.{Contains, list_any, range_with_len}
use Rattle.std.specs.Option.{option_map_or}
use Rattle.std.specs.Ordering.{nat_cmp}
use Rattle.std.proofs.lemmas.Bool.{and_from, and_parts, cases_Bool, cases_eq, eq-eqb, eqb-true, false≢true, not-true, or_cases, or_left}
use Rattle.std.proofs.lemmas.Option.{same_Some}
use Rattle.ecs_id.specs.Id.{Id, plain, pair}
use Rattle.ecs_model.specs.Links.{is_held}
use Rattle.ecs_model.specs.Map.{with_value}
use Rattle.ecs_model.specs.rows.Level.{Level, unless, first_level, joined_levels, open_levels, other_levels, top}
use Rattle.ecs_model.specs.rows.Rows.{Assignment, Unset, assignments, candidates, fields_of_item, fields_of_term, fits, is_passed_over, level_mentions, matches, passes_over, rows, shown, shown_fields, solutions, visible}
use Rattle.ecs_model.specs.rows.View.{View}
use Rattle.ecs_model.specs.stored.Watches.{is_this, matching}
use Rattle.ecs_model.specs.steps.Rules.{prefab, disabled}
use Rattle.ecs_model.proofs.Members.{any_passes, filtered, passing}
use Rattle.query_model.specs.Observers.{is_constant, is_constant_target}
use Rattle.query_model.specs.declared.query.Ref.{Ref}
use Rattle.query_model.specs.declared.query.Ref.TheVariants.{Is, Var, Any, AnyOnce}
use Rattle.query_model.specs.declared.query.Term.{Term}
use Rattle.query_model.specs.Query.{Item, Piece, must, may, either, equal, differ, item, opening, closing}
use Rattle.query_meaning.specs.Sound.{is_sound}
use Rattle.query_meaning.specs.Variables.{contains}
use Rattle.query_meaning.proofs.Assignments.{Extends, IsMap-with, assignments-from_Extends, at, at-with_other, at-with_same, or_false}
use Rattle.query_meaning.proofs.LevelHolding.{Holds, Holds-solutions}
use Rattle.query_meaning.proofs.Lists.{In, place_of}
use Rattle.watch_concerns.specs.Concerns.{may_be, may_match}
use Rattle.watch_concerns.specs.Laws.{MeetingMatch}
use Rattle.watch_concerns.specs.OwnIds.{item_is_met, item_lacks, meets, meets_from, term_is_met}
use Rattle.query_meaning.proofs.Choices.{any-map, has-some, or_last, some, some-first, some-map}
use Rattle.watch_concerns.proofs.LackedIds.{behind_item, hits_itself, item_fails}
use Rattle.watch_concerns.proofs.MatchingRows.{is_first_of}
use Rattle.watch_concerns.proofs.ThisAssignments.{KeepsThis, head_at, sound_keeps_this}
use Rattle.watch_concerns.proofs.AnchoredRows.{any_row, to_place}

-- ---- a term without variables

fits_too : (a : Assignment) (x : ℕ) (r : Ref) → is_constant r ≡ true → may_be x r ≡ true → fits a x r ≡ true
fits_too a x (Is d) n h = h
fits_too a x (Var v) n h = absurd (false≢true n)
fits_too a x Any n h = refl
fits_too a x AnyOnce n h = refl

matches_too : (a : Assignment) (first : Ref) (target : Option Ref) (i : Id) → is_constant first ≡ true → is_constant_target target ≡ true → may_match first target i ≡ true → matches a first target i ≡ true
matches_too a first None (plain c) n k h = fits_too a c first n h
matches_too a first None (pair r t) n k h = h
matches_too a first (Some target) (plain c) n k h = h
matches_too a first (Some target) (pair r t) n k h =
    let both = and_parts _ _ h in
    and_from _ _ (fits_too a r first n both.0) (fits_too a t target k both.1)

behind_group : (from_term : Bool) (own : List ℕ) (ls : List Level) → joined_levels (unless from_term own (first_level ls) (first_level (other_levels ls)) ∷ other_levels (other_levels ls)) ≡ unless from_term own (first_level ls) (joined_levels (other_levels ls))
behind_group from_term own [] = refl
behind_group from_term own (l ∷ []) = refl
behind_group from_term own (l ∷ m ∷ ls) = refl

module _ (w : View) (e : ℕ) where
  -- ---- an item

  term_meets : (t : Term) → term_is_met (w.ids e) t ≡ true → (a : Assignment) → at a 0 ≡ Some e → some (shown_fields w a t) ≡ true
  term_meets t h a this =
      let outer = and_parts _ _ h in
      let middle = and_parts _ _ outer.0 in
      let inner = and_parts _ _ middle.0 in
      let found = passing (may_match t.component t.target) (w.ids e) outer.1 in
      some-map (λ f. shown w t f ∷ []) (fields_of_term w a t)
      ∙ hits_itself w a e this t inner.0
      ∙ any_passes (matches a t.component t.target) (w.ids e) found.0 found.1 (matches_too a t.component t.target found.0 inner.1 middle.1 found.2)

  item_meets : (x : Item) → item_is_met (w.ids e) x ≡ true → (a : Assignment) → at a 0 ≡ Some e → some (fields_of_item w a x) ≡ true
  unfolding fields_of_item
  item_meets (must t) h a this = term_meets t h a this
  item_meets (may t) h a this = some-first (shown_fields w a t ∷ ((Unset ∷ []) ∷ []) ∷ []) ∙ or_last (some (shown_fields w a t))
  item_meets (either ts) h a this =
      let found = passing (term_is_met (w.ids e)) ts h in
      some-first (map (shown_fields w a) ts)
      ∙ any-map (shown_fields w a) ts
      ∙ any_passes (λ t. some (shown_fields w a t)) ts found.0 found.1 (term_meets found.0 found.2 a this)
  item_meets (equal u r) h a this = absurd (false≢true h)
  item_meets (differ u r) h a this = absurd (false≢true h)

  -- ---- a level

  abbrev HoldsFor : Level → Type 0
  HoldsFor l = (a : Assignment) → at a 0 ≡ Some e → Holds w l a

  abbrev FailsFor : Level → Type 0
  FailsFor l = (a : Assignment) → at a 0 ≡ Some e → Holds w l a → ⊥

  -- what is known from the left, where a group is open or none is
  abbrev Told : Bool → Bool → List Piece → Type 0
  Told false failed ps = KeepsThis (joined_levels (open_levels ps)) → HoldsFor (joined_levels (open_levels ps))
  Told true failed ps = KeepsThis (joined_levels (other_levels (open_levels ps))) → ((failed ≡ true) ⊎ FailsFor (first_level (open_levels ps))) × HoldsFor (joined_levels (other_levels (open_levels ps)))

  told : (inside failed : Bool) (ps : List Piece) → meets_from (w.ids e) inside failed ps ≡ true → Told inside failed ps
  told false failed [] h = λ keeps a this. tt
  told true failed [] h = λ keeps. (inl h, λ a this. tt)
  told false failed (item x ∷ ps) h = λ keeps.
      let both = and_parts _ _ h in
      let same = behind_item x (open_levels ps) in
      let rest = told false false ps both.1 (subst KeepsThis same keeps) in
      λ a this. subst (λ l. Holds w l a) (sym same) (has-some (fields_of_item w a x) ∙ item_meets x both.0 a this, rest a this)
  told true failed (item x ∷ ps) h = λ keeps.
      let rest = told true (failed || item_lacks (w.ids e) x) ps h keeps in (
        elim rest.0 [
          | inl either_way ↦ elim (or_cases failed (item_lacks (w.ids e) x) either_way) [
            | inl before ↦ inl before
            | inr here ↦ inr (λ a this holds. item_fails w a e this x here (sym (has-some (fields_of_item w a x)) ∙ holds.0))
          ]
          | inr later ↦ inr (λ a this holds. later a this holds.1)
        ],
        rest.1,
      )
  told false failed (opening from_term own ∷ ps) h = λ keeps.
      let same = behind_group from_term own (open_levels ps) in
      let kept = subst KeepsThis same keeps in
      let rest = told true false ps h kept.2 in
      let fails : FailsFor (first_level (open_levels ps)) = elim rest.0 [ inl none ↦ absurd (false≢true none) | inr f ↦ f ] in
      λ a this. subst (λ l. Holds w l a) (sym same) (λ b ext holds. fails b (ext.rest 0 kept.0 ∙ this) holds, rest.1 a this)
  told true failed (opening from_term own ∷ ps) h = absurd (false≢true h)
  told false failed (closing ∷ ps) h = absurd (false≢true h)
  told true failed (closing ∷ ps) h = λ keeps. let both = and_parts _ _ h in (inl both.0, told false false ps both.1 keeps)

-- ---- an assignment of the entity alone

constant : (vs es : List ℕ) (e : ℕ) → In e es → (d : Assignment) × Extends vs es [] d × ((v : ℕ) → contains vs v ≡ true → at d v ≡ Some e)
constant [] es e lives = ([], record { in_order = refl; own = λ v h. absurd (false≢true h); rest = λ v h. refl }, λ v h. absurd (false≢true h))
constant (v ∷ vs) es e lives =
    let r = constant vs es e lives in
    let x = r.1 in
    let d : Assignment = with_value nat_cmp r.0 v e in
    let all : (u : ℕ) → contains (v ∷ vs) u ≡ true → at d u ≡ Some e = λ u t.
    elim (cases_eq u v) [
      | inl same ↦ ap (at d) same ∙ at-with_same r.0 v e
      | inr n ↦ at-with_other r.0 v e u n ∙ r.2 u (elim (or_cases _ _ t) [ inl same ↦ absurd (n (sym (eqb-true v u same))) | inr y ↦ y ])
    ] in (
      d,
      record {
        in_order = IsMap-with r.0 v e x.in_order;
        own = λ u t. (e, lives, all u t);
        rest = λ u t. let p = or_false (v == u) (contains vs u) t in at-with_other r.0 v e u (λ same. false≢true (sym p.0 ∙ eq-eqb v u (sym same))) ∙ x.rest u p.1;
      },
      all,
    )

first_alone : (vs es : List ℕ) (e : ℕ) (a : Assignment) → Extends vs es [] a → ((v : ℕ) → contains vs v ≡ true → at a v ≡ Some e) → at a 0 ≡ Some e → is_first_of e a ≡ true
first_alone vs es e [] ext all this = absurd (false≢true (ap is_some this))
first_alone vs es e ((u, y) ∷ rest) ext all this =
    elim (cases_Bool (contains vs u)) [
      | inl own ↦ or_left (y == e) false (eq-eqb y e (same_Some y e (sym (head_at u y rest) ∙ all u own)))
      | inr other ↦ absurd (false≢true (ap is_some (sym (ext.rest u other) ∙ head_at u y rest)))
    ]

zero_shown : (n : ℕ) → not (n == 0) ≡ true → contains (range_with_len 0 n) 0 ≡ true
zero_shown zero h = absurd (false≢true h)
zero_shown (suc n) h = refl

neither : (b c d : Bool) → (b && (false && c || false && d)) ≡ false
neither true c d = refl
neither false c d = refl

pub meeting_match : MeetingMatch
unfolding meets matching is_sound top
meeting_match w q sound e lives h =
    let outer = and_parts _ _ h in
    let middle = and_parts _ _ outer.0 in
    let inner = and_parts _ _ middle.0 in
    let shown = zero_shown (length q.variables) inner.0 in
    let alone = constant (visible q) w.entities e (to_place w.entities e lives) in
    let a : Assignment = alone.0 in
    let this = alone.2 0 shown in
    let keeps = sound_keeps_this (visible q) (top q) shown (and_parts _ _ sound).0 in
    let holds = told w e false false q.pieces outer.1 keeps a this in
    let solved = sym (has-some (solutions w (top q) a)) ∙ (Holds-solutions w (top q) a (alone.1).in_order).1 holds in
    let no_prefab = not-true (is_held (w.ids e) (plain prefab)) inner.1 in
    let no_disabled = not-true (is_held (w.ids e) (plain disabled)) middle.1 in
    let kept : passes_over w q a ≡ false
    = (λ k. q.has_this && option_map_or (λ x. is_passed_over q (w.ids x)) (this k) false)
    ∙ (λ k. q.has_this && (no_prefab k && not (level_mentions prefab (top q)) || no_disabled k && not (level_mentions disabled (top q))))
    ∙ neither q.has_this (not (level_mentions prefab (top q))) (not (level_mentions disabled (top q))) in
    let asked : Contains (candidates w q) a = (filtered (λ a. not (passes_over w q a)) (assignments (visible q) w.entities []) a).1
    (place_of _ a (assignments-from_Extends (visible q) w.entities [] a refl alone.1), ap not kept) in
    (filtered (λ e. list_any (is_this e) (rows w q)) w.entities e).1 (
      lives,
      any_row w q e ∙ any_passes (λ a. is_first_of e a && some (solutions w (top q) a)) (candidates w q) a asked (and_from _ _ (first_alone (visible q) w.entities e a alone.1 alone.2 this) solved),
    )
