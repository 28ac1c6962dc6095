-- Who is `$this` of a row of a local query depends on the ids of each entity alone.
use Rattle.std.proofs.Common.{◌≡◌, ℕ, zero, suc, Bool, true, false, cond, inl, inr, List, [], ◌∷◌, length, refl, sym, ap, ◌∙◌, arith}
use Rattle.std.specs.Prelude.{◌==◌, ◌&&◌, ◌||◌, filter, flat_map, map, not, Contains, Option, Some, None, if◌then◌else◌}
use Rattle.std.specs.List.{list_any, list_all}
use Rattle.std.specs.List.Sorted.{IsStrictlyIncreasing}
use Rattle.std.specs.Option.{option_eq, option_map_or}
use Rattle.std.proofs.lemmas.Bool.{and_parts, eqb-true, ne_eqb, not-true, cases_Bool}
use Rattle.std.proofs.lemmas.List.Folds.{list_any-append}
use Rattle.std.proofs.lemmas.List.Kept.{IsStrictlyIncreasing-filter}
use Rattle.ecs_id.specs.Id.{Id, plain, pair}
use Rattle.ecs_model.specs.rows.Level.{Level, done, also, unless, top}
use Rattle.ecs_model.specs.rows.Rows as meant
use Rattle.ecs_model.specs.rows.Rows.{candidates, Assignment, Field, Unset, assignments, fits, matches, keeps_first_hit, hits, fields_of_term, shown, shown_fields, same_entity, fields_of_item, solutions, passes_over, row_of, rows_under, rows}
use Rattle.ecs_model.specs.rows.View.{View}
use Rattle.ecs_model.specs.steps.Rules.{prefab, disabled}
use Rattle.ecs_model.specs.stored.Watches.{is_this, matching}
use Rattle.query_model.specs.declared.query.Ref.{Ref}
use Rattle.query_model.specs.declared.query.Ref.TheVariants.{Is, Var, Any, AnyOnce}
use Rattle.query_model.specs.declared.query.Term.{Term}
use Rattle.query_model.specs.Query.{Item, must, may, either, equal, differ, item, Query}
use Rattle.query_model.specs.Local.{asks_first, is_local_piece}
use Rattle.query_meaning.specs.Local.{IsLocal}
use Rattle.query_meaning.specs.Variables.{contains}
use Rattle.query_meaning.proofs.OrderedAssignments.{any-ordered}
use Rattle.query_meaning.proofs.Assignments.{at, at-with_other}
use Rattle.query_meaning.proofs.Choices.{fields-on_this, none_counted, none_of, one, or_last, some, some-filter, some-first, some-if, some-map, some-product, some-taken, source_first}
use Rattle.query_meaning.proofs.Lists.{In-from_place}
use Rattle.query_meaning.proofs.Numbers.{contains-from_In}
use Rattle.query_local.specs.Judging.{has_hit, is_same, item_holds, judged, stands_for, suits}
use Rattle.query_local.proofs.AscendingLists.{contains-filter}
use Rattle.query_meaning.proofs.Locality.{is_local_level, one_visible, top_local}
use Rattle.query_local.proofs.PiecePasses.{level_holds, holds_is}

-- ---- where `$this` is one entity

other_unset : (e v : ℕ) → at (one e) (suc v) ≡ None
other_unset e v = at-with_other [] 0 e (suc v) (λ h. absurd (omega (arith, h)))

isnt_first : (v : ℕ) → (suc v == 0) ≡ false
isnt_first v = ne_eqb (suc v) 0 (λ h. absurd (omega (arith, h)))

fits_one : (e d : ℕ) (r : Ref) → fits (one e) d r ≡ stands_for e d r
fits_one e d (Is c) = refl
fits_one e d (Var zero) = refl
fits_one e d (Var (suc v)) = ap (λ o. option_eq ◌==◌ o (Some d)) (other_unset e v) ∙ sym (ap (λ b. b && e == d) (isnt_first v))
fits_one e d Any = refl
fits_one e d AnyOnce = refl

matches_one : (e : ℕ) (first : Ref) (target : Option Ref) (i : Id) → matches (one e) first target i ≡ suits e first target i
matches_one e first None (plain c) = fits_one e c first
matches_one e first None (pair r t) = refl
matches_one e first (Some target) (plain c) = refl
matches_one e first (Some target) (pair r t) = let f = fits_one e r first in let g = fits_one e t target in λ i. f i && g i

same_one : (w : View) (e v : ℕ) (r : Ref) → same_entity w (one e) v r ≡ is_same e v r
same_one w e zero r = fits_one e e r
same_one w e (suc v) r = ap (λ o. option_map_or (λ d. fits (one e) d r) o false) (other_unset e v) ∙ sym (ap (λ b. b && stands_for e e r) (isnt_first v))

module _ {X : Type 0} where
  one_where : (b : Bool) (x : X) → some (if b then x ∷ [] else []) ≡ b
  one_where true x = refl
  one_where false x = refl

  none_where : (b : Bool) (x : X) → some (if b then [] else x ∷ []) ≡ not b
  none_where true x = refl
  none_where false x = refl

module _ (w : View) (e : ℕ) where
  some_hits : (t : Term) → some (hits w (one e) t e) ≡ has_hit e (w.ids e) t
  unfolding hits
  some_hits t =
      some-taken (keeps_first_hit t) (filter (matches (one e) t.component t.target) (w.ids e))
      ∙ some-filter (matches (one e) t.component t.target) (w.ids e)
      ∙ (λ i. list_any (λ j. matches_one e t.component t.target j i) (w.ids e))

  some_shown : (t : Term) → asks_first t ≡ true → some (shown_fields w (one e) t) ≡ has_hit e (w.ids e) t
  some_shown t h =
      let source = and_parts _ _ h in
      let stored = and_parts _ _ source.1 in
      let up = and_parts _ _ stored.0 in
      some-map (λ f. shown w t f ∷ []) (fields_of_term w (one e) t)
      ∙ ap some (fields-on_this w e t (source_first t.source source.0) up.0 (none_of t.up up.1) (not-true t.closed stored.1))
      ∙ some-first (map (λ j. (e, j)) (hits w (one e) t e) ∷ [])
      ∙ ap (λ b. b || false) (some-map (λ j. (e, j)) (hits w (one e) t e) ∙ some_hits t)
      ∙ or_none (has_hit e (w.ids e) t)
    where
      or_none : (b : Bool) → (b || false) ≡ b
      or_none true = refl
      or_none false = refl

  some_alternative : (ts : List Term) → list_all asks_first ts ≡ true → list_any some (map (shown_fields w (one e)) ts) ≡ list_any (has_hit e (w.ids e)) ts
  some_alternative [] h = refl
  some_alternative (t ∷ ts) h =
      let parts = and_parts _ _ h in
      let first = some_shown t parts.0 in
      let rest = some_alternative ts parts.1 in
      λ i. first i || rest i

  some_of_item : (i : Item) → is_local_piece (item i) ≡ true → some (fields_of_item w (one e) i) ≡ item_holds e (w.ids e) i
  unfolding fields_of_item
  some_of_item (must t) h = some_shown t h
  some_of_item (may t) h = some-first (shown_fields w (one e) t ∷ ((Unset ∷ []) ∷ []) ∷ []) ∙ or_last (some (shown_fields w (one e) t))
  some_of_item (either ts) h = some-first (map (shown_fields w (one e)) ts) ∙ some_alternative ts h
  some_of_item (equal v r) h = one_where (same_entity w (one e) v r) [] ∙ same_one w e v r
  some_of_item (differ v r) h = none_where (same_entity w (one e) v r) [] ∙ ap not (same_one w e v r)

  -- a group has no variables of its own, so it asks the one assignment
  group_of_one : (own : List ℕ) → length own ≡ 0 → (inner : Level)
      → list_all (λ b. length (solutions w inner b) == 0) (assignments own w.entities (one e)) ≡ not (some (solutions w inner (one e)))
  group_of_one [] h inner = ap (λ b. b && true) (none_counted (solutions w inner (one e))) ∙ and_true (not (some (solutions w inner (one e))))
    where
      and_true : (b : Bool) → (b && true) ≡ b
      and_true true = refl
      and_true false = refl
  group_of_one (v ∷ vs) h inner = absurd (omega (arith, h))

  some_of_level : (l : Level) → is_local_level l ≡ true → some (solutions w l (one e)) ≡ level_holds e (w.ids e) l
  unfolding solutions
  some_of_level done h = refl
  some_of_level (also i rest) h =
      let parts = and_parts _ _ h in
      let first = some_of_item i parts.0 in
      let others = some_of_level rest parts.1 in
      some-product (fields_of_item w (one e) i) (solutions w rest (one e)) ∙ (λ k. first k && others k)
  some_of_level (unless from_term own inner rest) h =
      let parts = and_parts _ _ h in
      let group = and_parts _ _ parts.0 in
      let holds = group_of_one own (eqb-true (length own) 0 group.0) inner ∙ ap not (some_of_level inner group.1) in
      ap (λ b. some (if b then solutions w rest (one e) else [])) holds
      ∙ some-if (not (level_holds e (w.ids e) inner)) (solutions w rest (one e))
      ∙ ap (λ b. not (level_holds e (w.ids e) inner) && b) (some_of_level rest parts.1)

-- ---- the rows

and_none : (b : Bool) → false ≡ (b && false)
and_none true = refl
and_none false = refl

module _ (w : View) (q : Query) where
  -- whether an entity is `$this` of a row
  abbrev is_asked : ℕ → Bool
  is_asked e = not (passes_over w q (one e)) && some (solutions w (top q) (one e))

  asked_judged : IsLocal q → (e : ℕ) → is_asked e ≡ judged q e (w.ids e)
  asked_judged local e =
      let parts = and_parts _ _ local in
      let this = and_parts _ _ parts.0 in
      let holds = some_of_level w e (top q) (top_local q parts.1) ∙ sym (holds_is e (w.ids e) q) in
      ap (λ b. not (b && (meant.is_cut q (w.ids e) prefab || meant.is_cut q (w.ids e) disabled)) && some (solutions w (top q) (one e))) this.0
      ∙ ap (λ b. not (meant.is_cut q (w.ids e) prefab || meant.is_cut q (w.ids e) disabled) && b) holds
      ∙ turned (meant.is_cut q (w.ids e) prefab) (meant.is_cut q (w.ids e) disabled) _
    where
      turned : (a b c : Bool) → (not (a || b) && c) ≡ (c && not a && not b)
      turned true b true = refl
      turned true b false = refl
      turned false true true = refl
      turned false true false = refl
      turned false false true = refl
      turned false false false = refl

  this_of_rows : (e d : ℕ) (fs : List (List Field)) → list_any (is_this e) (map (row_of (one d)) fs) ≡ (d == e && some fs)
  this_of_rows e d [] = and_none (d == e)
  this_of_rows e d (f ∷ fs) = ap (λ b. (d == e || false) || b) (this_of_rows e d fs) ∙ by (d == e) (some fs)
    where
      by : (a b : Bool) → ((a || false) || (a && b)) ≡ (a && true)
      by true b = refl
      by false b = refl

  -- of the assignments of `$this` to some entities
  abbrev rows_from : List ℕ → List meant.Row
  rows_from es = flat_map (rows_under w q) (filter (λ a. not (passes_over w q a)) (assignments (0 ∷ []) es []))

  this_of_some : (e : ℕ) (es : List ℕ) → list_any (is_this e) (rows_from es) ≡ list_any (λ d. d == e && is_asked d) es
  this_of_some e [] = refl
  this_of_some e (d ∷ es) =
      let others : List Assignment = filter (λ a. not (passes_over w q a)) (assignments (0 ∷ []) es []) in
      let first = this_of_rows e d (solutions w (top q) (one d)) in
      let rest = this_of_some e es in
      elim (not (passes_over w q (one d))) as (λ b.
      list_any (is_this e) (flat_map (rows_under w q) (cond b (one d ∷ others) others))
      ≡ (d == e && (b && some (solutions w (top q) (one d))) || list_any (λ c. c == e && is_asked c) es)) [
        | true ↦ list_any-append (is_this e) (rows_under w q (one d)) (rows_from es) ∙ (λ i. first i || rest i)
        | false ↦ rest ∙ ap (λ b. b || list_any (λ c. c == e && is_asked c) es) (and_none (d == e))
      ]

-- some entity that is this one, and passes
any_itself : (p : ℕ → Bool) (e : ℕ) (es : List ℕ) → list_any (λ d. d == e && p d) es ≡ (contains es e && p e)
any_itself p e [] = refl
any_itself p e (d ∷ es) = elim (cases_Bool (d == e)) [
  | inl t ↦ ap (λ x. d == e && p x || list_any (λ c. c == e && p c) es) (eqb-true d e t)
      ∙ ap (λ b. b && p e || list_any (λ c. c == e && p c) es) t
      ∙ ap (λ b. p e || b) (any_itself p e es)
      ∙ once (contains es e) (p e)
      ∙ sym (ap (λ b. (b || contains es e) && p e) t)
  | inr f ↦ ap (λ b. b && p d || list_any (λ c. c == e && p c) es) f ∙ any_itself p e es ∙ sym (ap (λ b. (b || contains es e) && p e) f)
]
  where
    once : (a b : Bool) → (b || (a && b)) ≡ b
    once true true = refl
    once true false = refl
    once false true = refl
    once false false = refl

pub matched_where_judged : (w : View) (q : Query) → IsLocal q → (e : ℕ) → contains (matching w q) e ≡ (contains w.entities e && judged q e (w.ids e))
unfolding matching rows
matched_where_judged w q local e =
    let parts = and_parts _ _ local in
    let this = and_parts _ _ parts.0 in
    contains-filter (λ d. list_any (is_this d) (rows w q)) w.entities e
    ∙ ap (λ b. contains w.entities e && b)
    (any-ordered w q (rows_under w q) (is_this e) (candidates w q)
    ∙ ap (λ vs. list_any (is_this e) (flat_map (rows_under w q) (filter (λ a. not (passes_over w q a)) (assignments vs w.entities [])))) (one_visible q this.1)
    ∙ this_of_some w q e w.entities
    ∙ any_itself (is_asked w q) e w.entities)
    ∙ twice (contains w.entities e) (is_asked w q e)
    ∙ ap (λ b. contains w.entities e && b) (asked_judged w q local e)
  where
    twice : (a b : Bool) → (a && (a && b)) ≡ (a && b)
    twice true b = refl
    twice false b = refl

pub matching_ascends : (w : View) (q : Query) → IsStrictlyIncreasing w.entities → IsStrictlyIncreasing (matching w q)
unfolding matching
matching_ascends w q up = IsStrictlyIncreasing-filter (λ e. list_any (is_this e) (rows w q)) w.entities up

pub judged_matches : (w : View) (q : Query) → IsLocal q → (e : ℕ) (ids : List Id) → Contains w.entities e → w.ids e ≡ ids → judged q e ids ≡ contains (matching w q) e
judged_matches w q local e ids lives same =
    let there = contains-from_In w.entities e (In-from_place w.entities lives.0 e lives.1 lives.2) in
    sym (matched_where_judged w q local e ∙ ap (λ b. b && judged q e (w.ids e)) there ∙ ap (judged q e) same)
