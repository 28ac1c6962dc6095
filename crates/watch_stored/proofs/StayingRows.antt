-- Of which stored query the rows stay after a command, and what is put in their place.
use Rattle.std.specs.Prelude.{◌≡◌, ℕ, ◌==◌, Bool, true, false, cond, not, ◌&&◌, List, [], ◌∷◌, ◌++◌, map, None, Some, is_some, if◌then◌else◌}
use Rattle.std.specs.List.{list_any}
use Rattle.std.proofs.Common.{refl, ap, sym, ◌∙◌, true≢false}
use Rattle.std.proofs.lemmas.Bool.{and_parts, not-true, or_left, or_right}
use Rattle.ecs_model.specs.steps.Outcomes.{Changed}
use Rattle.ecs_model.specs.World.{WorldState}
use Rattle.ecs_model.specs.declared.watches.EventKind.TheVariants.{Entered}
use Rattle.ecs_model.specs.declared.watches.StoredKind.{StoredKind}
use Rattle.ecs_model.specs.declared.watches.StoredKind.TheVariants.{Kept, Monitor, OnAdd, OnRemove, OnSet}
use Rattle.ecs_model.specs.rows.View.{view_of}
use Rattle.ecs_model.specs.stored.Watches.{entity_event, matching, missing_from}
use Rattle.ecs_model.specs.steps.WellFormed.{IsWellFormed}
use Rattle.ecs_model.proofs.Members.{eq_itself}
use Rattle.query_model.specs.Local.{is_local}
use Rattle.query_model.specs.Query.{Query}
use Rattle.watch_touched.specs.Before.{view_before}
use Rattle.watch_touched.specs.Concerned.{is_concerned}
use Rattle.watch_touched.specs.Moving.{finds_moving}
use Rattle.watch_touched.proofs.UnconcernedCommands.{unconcerned_queries_match_on}
use Rattle.watch_concerns.specs.Since.{IsAfter, left_event, told_since}
use Rattle.watch_events.specs.Hits.{may_tell}
use Rattle.watch_events.specs.Told.{told_of_moves}
use Rattle.watch_stored.specs.Held.{Held, WasNow, is_compared, is_monitor, is_searched, is_taken_whole, is_told_locally, rows_before, rows_put, told_to}

pub monitor_is : (kind : StoredKind) → is_monitor kind ≡ true → kind ≡ Monitor
monitor_is Monitor e = refl
monitor_is Kept e = absurd (true≢false (sym e))
monitor_is OnAdd e = absurd (true≢false (sym e))
monitor_is OnRemove e = absurd (true≢false (sym e))
monitor_is OnSet e = absurd (true≢false (sym e))

-- ---- between equal rows no entity leaves or enters

none_missing : (xs ys : List ℕ) → ((x : ℕ) → list_any (λ y. y == x) xs ≡ true → list_any (λ y. y == x) ys ≡ true) → missing_from xs ys ≡ []
none_missing [] ys all = refl
none_missing (x ∷ xs) ys all =
    ap (λ b. cond (not b) (x ∷ missing_from xs ys) (missing_from xs ys)) (all x (or_left (x == x) (list_any (λ y. y == x) xs) (eq_itself x)))
    ∙ none_missing xs ys (λ e h. all e (or_right (x == e) (list_any (λ y. y == e) xs) h))

pub none_moved : (w : WorldState) (changed : Changed) (name : List ℕ) (q : Query) (old : List ℕ) → old ≡ matching (view_of w) q → told_since w changed name Monitor q old ≡ []
unfolding told_since
none_moved w changed name q old same =
    let now : List ℕ = matching (view_of w) q in
    let none : missing_from now now ≡ [] = none_missing now now (λ x h. h) in
    ap (λ es. map (left_event w changed name) (missing_from es now) ++ map (entity_event name Entered w) (missing_from now es)) same
    ∙ ap (λ es. map (left_event w changed name) es ++ map (entity_event name Entered w) es) none

module _ (w : WorldState) (changed : Changed) (h : Held) (was : WasNow w changed h) (compared : is_compared h ≡ true) where
  its_kind : h.kind ≡ Monitor
  its_kind = monitor_is h.kind (and_parts (is_monitor h.kind) (not (is_local h.query)) compared).0

  not_local : is_local h.query ≡ false
  not_local = not-true (is_local h.query) (and_parts (is_monitor h.kind) (not (is_local h.query)) compared).1

  -- what is held of one that is compared
  pub rows_were : h.these ≡ matching (view_before w changed) h.query
  rows_were = was its_kind not_local

  -- it is notified of who has left them and who has entered them
  pub told_of_compared : told_of_moves w changed h.name (missing_from h.these (matching (view_of w) h.query)) (missing_from (matching (view_of w) h.query) h.these) ≡ told_to w changed h
  unfolding told_since
  told_of_compared =
      sym (ap (λ k. told_since w changed h.name k h.query (rows_before w changed h)) its_kind
      ∙ ap (λ b. told_since w changed h.name Monitor h.query (if b then matching (view_before w changed) h.query else h.these)) not_local)

module _ (w : WorldState) (changed : Changed) (h : Held) (kept : IsWellFormed w) (after : IsAfter w changed) (was : WasNow w changed h)
    (compared : is_compared h ≡ true) (spared : is_concerned h.query changed ≡ false) where
  -- what is held is what would be put in its place
  pub rows_stay : h.these ≡ matching (view_of w) h.query
  rows_stay = rows_were w changed h was compared ∙ unconcerned_queries_match_on w changed h.query kept after spared

  pub nothing_told : told_to w changed h ≡ []
  nothing_told =
      ap (λ k. told_since w changed h.name k h.query (rows_before w changed h)) (its_kind w changed h was compared)
      ∙ ap (λ b. told_since w changed h.name Monitor h.query (if b then matching (view_before w changed) h.query else h.these)) (not_local w changed h was compared)
      ∙ none_moved w changed h.name h.query h.these rows_stay

-- ---- which rows are put, and which are searched

-- none of one that isn't searched
pub none_put : (w : WorldState) (changed : Changed) (h : Held) → is_searched changed h ≡ false → None ≡ rows_put w changed h
none_put w changed h spared = sym (ap (λ b. if b then Some (matching (view_of w) h.query) else None) spared)

-- and of one that is compared, where the command concerns its query
pub some_put : (w : WorldState) (changed : Changed) (h : Held) → is_compared h ≡ true → is_concerned h.query changed ≡ true → (these : List ℕ) → these ≡ matching (view_of w) h.query → Some these ≡ rows_put w changed h
some_put w changed h compared concerned these are =
    ap Some are ∙ sym (ap (λ b. if b then Some (matching (view_of w) h.query) else None) (λ i. compared i && concerned i))

pub isnt_searched : (changed : Changed) (h : Held) → is_compared h ≡ false → is_searched changed h ≡ false
isnt_searched changed h other = ap (λ b. b && is_concerned h.query changed) other

-- which isn't evaluated
pub spared_isnt_taken : (changed : Changed) (h : Held) → is_searched changed h ≡ false → is_taken_whole changed h ≡ true → ⊥
spared_isnt_taken changed h spared whole = true≢false (sym whole ∙ ap (λ b. b && not (finds_moving h.query changed)) spared)

-- nor of one in whose place no rows are put
pub unput_isnt_taken : (w : WorldState) (changed : Changed) (h : Held) → rows_put w changed h ≡ None → is_taken_whole changed h ≡ false
unput_isnt_taken w changed h none = by (is_searched changed h) refl
  where
    by : (b : Bool) → is_searched changed h ≡ b → is_taken_whole changed h ≡ false
    by false e = ap (λ b. b && not (finds_moving h.query changed)) e
    by true e = absurd (true≢false (ap is_some (sym (ap (λ b. if b then Some (matching (view_of w) h.query) else None) e) ∙ none)))

-- where it is evaluated, it can't be found who may have moved
pub taken_isnt_followed : (changed : Changed) (h : Held) → is_taken_whole changed h ≡ true → finds_moving h.query changed ≡ false
taken_isnt_followed changed h whole = not-true (finds_moving h.query changed) (and_parts (is_searched changed h) (not (finds_moving h.query changed)) whole).1

-- what may have no events isn't compared
pub untold_isnt : (changed : Changed) (h : Held) → may_tell changed h.kind h.query ≡ false → is_compared h ≡ false
untold_isnt changed h none = ap (λ b. b && not (is_local h.query)) (by h.kind none)
  where
    by : (kind : StoredKind) → may_tell changed kind h.query ≡ false → is_monitor kind ≡ false
    by Kept none = refl
    by Monitor none = absurd (true≢false none)
    by OnAdd none = refl
    by OnRemove none = refl
    by OnSet none = refl

-- one that is neither compared nor a local monitor is no monitor
pub neither_monitors : (h : Held) → is_compared h ≡ false → is_told_locally h ≡ false → is_monitor h.kind ≡ false
neither_monitors h other far = by (is_monitor h.kind) (is_local h.query) other far
  where
    by : (m l : Bool) → (m && not l) ≡ false → (m && l) ≡ false → m ≡ false
    by true true other far = absurd (true≢false far)
    by true false other far = absurd (true≢false other)
    by false l other far = refl
