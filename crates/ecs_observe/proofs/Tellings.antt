-- What stored queries are notified of after a command, by what is held of them.
use Rattle.std.specs.Prelude.{◌≡◌, ℕ, Bool, true, false, ◌||◌, List, [], ◌∷◌, ◌++◌, All, map, flat_map, Option, None, Some, Result, Ok, if◌then◌else◌}
use Rattle.std.specs.List.{list_any}
use Rattle.std.proofs.Common.{refl, ap, sym, subst, ◌∙◌, ◌≢◌, true≢false}
use Rattle.std.proofs.lemmas.List.Elements.{All-cons, All-head, All-nil, All-tail}
use Rattle.std.specs.declared.string.String.{String}
use Rattle.ecs_id.specs.declared.EntityId.{EntityId}
use Rattle.ecs_model.specs.declared.faults.CommandError.{CommandError}
use Rattle.ecs_model.specs.declared.watches.StoredKind.{StoredKind}
use Rattle.ecs_model.specs.declared.watches.StoredKind.TheVariants.{Kept, Monitor, OnAdd, OnRemove, OnSet}
use Rattle.ecs_model.specs.steps.Outcomes.{Changed}
use Rattle.ecs_model.specs.World.{WorldState}
use Rattle.ecs_model.specs.rows.View.{view_of}
use Rattle.ecs_model.specs.stored.Watches.{is_told, is_watch, matching, told}
use Rattle.ecs_model.specs.steps.Step.{Command, step}
use Rattle.ecs_model.specs.steps.WellFormed.{IsWellFormed}
use Rattle.ecs_model.proofs.Reasons.{neither}
use Rattle.watch_concerns.specs.Since.{told_since}
use Rattle.ecs_observe.specs.Answers.{AnswersCommand}
use Rattle.ecs_observe.specs.Parts.{held_of}
use Rattle.watch_stored.specs.declared.stored.StoredQuery.{StoredQuery}
use Rattle.watch_stored.specs.Held.{Held, IsNow, rows_before, told_to}
use Rattle.ecs_observe.specs.Standing.{stored_of}
use Rattle.query_model.specs.Local.{is_local}
use Rattle.watch_touched.specs.Before.{view_before}
use Rattle.watch_touched.proofs.UnconcernedCommands.{queries_matched_before}
use Rattle.watch_concerns.proofs.EventsSince.{watches_are_told_since}

-- whether one is a watch is seen of what is held
pub any_watch : (hs : List Held) → list_any is_watch (map stored_of hs) ≡ list_any (λ h. is_told h.kind) hs
any_watch [] = refl
any_watch (h ∷ hs) = ap (λ b. is_told h.kind || b) (any_watch hs)

-- and of the values of a map
pub any_value : {A : Type 0} (es : List (String A × StoredQuery A)) → list_any (λ h. is_told h.kind) (map held_of es) ≡ list_any (λ query. is_told query.kind) (map (λ e. e.1) es)
any_value [] = refl
any_value (e ∷ es) = ap (λ b. is_told (e.1).kind || b) (any_value es)

-- what isn't notified of commands is no monitor
no_monitor : (kind : StoredKind) → is_told kind ≡ false → kind ≢ Monitor
no_monitor kind h e = true≢false (sym (ap is_told e) ∙ h)

-- so where none is notified of commands, nothing is asked of monitors
pub none_now : (w : WorldState) (hs : List Held) → list_any (λ h. is_told h.kind) hs ≡ false → All (IsNow w) hs
none_now w [] none = All-nil (IsNow w)
none_now w (h ∷ hs) none =
    let parts = neither (is_told h.kind) (list_any (λ (x : Held). is_told x.kind) hs) none in
    All-cons (IsNow w) h hs (λ e. absurd (no_monitor h.kind parts.0 e)) (none_now w hs parts.1)

-- only a monitor's events depend on the entities of its rows before
same_old : (v : WorldState) (changed : Changed) (kind : StoredKind) (h : Held) (rows old : List ℕ) → (kind ≡ Monitor → rows ≡ old)
    → told_since v changed h.name kind h.query old ≡ told_since v changed h.name kind h.query rows
unfolding told_since
same_old v changed Kept h rows old same = refl
same_old v changed Monitor h rows old same = ap (told_since v changed h.name Monitor h.query) (sym (same refl))
same_old v changed OnAdd h rows old same = refl
same_old v changed OnRemove h rows old same = refl
same_old v changed OnSet h rows old same = refl

module _ (w v : WorldState) (c : Command) (changed : Changed) (kept : IsWellFormed w) (stepped : step w c ≡ Ok (v, changed)) where
  -- the rows of a monitor before the command are held, or follow from what has changed
  before_is : (h : Held) → IsNow w h → h.kind ≡ Monitor → rows_before v changed h ≡ matching (view_of w) h.query
  before_is h now e = by (is_local h.query) refl
    where
      by : (b : Bool) → is_local h.query ≡ b → (if b then matching (view_before v changed) h.query else h.these) ≡ matching (view_of w) h.query
      by true l = queries_matched_before w v c changed h.query kept stepped
      by false l = now e l

  told_one : (h : Held) → IsNow w h → told w v changed (stored_of h) ≡ told_to v changed h
  told_one h now =
      watches_are_told_since w v c changed h.name h.kind h.query kept stepped
      ∙ same_old v changed h.kind h (rows_before v changed h) (matching (view_of w) h.query) (before_is h now)

  -- what all are notified of follows from what is held
  pub told_all : (hs : List Held) → All (IsNow w) hs → flat_map (told w v changed) (map stored_of hs) ≡ flat_map (told_to v changed) hs
  told_all [] now = refl
  told_all (h ∷ hs) now =
      ap (λ es. es ++ flat_map (told w v changed) (map stored_of hs)) (told_one h (All-head (IsNow w) h hs now))
      ∙ ap (λ es. told_to v changed h ++ es) (told_all hs (All-tail (IsNow w) h hs now))

-- what waits after an accepted command, by the values of a map
pub waits_after : {A : Type 0} (es : List (String A × StoredQuery A)) (before : Option Changed) (done : Result Changed CommandError) (changed : Changed) (born : Option EntityId) (watched : Bool) (waiting : Option Changed)
    → done ≡ Ok changed → born ≡ changed.born → watched ≡ list_any (λ query. is_told query.kind) (map (λ e. e.1) es) → waiting ≡ (if watched then Some changed else None)
    → AnswersCommand (map held_of es) before done (Ok born) waiting
waits_after es before done changed born watched waiting is same any so =
    let answered : AnswersCommand (map held_of es) before (Ok changed) (Ok born) waiting
    = (ap Ok same, so ∙ ap (λ b. if b then Some changed else None) (any ∙ sym (any_value es))) in
    subst (λ d. AnswersCommand (map held_of es) before d (Ok born) waiting) (sym is) answered
