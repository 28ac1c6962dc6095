-- What monitors of local queries are notified of.
use Rattle.std.specs.Prelude.{◌≡◌, ℕ, true, false, ◌&&◌, List, if◌then◌else◌}
use Rattle.std.specs.List.Sorted.{IsStrictlyIncreasing}
use Rattle.std.proofs.Common.{refl, sym, ap, subst, ◌∙◌, true≢false}
use Rattle.std.proofs.lemmas.Bool.{and_parts}
use Rattle.ecs_model.specs.steps.Outcomes.{Changed}
use Rattle.ecs_model.specs.World.{WorldState}
use Rattle.ecs_model.specs.declared.watches.StoredKind.{StoredKind}
use Rattle.ecs_model.specs.declared.watches.StoredKind.TheVariants.{Kept, Monitor, OnAdd, OnRemove, OnSet}
use Rattle.ecs_model.specs.rows.View.{View, view_of}
use Rattle.ecs_model.specs.stored.Watches.{matching, missing_from}
use Rattle.ecs_model.specs.steps.WellFormed.{IsWellFormed}
use Rattle.query_model.specs.Local.{is_local}
use Rattle.query_model.specs.Query.{Query}
use Rattle.query_local.specs.Touched.{AreTouched, Touch}
use Rattle.query_answers.proofs.Worlds.{worlds_ascend}
use Rattle.watch_touched.specs.Before.{view_before}
use Rattle.watch_touched.proofs.WorldBefore.{shows_world_before}
use Rattle.watch_concerns.specs.Since.{IsAfter, told_since}
use Rattle.watch_events.specs.Told.{told_of_moves}
use Rattle.watch_stored.specs.Held.{Held, is_monitor, is_told_locally, rows_before, told_to}
use Rattle.watch_stored.proofs.StayingRows.{monitor_is}

pub is_local_query : (h : Held) → is_told_locally h ≡ true → is_local h.query ≡ true
is_local_query h e = (and_parts (is_monitor h.kind) (is_local h.query) e).1

-- a monitor that isn't one of a local query has another query
pub isnt_local : (h : Held) → is_told_locally h ≡ false → h.kind ≡ Monitor → is_local h.query ≡ false
isnt_local h e m = ap (λ k. is_monitor k && is_local h.query) (sym m) ∙ e

-- what a monitor of a local query is notified of: who has left what queries saw before the command, and who has entered what they see now
module _ (w : WorldState) (changed : Changed) (h : Held) (locally : is_told_locally h ≡ true) where
  abbrev before_rows : List ℕ
  before_rows = matching (view_before w changed) h.query

  abbrev now_rows : List ℕ
  now_rows = matching (view_of w) h.query

  pub told_of_local : told_to w changed h ≡ told_of_moves w changed h.name (missing_from before_rows now_rows) (missing_from now_rows before_rows)
  unfolding told_since
  told_of_local =
      ap (λ k. told_since w changed h.name k h.query (rows_before w changed h)) (monitor_is h.kind (and_parts (is_monitor h.kind) (is_local h.query) locally).0)
      ∙ ap (λ b. told_since w changed h.name Monitor h.query (if b then before_rows else h.these)) (is_local_query h locally)

-- the events of what isn't a monitor don't depend on the rows before
pub same_told : (w : WorldState) (changed : Changed) (name : List ℕ) (q : Query) (k : StoredKind) (a b : List ℕ) → is_monitor k ≡ false → told_since w changed name k q a ≡ told_since w changed name k q b
unfolding told_since
same_told w changed name q Kept a b o = refl
same_told w changed name q Monitor a b o = absurd (true≢false o)
same_told w changed name q OnAdd a b o = refl
same_told w changed name q OnRemove a b o = refl
same_told w changed name q OnSet a b o = refl

-- of another monitor, and of an observer, the rows before are what is held
module _ (w : WorldState) (changed : Changed) (h : Held) (not_locally : is_told_locally h ≡ false) where
  of_monitor : h.kind ≡ Monitor → told_to w changed h ≡ told_since w changed h.name h.kind h.query h.these
  of_monitor m = ap (λ b. told_since w changed h.name h.kind h.query (if b then matching (view_before w changed) h.query else h.these)) (isnt_local h not_locally m)

-- both views ascend
pub before_ascends : (w : WorldState) (changed : Changed) → IsAfter w changed → IsStrictlyIncreasing (view_before w changed).entities
before_ascends w changed after =
    subst IsStrictlyIncreasing (sym (shows_world_before after.before w after.command changed after.kept after.stepped).0) (worlds_ascend after.before after.kept)

-- so it is notified of who has left and who has entered by the touched entities
module _ (w : WorldState) (changed : Changed) (h : Held) (locally : is_told_locally h ≡ true) (kept : IsWellFormed w) (after : IsAfter w changed)
    (touched : List Touch) (exactly : AreTouched touched (view_before w changed) (view_of w)) where
  abbrev pub TellsMoves : List ℕ → (View → View → List ℕ) → Type 0
  TellsMoves moved f = (a b : View) → IsStrictlyIncreasing a.entities → IsStrictlyIncreasing b.entities → AreTouched touched a b → moved ≡ f a b

  moved_is : (moved : List ℕ) (f : View → View → List ℕ) → TellsMoves moved f → moved ≡ f (view_before w changed) (view_of w)
  moved_is moved f told = told (view_before w changed) (view_of w) (before_ascends w changed after) (worlds_ascend w kept) exactly

  pub told_locally : (name left entered : List ℕ) → name ≡ h.name → TellsMoves left (λ a b. missing_from (matching a h.query) (matching b h.query))
      → TellsMoves entered (λ a b. missing_from (matching b h.query) (matching a h.query)) → told_of_moves w changed name left entered ≡ told_to w changed h
  told_locally name left entered named l e =
      (λ i. told_of_moves w changed (named i) (moved_is left (λ a b. missing_from (matching a h.query) (matching b h.query)) l i) (moved_is entered (λ a b. missing_from (matching b h.query) (matching a h.query)) e i))
      ∙ sym (told_of_local w changed h locally)
