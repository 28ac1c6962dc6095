-- Which stored queries' rows stay after a command, and which are put in their places.
use Rattle.std.specs.Prelude.{◌≡◌, Bool, true, false, ◌&&◌, ◌||◌, List, [], ◌∷◌, All, map, None, Some, if◌then◌else◌}
use Rattle.std.specs.List.{list_any}
use Rattle.std.proofs.Common.{refl}
use Rattle.std.proofs.lemmas.List.Elements.{All-head, All-tail}
use Rattle.ecs_model.specs.steps.Outcomes.{Changed}
use Rattle.ecs_model.specs.World.{WorldState}
use Rattle.ecs_model.specs.rows.View.{view_of}
use Rattle.ecs_model.specs.stored.Watches.{matching}
use Rattle.ecs_model.specs.steps.WellFormed.{IsWellFormed}
use Rattle.ecs_model.proofs.Reasons.{neither}
use Rattle.watch_touched.specs.Concerned.{is_concerned}
use Rattle.watch_concerns.specs.Since.{IsAfter}
use Rattle.watch_stored.specs.Held.{Held, WasNow, is_compared, is_searched, rows_put}
use Rattle.ecs_observe.specs.Standing.{with_rows, with_these}
use Rattle.watch_stored.proofs.StayingRows.{rows_stay}

-- a stored query after a command: if it is compared, with the entities of its rows as they are now
abbrev pub told_now : WorldState → Held → Held
told_now w h = record h { these = if is_compared h then matching (view_of w) h.query else h.these }

module _ (w : WorldState) (changed : Changed) (kept : IsWellFormed w) (after : IsAfter w changed) where
  one_put : (h : Held) → WasNow w changed h → with_these (rows_put w changed h) h ≡ told_now w h
  one_put h was = by (is_compared h) (is_concerned h.query changed) refl refl
    where
      by : (a b : Bool) → is_compared h ≡ a → is_concerned h.query changed ≡ b
          → with_these (if a && b then Some (matching (view_of w) h.query) else None) h ≡ record h { these = if a then matching (view_of w) h.query else h.these }
      by true true compared concerned = refl
      by true false compared spared =
          let same = rows_stay w changed h kept after was compared spared in
          λ j. record h { these = same j }
      by false b other concerned = refl

  pub with_rows_told : (hs : List Held) → All (WasNow w changed) hs → with_rows (map (rows_put w changed) hs) hs ≡ map (told_now w) hs
  with_rows_told [] was = refl
  with_rows_told (h ∷ hs) was =
      let first = one_put h (All-head (WasNow w changed) h hs was) in
      let rest = with_rows_told hs (All-tail (WasNow w changed) h hs was) in
      λ j. first j ∷ rest j

-- where none is compared, none is searched
pub none_searched : (changed : Changed) (hs : List Held) → list_any is_compared hs ≡ false → list_any (is_searched changed) hs ≡ false
none_searched changed [] none = refl
none_searched changed (h ∷ hs) none =
    let parts = neither (is_compared h) (list_any is_compared hs) none in
    let rest = none_searched changed hs parts.1 in
    λ j. (parts.0 j && is_concerned h.query changed) || rest j
