-- A stepper sets a column as its session does.
use Rattle.std.proofs.Common.{◌≡◌, ℕ, false, List, [], ◌∷◌, Option, Some, None, Result, Ok, Err, map, refl, sym, ◌∙◌, ap, subst}
use Rattle.std.specs.Prelude.{◌||◌, OnErr, OnOk, is_some, option_map, if◌then◌else◌}
use Rattle.std.specs.List.{list_any}
use Rattle.ecs_id.specs.Id.{Id}
use Rattle.ecs_id.specs.declared.TableKey.{TableKey}
use Rattle.ecs_model.specs.World.{type_of_id}
use Rattle.ecs_model.specs.stored.Session.{SessionState}
use Rattle.ecs_observe.specs.Columns.{AreSetIn, IsColumnSetIn, set_column_error}
use Rattle.ecs_observe.specs.Standing.{Standing, session_of, stored_of}
use Rattle.ecs_observe.specs.declared.errors.SetColumnError.{SetColumnError}
use Rattle.ecs_observe.specs.declared.errors.SetColumnError.TheVariants.{EventsPending, Watched, OfWorld}
use Rattle.ecs_world.specs.Columns.{column_fault}
use Rattle.table_store.specs.Store.{Store, table_at}
use Rattle.watch_events.specs.Hits.{may_tell_set}
use Rattle.watch_stored.specs.Held.{Held}
use Rattle.world_script.specs.Commanding.{SetsColumn, column_error}
use Rattle.world_script.specs.Stepping.{StepperState}
use Rattle.world_script.proofs.CommandEvents.{world_of}

-- which stored queries are told is the same in the session of the definitions
told_alike : (i : Id) (hs : List Held) → list_any (λ q. may_tell_set i q.kind q.query) (map stored_of hs) ≡ list_any (λ h. may_tell_set i h.kind h.query) hs
told_alike i [] = refl
told_alike i (h ∷ hs) = ap (λ b. may_tell_set i h.kind h.query || b) (told_alike i hs)

-- why a column isn't set, by what is seen of a session
abbrev error_in : TableKey → Id → ℕ → SessionState → Store → Option SetColumnError
error_in k i n s tables =
    if list_any (λ q. may_tell_set i q.kind q.query) s.stored then Some Watched
    else option_map OfWorld (column_fault (record { state = s.world; tables = tables }) k i n)

in_session : (s : Standing) (k : TableKey) (i : Id) (n : ℕ) → s.waiting ≡ None → error_in k i n (session_of s) (s.world).tables ≡ set_column_error s k i n
unfolding session_of
in_session s k i n none =
    let of_world : Option SetColumnError = option_map OfWorld (column_fault s.world k i n) in
    let told = list_any (λ h. may_tell_set i h.kind h.query) s.stored in
    ap (λ b. if b then Some Watched else of_world) (told_alike i s.stored)
    ∙ sym (ap (λ o. if is_some o then Some EventsPending else if told then Some Watched else of_world) none)

-- a stepper that isn't broken refuses as its session does
pub column_errors : (seen : StepperState) (s : Standing) (k : TableKey) (i : Id) (n : ℕ) → (seen.stepping).broken ≡ false → (seen.stepping).session ≡ session_of s
    → seen.tables ≡ (s.world).tables → s.waiting ≡ None → column_error seen k i n ≡ set_column_error s k i n
column_errors seen s k i n whole session tables none =
    ap (λ b. if b then Some EventsPending else error_in k i n (seen.stepping).session seen.tables) whole
    ∙ ap (λ u. error_in k i n u seen.tables) session ∙ ap (error_in k i n (session_of s)) tables ∙ in_session s k i n none

pub on_ok : {T E P Q : Type 0} (r : Result T E) → (P → Q) → OnOk r P → OnOk r Q
on_ok (Ok x) f p = f p
on_ok (Err e) f p = tt

-- what its session has set, it has
sets : (s t : Standing) (old new : StepperState) (k : TableKey) (i : Id) (bytes : List ℕ) → (old.stepping).session ≡ session_of s → old.tables ≡ (s.world).tables
    → (new.stepping).session ≡ session_of t → new.stepping ≡ record old.stepping { session = (new.stepping).session } → IsColumnSetIn s k i bytes (session_of t)
    → SetsColumn k i bytes old new
sets s t old new k i bytes session tables is rest set = record {
  table = set.0;
  schema = set.1;
  stands = ap (λ x. table_at x k) tables ∙ set.2;
  typed = ap (λ (u : SessionState). type_of_id u.world i) session ∙ ap (λ w. type_of_id w i) (world_of s) ∙ set.3;
  set = subst (λ u. AreSetIn i set.1 (set.0).entities bytes u (new.stepping).session) (sym session) (subst (λ u. AreSetIn i set.1 (set.0).entities bytes (session_of s) u) (sym is) set.4);
  rest = rest;
}

-- the same of what is seen of a stepper
pub sets_seen : (s t : Standing) (seen old new : StepperState) (k : TableKey) (i : Id) (bytes : List ℕ) → old ≡ seen → (old.stepping).session ≡ session_of s
    → old.tables ≡ (s.world).tables → (new.stepping).session ≡ session_of t → new.stepping ≡ record old.stepping { session = (new.stepping).session }
    → IsColumnSetIn s k i bytes (session_of t) → SetsColumn k i bytes seen new
sets_seen s t seen old new k i bytes view session tables is rest set = subst (λ o. SetsColumn k i bytes o new) view (sets s t old new k i bytes session tables is rest set)
