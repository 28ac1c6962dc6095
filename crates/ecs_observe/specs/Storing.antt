-- How a new stored query is judged, and what is held of it.
use Rattle.std.specs.Prelude.{◌≡◌, ⊤, ℕ, List, [], ◌∷◌, ◌++◌, Option, Some, is_some, Result, Ok, Err, if◌then◌else◌}
use Rattle.query_model.specs.Query.{Query}
use Rattle.query_model.specs.declared.faults.Fault.{Fault}
use Rattle.ecs_model.specs.declared.faults.SessionRefusal.{SessionRefusal}
use Rattle.ecs_model.specs.declared.faults.SessionRefusal.TheVariants.{EventsPending, Faulty}
use Rattle.ecs_model.specs.declared.watches.StoredKind.{StoredKind}
use Rattle.ecs_model.specs.Query.{query_of}
use Rattle.ecs_model.specs.World.{WorldState}
use Rattle.ecs_model.specs.Refusal.{first_reason}
use Rattle.ecs_model.specs.stored.Session.{SessionState, pinned_by, store_reasons, unpinned_by, watched_if_read}
use Rattle.ecs_model.specs.stored.Watches.{watched}
use Rattle.ecs_world.specs.Standing as world
use Rattle.watch_stored.specs.Held.{Held, counted_for}
use Rattle.ecs_observe.specs.Standing.{Standing}
use Rattle.ecs_observe.specs.declared.errors.SessionError.{SessionError}
use Rattle.ecs_observe.specs.declared.errors.SessionError.TheVariants.{Refused, Memory}

-- the first reason against a new stored query, whatever its text
abbrev pub store_refusal : SessionState → List ℕ → Option SessionRefusal
store_refusal s n = if is_some s.waiting then Some EventsPending else first_reason (store_reasons s n)

-- the query of a text for a stored query of a kind, or the first fault of the text or of its query for this kind; where
-- memory is refused, that answer may stand in place of either
abbrev pub AnswersWatched : WorldState → StoredKind → List ℕ → Result Query SessionError → Type 0
AnswersWatched w kind text (Ok q) = (query_of w text ≡ Ok q) × (watched kind q ≡ Ok q)
AnswersWatched w kind text (Err (Refused reason)) = (f : Fault) × (reason ≡ Faulty f) × (watched_if_read kind (query_of w text) ≡ Err f)
AnswersWatched w kind text (Err Memory) = ⊤

-- the evaluation for a new stored query of a kind with this text is counted; for a refused one there is none
abbrev pub CountsStored : {T E : Type 0} → Result T E → StoredKind → List ℕ → Standing → Standing → Type 0
CountsStored (Ok _) kind text old new = (q : Query) → query_of (old.world).state text ≡ Ok q → new.compared ≡ counted_for kind q old.compared
CountsStored (Err _) kind text old new = new.compared ≡ old.compared

-- a world whose counts are those with one more stored query
abbrev pub with_pinned : world.Standing → Query → world.Standing
with_pinned w q = record w { state = pinned_by w.state q.mentions }

abbrev pub with_unpinned : world.Standing → Query → world.Standing
with_unpinned w q = record w { state = unpinned_by w.state q.mentions }

-- a session with one more stored query, after the others
abbrev pub with_held : Standing → Held → Standing
with_held s h = record s { world = with_pinned s.world h.query; stored = s.stored ++ h ∷ [] }
