-- The answers to the commands of a session.
use Rattle.std.specs.Prelude.{◌≡◌, ◌≢◌, ⊤, ℕ, List, length, max, ◌++◌, Option, Some, None, is_some, Result, Ok, Err, if◌then◌else◌}
use Rattle.std.specs.List.{list_any}
use Rattle.ecs_id.specs.declared.EntityId.{EntityId}
use Rattle.ecs_id.specs.Id.{IsIndex}
use Rattle.ecs_model.specs.steps.Outcomes.{Changed}
use Rattle.ecs_model.specs.declared.faults.CommandError.{CommandError}
use Rattle.ecs_model.specs.declared.faults.CommandError.TheVariants as world
use Rattle.ecs_model.specs.declared.faults.SessionRefusal.TheVariants.{EventsPending, OfWorld, UnknownQuery}
use Rattle.ecs_model.specs.declared.watches.StoredKind.TheVariants.{Kept}
use Rattle.ecs_model.specs.rows.Text.{rows_text}
use Rattle.ecs_model.specs.stored.Session.{SessionState, Answer, in_world, kept_query}
use Rattle.ecs_model.specs.stored.Watches.{is_told}
use Rattle.ecs_model.specs.World.{WorldState}
use Rattle.ecs_model.specs.steps.Step.{Command}
use Rattle.ecs_print.specs.Stops.{StopsWithin}
use Rattle.watch_stored.specs.Held.{Held}
use Rattle.ecs_observe.specs.Standing.{Standing, session_of}
use Rattle.script_streams.specs.declared.streams.Calls.{Calls}
use Rattle.script_streams.specs.Streams.{IsCalm, IsFaulty}
use Rattle.world_query.specs.Lines.{lines_of_rows}
use Rattle.world_query.specs.Sent.{HoldsOneLine, IsSent, StopsSending}
use Rattle.world_query.specs.declared.sending.SendError.TheVariants as send
use Rattle.ecs_observe.specs.declared.errors.SendRowsError.{SendRowsError}
use Rattle.ecs_observe.specs.declared.errors.SendRowsError.TheVariants as rows
use Rattle.ecs_observe.specs.declared.errors.SessionError.{SessionError}
use Rattle.ecs_observe.specs.declared.errors.SessionError.TheVariants.{Refused, Memory}
use Rattle.watch_stored.specs.declared.stored.StoredQuery.{StoredQuery}

-- the answer to a command of the world: none is carried out while events wait
abbrev pub carried_out : SessionState → Command → Answer
carried_out s c = if is_some s.waiting then Err EventsPending else in_world s (Ok c)

-- why the world did not carry out a command, as a session answers it
abbrev pub session_error : CommandError → SessionError
session_error (world.Refused reason) = Refused (OfWorld reason)
session_error world.Memory = Memory

-- a call answers as the session of the definitions does, and leaves the session that it says: an accepted command
-- answers the created entity. After a refusal the session is as before. After refused memory too, and that answer may
-- stand in place of any other
abbrev pub AnswersApply : Result (Option EntityId) SessionError → Answer → Standing → Standing → Type 0
AnswersApply (Ok born) applied old new = applied ≡ Ok (session_of new, born)
AnswersApply (Err (Refused reason)) applied old new = (applied ≡ Err reason) × (session_of new ≡ session_of old)
AnswersApply (Err Memory) applied old new = session_of new ≡ session_of old

-- what a command answers that creates an entity, and one that creates none
abbrev pub born : Result EntityId SessionError → Result (Option EntityId) SessionError
born (Ok entity) = Ok (Some entity)
born (Err error) = Err error

-- an entity was created, and its index is one that ids can have
abbrev pub IsBorn : Option EntityId → Type 0
IsBorn None = ⊥
IsBorn (Some entity) = IsIndex entity.index

abbrev pub none_born : {T : Type 0} → Result T SessionError → Result (Option EntityId) SessionError
none_born (Ok _) = Ok None
none_born (Err error) = Err error

-- what waits after an accepted command: its changes, if a stored query is notified of commands
abbrev pub awaited : List Held → Changed → Option Changed
awaited stored changed = if list_any (λ h. is_told h.kind) stored then Some changed else None

-- the answer to a command, from what the world answered, and what waits before and after it
abbrev pub AnswersCommand : List Held → Option Changed → Result Changed CommandError → Result (Option EntityId) SessionError → Option Changed → Type 0
AnswersCommand stored before (Ok changed) answer after = (answer ≡ Ok changed.born) × (after ≡ awaited stored changed)
AnswersCommand stored before (Err error) answer after = (answer ≡ Err (session_error error)) × (after ≡ before)

-- the rows of a kept query were appended, or a prefix of them where memory was refused; or no kept query has the name,
-- and nothing was appended
abbrev pub AnswersRows : {T : Type 0} → Result T SessionError → SessionState → List ℕ → List ℕ → List ℕ → Type 0
AnswersRows (Ok _) s name before after = (q : _) × (kept_query s name ≡ Ok q) × (after ≡ before ++ rows_text s.world q)
AnswersRows (Err (Refused reason)) s name before after = (kept_query s name ≡ Err reason) × (after ≡ before)
AnswersRows (Err Memory) s name before after = (q : _) × (kept_query s name ≡ Ok q) × StopsWithin before after (rows_text s.world q)

-- the rows of a kept query were appended, and a prefix of what may be sent was sent; or no kept query has the name, and
-- nothing was written or sent
abbrev pub SendsKept : {T : Type 0} → ℕ → Result T SendRowsError → SessionState → List ℕ → Option (List ℕ) → Option (List ℕ)
    → List ℕ → List ℕ → Type 0
SendsKept most (Ok _) s name old new before after = (q : _) × (kept_query s name ≡ Ok q) × IsSent old new before after (rows_text s.world q)
SendsKept most (Err (rows.Refused reason)) s name old new before after = (kept_query s name ≡ Err reason) × (after ≡ before) × (new ≡ old)
SendsKept most (Err (rows.Unsent send.Memory)) s name old new before after =
    (q : _) × (kept_query s name ≡ Ok q) × StopsSending ⊤ old new before after (rows_text s.world q)
SendsKept most (Err (rows.Unsent send.Write)) s name old new before after =
    (q : _) × (kept_query s name ≡ Ok q) × StopsSending ⊥ old new before after (rows_text s.world q)
    × HoldsOneLine (max most (length before)) (lines_of_rows s.world q) after

-- the same of a stored query that was found: it is a kept query, or nothing was written
abbrev pub SendsRows : {A T : Type 0} → ℕ → Result T SendRowsError → StoredQuery A → WorldState → Option (List ℕ) → Option (List ℕ)
    → List ℕ → List ℕ → Type 0
SendsRows most (Ok _) q w old new before after = (q.kind ≡ Kept) × IsSent old new before after (rows_text w (q.plan).query)
SendsRows most (Err (rows.Refused reason)) q w old new before after = (q.kind ≢ Kept) × (reason ≡ UnknownQuery) × (after ≡ before) × (new ≡ old)
SendsRows most (Err (rows.Unsent send.Memory)) q w old new before after =
    (q.kind ≡ Kept) × StopsSending ⊤ old new before after (rows_text w (q.plan).query)
SendsRows most (Err (rows.Unsent send.Write)) q w old new before after =
    (q.kind ≡ Kept) × StopsSending ⊥ old new before after (rows_text w (q.plan).query)
    × HoldsOneLine (max most (length before)) (lines_of_rows w (q.plan).query) after

-- if the calls of a writer were calm, they are faulty after a failed write, and calm after any other answer
abbrev pub FailsAtSend : {T : Type 0} → Calls → Result T SendRowsError → Calls → Type 0
FailsAtSend old answer new =
    IsCalm old → (answer ≡ Err (rows.Unsent send.Write) → IsFaulty new) × (¬ (answer ≡ Err (rows.Unsent send.Write)) → IsCalm new)
