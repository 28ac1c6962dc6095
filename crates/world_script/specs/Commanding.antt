-- Commands that a program gives between lines.
use Rattle.std.specs.Prelude.{◌≡◌, ◌⊎◌, ℕ, Bool, List, ◌++◌, flat_map, true, Option, Some, option_map, Result, Ok, Err, if◌then◌else◌}
use Rattle.std.specs.List.{list_any}
use Rattle.ecs_id.specs.declared.EntityId.{EntityId}
use Rattle.ecs_id.specs.declared.TableKey.{TableKey}
use Rattle.ecs_id.specs.Id.{Id}
use Rattle.ecs_model.specs.Schema.{Schema}
use Rattle.ecs_model.specs.World.{type_of_id}
use Rattle.ecs_model.specs.steps.Step.{Command}
use Rattle.ecs_model.specs.stored.Session.{SessionState, after_events, events, in_world}
use Rattle.ecs_model.specs.stored.Watches.{event_text}
use Rattle.ecs_observe.specs.declared.errors.SessionError.{SessionError}
use Rattle.ecs_observe.specs.declared.errors.SessionError.TheVariants.{Memory, Refused}
use Rattle.ecs_observe.specs.Columns.{AreSetIn}
use Rattle.ecs_observe.specs.declared.errors.SetColumnError.{SetColumnError}
use Rattle.ecs_observe.specs.declared.errors.SetColumnError.TheVariants.{EventsPending, Watched, OfWorld}
use Rattle.ecs_table.specs.Archetype.{Archetype}
use Rattle.ecs_world.specs.Columns.{column_fault}
use Rattle.table_store.specs.Store.{table_at}
use Rattle.watch_events.specs.Hits.{may_tell_set}
use Rattle.world_script.specs.Stepping.{StepperState, Stepping, standing_of}

-- after a command that left this session: its events were printed, and none wait
abbrev pub told : Stepping → SessionState → Stepping
told s left = record s { session = after_events left; printed = s.printed ++ flat_map event_text (events left) }

-- a command was carried out or refused as in the session of the definitions. Where memory was refused, nothing was done,
-- or what was done was not printed and no line or command is run any more
abbrev pub Commands : Command → Stepping → Stepping → Result (Option EntityId) SessionError → Type 0
Commands command old new (Ok born) =
    (left : SessionState) × (in_world old.session (Ok command) ≡ Ok (left, born)) × (new ≡ told old left)
Commands command old new (Err (Refused reason)) = (in_world old.session (Ok command) ≡ Err reason) × (new ≡ old)
Commands command old new (Err Memory) = (new ≡ old) ⊎ ((new.broken ≡ true) × (new.printed ≡ old.printed))

-- the events of a command that was carried out were printed, or memory was refused for them
abbrev pub TellsPrinted : {T : Type 0} → Result T SessionError → Result T SessionError → SessionState → SessionState
    → List ℕ → List ℕ → Bool → Bool → Type 0
TellsPrinted (Ok x) (Ok y) old new before after was is =
    (y ≡ x) × (new ≡ after_events old) × (after ≡ before ++ flat_map event_text (events old)) × (is ≡ was)
TellsPrinted (Ok x) (Err error) old new before after was is = (error ≡ Memory) × (is ≡ true) × (after ≡ before)
TellsPrinted (Err error) (Ok y) old new before after was is = ⊥
TellsPrinted (Err error) (Err told) old new before after was is =
    (told ≡ error) × (new ≡ old) × (after ≡ before) × (is ≡ was)

-- one `set` for each entity of a table in turn, to the values in the bytes, led from one session to the other: each was
-- accepted, and none was an event
pub record SetsColumn (k : TableKey) (i : Id) (bytes : List ℕ) (old new : StepperState) : Type 0 where
  pub table : Archetype
  pub schema : Schema
  pub stands : table_at old.tables k ≡ Some table
  pub typed : type_of_id ((old.stepping).session).world i ≡ Some schema
  pub set : AreSetIn i schema table.entities bytes (old.stepping).session (new.stepping).session
  pub rest : new.stepping ≡ record old.stepping { session = (new.stepping).session }

-- why the values of so many bytes aren't set: memory was refused in a line or command before, so that events may wait; a
-- stored query observes that values of the id are set; or the world refuses it
abbrev pub column_error : StepperState → TableKey → Id → ℕ → Option SetColumnError
column_error s k i n =
    if (s.stepping).broken then Some EventsPending
    else if list_any (λ q. may_tell_set i q.kind q.query) ((s.stepping).session).stored then Some Watched
    else option_map OfWorld (column_fault (standing_of s) k i n)
