-- What is printed of a line that a session has answered.
use Rattle.std.specs.Prelude.{◌≡◌, ℕ, Bool, true, false, List, [], ◌++◌, flat_map, Option, Result, Ok, Err}
use Rattle.ecs_id.specs.declared.EntityId.{EntityId}
use Rattle.ecs_model.specs.Orders.{MakeFresh}
use Rattle.ecs_model.specs.Output.{own_text, refused_text}
use Rattle.ecs_model.specs.stored.Refusal.{session_refusal_text}
use Rattle.ecs_model.specs.stored.Session.{SessionState, InWorld, after_events, events}
use Rattle.ecs_model.specs.stored.Watches.{event_text}
use Rattle.ecs_observe.specs.declared.errors.SessionError.{SessionError}
use Rattle.ecs_observe.specs.declared.errors.SessionError.TheVariants.{Refused, Memory}

-- a refusal was printed to the output
abbrev pub TellsRefusal : ℕ → List ℕ → List ℕ → List ℕ → Bool → Type 0
TellsRefusal n kind before after refused = (after ≡ before ++ refused_text n kind) × (refused ≡ true)

-- why a session refused a call was printed
abbrev pub TellsError : SessionError → ℕ → List ℕ → List ℕ → Bool → Type 0
TellsError (Refused reason) n before after refused = TellsRefusal n (session_refusal_text reason) before after refused
TellsError Memory n before after refused = ⊥

-- after what an accepted command prints itself, the events that wait were printed, and none wait any more
pub record TellsAccepted (own : List ℕ) (old new : SessionState) (before after : List ℕ) (refused : Bool) : Type 0 where
  pub session_left : new ≡ after_events old
  pub printed : after ≡ before ++ (own ++ flat_map event_text (events old))
  pub answered : refused ≡ false

-- the answer to a command was printed: its events where it was accepted, or its refusal
abbrev pub TellsAnswer : {T : Type 0} → Result T SessionError → ℕ → SessionState → SessionState → List ℕ → List ℕ → Bool → Type 0
TellsAnswer (Ok _) n old new before after refused = TellsAccepted [] old new before after refused
TellsAnswer (Err error) n old new before after refused = TellsError error n before after refused × (new ≡ old)

-- the answer to `new` was printed: the handle of the entity born and the events, or its refusal
abbrev pub TellsBorn : Result (Option EntityId) SessionError → ℕ → SessionState → SessionState → List ℕ → List ℕ → Bool → Type 0
TellsBorn (Ok born) n old new before after refused = TellsAccepted (own_text (InWorld MakeFresh) born) old new before after refused
TellsBorn (Err error) n old new before after refused = TellsAnswer {T = Option EntityId} (Err error) n old new before after refused
