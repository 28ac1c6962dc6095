-- What the calls of commands do to what the handle holds.
use Rattle.std.specs.Prelude.{◌≡◌, ◌⊎◌, ℕ, ◌+◌, ◌*◌, ◌^◌, ◌<◌, List, length, ℤ, IsTrue, IsUtf8, Option, None, Some, Result, Ok, Err}
use Rattle.ecs_id.specs.declared.EntityId.{EntityId}
use Rattle.ecs_id.specs.Id.{Id, IsPacking, packed}
use Rattle.ecs_model.specs.World.{is_alive, named}
use Rattle.ecs_model.specs.steps.Step.{Command, Entity, SetValue}
use Rattle.ecs_observe.specs.declared.errors.SessionError.{SessionError}
use Rattle.world_script.specs.Commanding.{Commands}
use Rattle.world_script.specs.Stepping.{Stepping}
use Rattle.flecsq_c.specs.Statuses.{command_status, number, ok, unknown}

-- the number of an entity: its index in the low 32 bits, its generation above
abbrev pub entity_number : EntityId → ℕ
entity_number e = e.index + e.generation * 2 ^ 32

-- a command was carried out or refused, and the status says which
pub record Answers (command : Command) (old new : Stepping) (status : ℤ) : Type 0 where
  pub answer : Result (Option EntityId) SessionError
  pub told : status ≡ command_status answer
  pub done : Commands command old new answer

-- a command with the entity of this number, or there is no such entity
abbrev pub OnEntity : (EntityId → Command) → ℕ → Stepping → Stepping → ℤ → Type 0
OnEntity command n old new status =
    ((e : EntityId) × (entity_number e ≡ n) × Answers (command e) old new status)
    ⊎ (¬ (n < 2 ^ 48) × (new ≡ old) × (status ≡ unknown))

-- a command with the entity and the id of these numbers, or one of them is of none
abbrev pub OnFact : (EntityId → Id → Command) → ℕ → ℕ → Stepping → Stepping → ℤ → Type 0
OnFact command n i old new status =
    ((e : EntityId) × (id : Id) × (entity_number e ≡ n) × (packed id ≡ i) × Answers (command e id) old new status)
    ⊎ (¬ ((n < 2 ^ 48) × IsPacking i) × (new ≡ old) × (status ≡ unknown))

-- so are values set, if they are as many as a component may have
abbrev pub Sets : ℕ → ℕ → List ℤ → Stepping → Stepping → ℤ → Type 0
Sets n i values old new status =
    OnFact (λ e id. SetValue e id values) n i old new status ⊎ ((8 < length values) × (new ≡ old) × (status ≡ number))

-- the number of the entity that was created was put
abbrev pub Puts : Result (Option EntityId) SessionError → ℕ → ℕ → Type 0
Puts (Ok (Some e)) before after = after ≡ entity_number e
Puts (Ok None) before after = after ≡ before
Puts (Err error) before after = after ≡ before

pub record Creates (command : Command) (before after : ℕ) (old new : Stepping) (status : ℤ) : Type 0 where
  pub answer : Result (Option EntityId) SessionError
  pub told : status ≡ command_status answer
  pub done : Commands command old new answer
  pub put : Puts answer before after

-- so was that of an entity with a name, if the name is text
abbrev pub CreatesNamed : List ℕ → ℕ → ℕ → Stepping → Stepping → ℤ → Type 0
CreatesNamed name before after old new status =
    Creates (Entity name) before after old new status
    ⊎ (¬ IsUtf8 name × (after ≡ before) × (new ≡ old) × (status ≡ unknown))

-- the live entity of a name was put, or there is none
pub record Finds (name : List ℕ) (before after : ℕ) (old new : Stepping) (status : ℤ) : Type 0 where
  pub kept : new ≡ old
  pub found :
      ((e : EntityId) × (status ≡ ok) × (after ≡ entity_number e) × (named (old.session).world name ≡ Some e.index)
      × IsTrue (is_alive (old.session).world e))
      ⊎ ((status ≡ unknown) × (after ≡ before) × (IsUtf8 name → named (old.session).world name ≡ None))
