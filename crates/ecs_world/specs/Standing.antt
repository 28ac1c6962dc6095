-- What is seen of a world: its state, and the tables that stand.
use Rattle.std.specs.Prelude.{◌≡◌, ℕ, Result, Ok, Err}
use Rattle.ecs_id.specs.declared.EntityId.{EntityId}
use Rattle.ecs_model.specs.declared.faults.Refusal.{Refusal}
use Rattle.ecs_model.specs.World.{WorldState, is_alive}
use Rattle.entity_index.specs.Sizes.{live_size}
use Rattle.table_store.specs.Store.{Store}
use Rattle.ecs_archetypes.specs.Holdings.{held_at, is_settled}
use Rattle.ecs_archetypes.specs.Housing.{Housing, holdings_of}
use Rattle.ecs_archetypes.specs.Linked.{Linked, ids_at_index, indexes}
use Rattle.rel_traits.specs.Sees.{Sees}
use Rattle.ecs_world.specs.State.{AreFactsOf}

pub record Standing : Type 0 where
  pub state : WorldState
  -- in which tables entities stand is no part of the state
  pub tables : Store

-- the entities of a world in its tables: those that live stand there, and each holds its facts there
pub record IsGraphOf (w : Standing) (g : Housing) : Type 0 where
  pub tables : g.tables ≡ w.tables
  pub live : (holdings_of g).live ≡ (w.state).live
  pub settled : (e : EntityId) → is_settled (holdings_of g) e ≡ is_alive w.state e
  pub facts : (e : ℕ) → AreFactsOf w.state e (held_at (holdings_of g) e)

-- what searches along relationships see of a world: its live entities with their ids, and its tables
pub record IsLinksOf (w : Standing) (l : Linked) : Type 0 where
  pub sees : Sees w.state (indexes l) (ids_at_index l)
  pub tables : (l.housing).tables ≡ w.tables
  -- the greatest live index plus 1
  pub size : l.size ≡ live_size (w.state).live

-- a call answers as the definition: it leaves the definition's state, and a refusal leaves the state as it was
abbrev pub AnswersPin : {T : Type 0} → Result T Refusal → Result WorldState Refusal → WorldState → WorldState → Type 0
AnswersPin (Ok _) pinned old new = pinned ≡ Ok new
AnswersPin (Err reason) pinned old new = (pinned ≡ Err reason) × (new ≡ old)
