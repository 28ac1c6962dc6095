-- The commands of a session, as commands of the definitions.
use Rattle.std.specs.Prelude.{◌≡◌, Option, Some, None, Result, Ok, Err}
use Rattle.ecs_id.specs.declared.EntityId.{EntityId}
use Rattle.ecs_id.specs.Id.{Id}
use Rattle.ecs_model.specs.declared.faults.Refusal.{Refusal}
use Rattle.ecs_model.specs.declared.faults.SessionRefusal.{SessionRefusal}
use Rattle.ecs_model.specs.Orders.{EntityRef, IdRef, MakeFresh, MakeEntity, MakeComponent, AddTo, SetIn, RemoveFrom, DeleteOne}
use Rattle.ecs_model.specs.Orders.{WorldOrder, command_of, with_both}
use Rattle.ecs_model.specs.World.{WorldState}
use Rattle.ecs_model.specs.stored.Session.{InWorld, SessionOrder, SessionState, apply}
use Rattle.ecs_model.specs.stored.Session as session
use Rattle.ecs_model.specs.steps.Step as world
use Rattle.ecs_observe.specs.Answers.{carried_out}
use Rattle.ecs_observe.specs.Following.{ListsOneLess, ListsOneMore}
use Rattle.ecs_observe.specs.Standing.{Standing}
use Rattle.ecs_observe.specs.Storing.{CountsStored}
use Rattle.ecs_observe.specs.declared.errors.SessionError.{SessionError}
use Rattle.ecs_observe.specs.declared.applying.Answer.{Answer}
use Rattle.ecs_observe.specs.declared.applying.Answer.TheVariants.{Born, Done}
use Rattle.ecs_observe.specs.declared.applying.Command.{Command}
use Rattle.ecs_observe.specs.declared.applying.Command.TheVariants.{New, Entity, Component, Add, Set, Remove, Delete, Store, Drop}
use Rattle.ecs_model.specs.References.{seen_id, seen_reference}

-- the command of the definitions
abbrev pub order_of : {A : Type 0} → Command A → SessionOrder
order_of New = InWorld MakeFresh
order_of (Entity name) = InWorld (MakeEntity name.now)
order_of (Component name schema) = InWorld (MakeComponent name.now schema)
order_of (Add entity id) = InWorld (AddTo (seen_reference entity) (seen_id id))
order_of (Set entity id values) = InWorld (SetIn (seen_reference entity) (seen_id id) values.now)
order_of (Remove entity id) = InWorld (RemoveFrom (seen_reference entity) (seen_id id))
order_of (Delete entity) = InWorld (DeleteOne (seen_reference entity))
order_of (Store kind name text) = session.Store kind name.now text.now
order_of (Drop name) = session.Drop name.now

-- the created entity
abbrev pub born_of : Answer → Option EntityId
born_of (Born e) = Some e
born_of Done = None

abbrev pub answered : Result Answer SessionError → Result (Option EntityId) SessionError
answered (Ok answer) = Ok (born_of answer)
answered (Err error) = Err error

-- the entity and the id that references give, so that every command with them goes to the world; or the reason for
-- which every such command is refused
abbrev pub FindsBoth : WorldState → EntityRef → IdRef → Result (EntityId × Id) Refusal → Type 0
FindsBoth w entity id (Err reason) = (f : EntityId → Id → world.Command) → with_both w f entity id ≡ Err reason
FindsBoth w entity id (Ok both) = (f : EntityId → Id → world.Command) → with_both w f entity id ≡ Ok (f both.0 both.1)

-- the entity and the id were found, so the session carries out the command with them; or every such command is refused
-- for them
abbrev pub FindsIn : SessionState → EntityRef → IdRef → Result (EntityId × Id) SessionRefusal → Type 0
FindsIn s r i (Ok both) = (f : EntityId → Id → world.Command) (order : WorldOrder) → command_of s.world order ≡ with_both s.world f r i
    → carried_out s (f both.0 both.1) ≡ apply s (InWorld order)
FindsIn s r i (Err reason) = (f : EntityId → Id → world.Command) (order : WorldOrder) → command_of s.world order ≡ with_both s.world f r i
    → apply s (InWorld order) ≡ Err reason

-- the same for an entity that is to be deleted
abbrev pub FindsOne : SessionState → EntityRef → Result EntityId SessionRefusal → Type 0
FindsOne s r (Ok e) = carried_out s (world.Delete e) ≡ apply s (InWorld (DeleteOne r))
FindsOne s r (Err reason) = apply s (InWorld (DeleteOne r)) ≡ Err reason

-- what a command does to the lists of kept queries: a command of the world leaves them; storing or dropping a query
-- leaves the others, and the tables
abbrev pub ListsApply : {T E : Type 0} → SessionOrder → Result T E → Standing → Standing → Type 0
ListsApply (InWorld order) r old new = new.stored ≡ old.stored
ListsApply (session.Store kind n text) r old new = ListsOneMore r n old new × ((new.world).tables ≡ (old.world).tables)
ListsApply (session.Drop n) r old new = ListsOneLess r n old new × ((new.world).tables ≡ (old.world).tables)

-- how often monitors were evaluated
abbrev pub CountsApply : {T E : Type 0} → SessionOrder → Result T E → Standing → Standing → Type 0
CountsApply (InWorld order) r old new = new.compared ≡ old.compared
CountsApply (session.Store kind n text) r old new = CountsStored r kind text old new
CountsApply (session.Drop n) r old new = new.compared ≡ old.compared
