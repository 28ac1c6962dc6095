-- The world's commands with entities by name or by handle, and what they mean in a world.
use Rattle.std.specs.Prelude.{ℕ, Bool, false, not, List, [], ◌∷◌, ℤ, Option, Some, None, is_none, option_map, option_and_then, Result, Ok, Err, if◌then◌else◌}
use Rattle.std.specs.List.{list_any}
use Rattle.std.specs.Option.{option_map_or}
use Rattle.std.specs.Result.{result_map_both}
use Rattle.ecs_id.specs.declared.EntityId.{EntityId}
use Rattle.ecs_id.specs.Id.{Id, plain, pair}
use Rattle.ecs_model.specs.Schema.{Schema}
use Rattle.ecs_model.specs.World.{WorldState, is_alive, entity_at, named}
use Rattle.ecs_model.specs.declared.faults.Refusal.{Refusal}
use Rattle.ecs_model.specs.declared.faults.Refusal.TheVariants.{Dead, UnknownName}
use Rattle.ecs_model.specs.Refusal.{first_reason}
use Rattle.ecs_model.specs.steps.Step.{Command, Fresh, Entity, Component, Add, SetValue, Remove, Delete}

-- an entity by its name, or by its index and its generation
pub data EntityRef : Type 0 where
  by_name : List ℕ → EntityRef
  by_handle : ℕ → ℕ → EntityRef

-- an id by references: that of a component or tag, or that of a relationship and a target
pub data IdRef : Type 0 where
  plain_of : EntityRef → IdRef
  pair_of : EntityRef → EntityRef → IdRef

-- the commands of a world
pub data WorldOrder : Type 0 where
  MakeFresh : WorldOrder
  MakeEntity : List ℕ → WorldOrder
  MakeComponent : List ℕ → Schema → WorldOrder
  AddTo : EntityRef → IdRef → WorldOrder
  SetIn : EntityRef → IdRef → List ℤ → WorldOrder
  RemoveFrom : EntityRef → IdRef → WorldOrder
  DeleteOne : EntityRef → WorldOrder

-- the references in an id
abbrev pub refs_of_id : IdRef → List EntityRef
refs_of_id (plain_of r) = r ∷ []
refs_of_id (pair_of r t) = r ∷ t ∷ []

-- the entity that a handle means
abbrev pub handle : ℕ → ℕ → EntityId
handle i g = record { index = i; generation = g }

module _ (w : WorldState) where
  -- the live entity of a reference
  abbrev pub found : EntityRef → Option EntityId
  found (by_name n) = option_and_then (entity_at w) (named w n)
  found (by_handle i g) = if is_alive w (handle i g) then Some (handle i g) else None

  -- whether a reference is the handle of no live entity
  abbrev pub is_dead_handle : EntityRef → Bool
  is_dead_handle (by_name n) = false
  is_dead_handle (by_handle i g) = not (is_alive w (handle i g))

  -- the reasons against references: a dead handle comes before a name that names nothing
  abbrev pub ref_reasons : List EntityRef → List (Bool × Refusal)
  ref_reasons refs = (list_any is_dead_handle refs, Dead) ∷ (list_any (λ r. is_none (found r)) refs, UnknownName) ∷ []

  -- the entity of a reference
  abbrev pub entity_found : EntityRef → Result EntityId Refusal
  entity_found r = option_map_or Err (first_reason (ref_reasons (r ∷ []))) (option_map_or Ok (found r) (Err Dead))

  -- the id of a reference
  abbrev pub id_found : IdRef → Option Id
  id_found (plain_of r) = option_map (λ e. plain e.index) (found r)
  id_found (pair_of r t) = option_and_then (λ e. option_map (λ f. pair e.index f.index) (found t)) (found r)

  -- what f makes of an entity and an id
  abbrev pub with_both : {A : Type 0} → (EntityId → Id → A) → EntityRef → IdRef → Result A Refusal
  with_both f r i =
      option_map_or Err (first_reason (ref_reasons (r ∷ refs_of_id i)))
      (option_map_or Ok (option_and_then (λ e. option_map (f e) (id_found i)) (found r)) (Err Dead))

-- the command of the world that an order means
unfoldable pub command_of : WorldState → WorldOrder → Result Command Refusal
command_of w MakeFresh = Ok Fresh
command_of w (MakeEntity n) = Ok (Entity n)
command_of w (MakeComponent n fs) = Ok (Component n fs)
command_of w (AddTo r i) = with_both w Add r i
command_of w (SetIn r i vs) = with_both w (λ e j. SetValue e j vs) r i
command_of w (RemoveFrom r i) = with_both w Remove r i
command_of w (DeleteOne r) = result_map_both Delete (λ reason. reason) (entity_found w r)
