-- What the parts of a world mean: its state.
use Rattle.std.specs.Prelude.{◌≡◌, ℕ, ◌<◌, ◌≤◌, nat_le, ◌==◌, Bool, not, ◌&&◌, take, List, [], ◌∷◌, length, map, flat_map, filter_map, ℤ, Option, Some, None, option_map, is_some, if◌then◌else◌, IsTrue, IfSome}
use Rattle.std.specs.List.{find, list_all}
use Rattle.std.specs.Option.{option_map_or, option_or}
use Rattle.std.specs.Ordering.{nat_cmp}
use Rattle.std.specs.FinMap as finite
use Rattle.ecs_id.specs.declared.EntityId.{EntityId}
use Rattle.ecs_id.specs.Id.{Id, plain, pair, mentioned, id_cmp}
use Rattle.ecs_model.specs.Map.{Map, has_key, keys, value_at}
use Rattle.ecs_model.specs.Schema.{Schema}
use Rattle.ecs_model.specs.Bytes.{size_of, values_in}
use Rattle.ecs_model.specs.steps.WellFormed.{IsWellFormed}
use Rattle.ecs_model.specs.Refusal.{first_reason}
use Rattle.ecs_model.specs.Text.{is_name}
use Rattle.ecs_model.specs.declared.faults.Refusal.{Refusal}
use Rattle.ecs_model.specs.declared.faults.Refusal.TheVariants.{BadName, NameTaken, TooManyIds, Full}
use Rattle.ecs_model.specs.declared.faults.CommandError.{CommandError}
use Rattle.ecs_model.specs.declared.faults.CommandError.TheVariants.{Refused, Memory}
use Rattle.ecs_model.specs.World.{WorldState, Key, holds, ids_of, most_ids, pair_is_tag, type_of_id, value_of}
use Rattle.ecs_model.specs.steps.Outcomes.{Changed}
use Rattle.name_index.specs.Names.{Names, IsOneToOne, entity_eq}
use Rattle.rel_traits.specs.PinCounts.{Counts}
use Rattle.ecs_archetypes.specs.declared.facts.FoundFact.{FoundFact}
use Rattle.ecs_table.specs.Archetype.{Cells}
use Rattle.ecs_archetypes.specs.Holdings.{AreHoldings, Holdings, holds_id, lives}

-- the fields of an id's values, by the components' fields and by whether a relationship keeps its pairs without data
abbrev pub type_in : Map ℕ Schema → (ℕ → Bool) → Id → Option Schema
type_in schemas is_tag (plain c) = value_at nat_cmp schemas c
type_in schemas is_tag (pair r t) = if is_tag r then None else option_or (value_at nat_cmp schemas r) (value_at nat_cmp schemas t)

-- the fields of an id's values in a world of these parts
abbrev pub type_of : Holdings → Map ℕ Schema → Id → Option Schema
type_of h schemas = type_in schemas (λ r. holds_id h r (plain pair_is_tag))

-- the value that bytes mean, empty where the id has no type
abbrev pub value_in : Option Schema → List ℕ → List ℤ
value_in o bytes = option_map_or (λ fs. values_in fs bytes) o []

-- how many bytes a value has, 0 where the id has no type
abbrev pub byte_count : Option Schema → ℕ
byte_count o = option_map_or size_of o 0

-- the facts of one entity
abbrev pub facts_of : (Id → Option Schema) → ℕ → Cells → Map Key (List ℤ)
facts_of types e cells = map (λ c. ((e, c.0), value_in (types c.0) c.1)) cells

-- the facts of all entities
abbrev pub all_facts : (Id → Option Schema) → Map ℕ Cells → Map Key (List ℤ)
all_facts types cells = flat_map (λ e. facts_of types e.0 e.1) cells

-- the name of an entity
abbrev pub name_in : Names → EntityId → Option (List ℕ)
name_in names e = option_map (λ p. p.0) (find (λ p. entity_eq p.1 e) (finite.entries names))

-- the names of the live entities, by index
abbrev pub names_of : Names → Map ℕ ℕ → Map ℕ (List ℕ)
names_of names live = filter_map (λ e. option_map (λ n. (e.0, n)) (name_in names (record { index = e.0; generation = e.1 }))) live

-- the parts of a world: who holds what, the names, the fields of components, how many stored queries mention each entity, and how many commands were accepted
pub record Parts : Type 0 where
  pub holdings : Holdings
  pub names : Names
  pub schemas : Map ℕ Schema
  pub pins : Counts
  pub accepted : ℕ

abbrev pub parts_of : Holdings → Names → Map ℕ Schema → Counts → ℕ → Parts
parts_of h names schemas pins accepted = record { holdings = h; names = names; schemas = schemas; pins = pins; accepted = accepted }

-- the state of a world of these parts
abbrev pub state_of : Parts → WorldState
state_of p = record {
  live = (p.holdings).live;
  facts = all_facts (type_of p.holdings p.schemas) (p.holdings).cells;
  names = names_of p.names (p.holdings).live;
  schemas = p.schemas;
  deletions = (p.holdings).deletions;
  pins = (p.pins).entries;
  accepted = p.accepted;
}

-- whether an id has the size of its type, and mentions live entities
abbrev pub is_known_rightly : Holdings → Map ℕ Schema → Id × ℕ → Bool
is_known_rightly h schemas c = (c.1 == byte_count (type_of h schemas c.0)) && list_all (has_key nat_cmp h.live) (mentioned c.0)

-- what the parts of a world have
pub record IsWorld (p : Parts) : Type 0 where
  pub whole : AreHoldings p.holdings
  pub sound : IsWellFormed (state_of p)
  -- every live entity is settled
  pub settled : keys (p.holdings).cells ≡ keys (p.holdings).live
  -- every table is of ids of live entities, with the sizes of their types
  pub known : IsTrue (list_all (is_known_rightly p.holdings p.schemas) (p.holdings).known)
  -- names are of live entities
  pub named : (n : List ℕ) (e : EntityId) → finite.get p.names n ≡ Some e → IsTrue (lives p.holdings e)
  pub one_to_one : IsOneToOne p.names
  -- stored queries that mention a live entity are counted without more memory
  pub covered : (i : ℕ) → IsTrue (has_key nat_cmp (p.holdings).live i) → i < (p.pins).reach

-- cells are the facts of an entity: its ids in order, each with the bytes of its value
pub record AreFactsOf (w : WorldState) (e : ℕ) (cells : Cells) : Type 0 where
  pub ids : keys cells ≡ ids_of w e
  pub value : (i : Id) → option_map (value_in (type_of_id w i)) (value_at id_cmp cells i) ≡ value_of w e i
  pub size : (i : Id) → IfSome (value_at id_cmp cells i) (λ bytes. length bytes ≡ byte_count (type_of_id w i))

-- the beginning of a buffer has the bytes of a value
pub record IsEncoded (type : Option Schema) (vs : List ℤ) (size : ℕ) (buffer : List ℕ) : Type 0 where
  pub sized : size ≡ byte_count type
  pub some : 1 ≤ size
  pub few : size ≤ 64
  pub value : value_in type (take size buffer) ≡ vs

-- the reasons against one more id for an entity of which this was found
abbrev pub growth_reasons : FoundFact → Bool → List (Bool × Refusal)
growth_reasons found is_spent = (not found.is_held && nat_le most_ids found.count, TooManyIds) ∷ (is_spent, Full) ∷ []

-- why a name is not bound: it is none, an entity has it, or memory was refused
abbrev pub IsUnbound : Names → List ℕ → CommandError → Type 0
IsUnbound names n (Refused reason) = first_reason ((not (is_name n), BadName) ∷ (is_some (finite.get names n), NameTaken) ∷ []) ≡ Some reason
IsUnbound names n Memory = Unit {0}

-- what changes where nothing does
abbrev pub no_change : Changed
no_change = record { born = None; died = []; came = []; went = []; written = [] }

-- a list of what is there
abbrev pub listed : {X : Type 0} → Option X → List X
listed None = []
listed (Some x) = x ∷ []

-- what changes where an entity is made
abbrev pub birth : EntityId → Changed
birth e = record no_change { born = Some e }

-- what changes where a fact comes that isn't held yet
abbrev pub arrival : WorldState → ℕ → Id → Changed
arrival w e i = record no_change { came = if holds w e i then [] else (e, i) ∷ [] }
