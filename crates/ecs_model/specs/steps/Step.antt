-- One command of a world: its refusal, or the world that it leaves and what has changed.
use Rattle.std.specs.Prelude.{◌≡◌, ℕ, ◌+◌, ◌-◌, Bool, not, ◌&&◌, ◌||◌, List, [], ◌∷◌, ◌++◌, fold, length, ℤ, nat_lt, None, Result, Ok, Err}
use Rattle.std.specs.List.{list_any}
use Rattle.std.specs.Option.{option_map_or}
use Rattle.std.specs.Ordering.{nat_cmp}
use Rattle.ecs_id.specs.declared.EntityId.{EntityId}
use Rattle.ecs_id.specs.Id.{Id, plain, id_eq}
use Rattle.ecs_model.specs.declared.faults.Refusal.{Refusal}
use Rattle.ecs_model.specs.declared.faults.Refusal.TheVariants.{Dead, BuiltIn, TraitFixed, InUse, Cycle, TooManyIds, Panic, Full}
use Rattle.ecs_model.specs.Added.{is_used}
use Rattle.ecs_model.specs.BuiltIns.{acyclic}
use Rattle.ecs_model.specs.steps.Outcomes.{Changed, is_spent, is_dead, is_crowded, next_entity, with_facts, counted, with_born, with_named, with_component, name_reasons, birth_reasons, value_reasons, differences}
use Rattle.ecs_model.specs.Links.{upward}
use Rattle.ecs_model.specs.Map.{keys, has_key, with_value, without, count_at}
use Rattle.ecs_model.specs.Refusal.{first_reason}
use Rattle.ecs_model.specs.Schema.{Schema, schema_fault}
use Rattle.ecs_model.specs.Sets.{Set, has_chain}
use Rattle.ecs_model.specs.World.{WorldState, Key, key_cmp, component, is_alive, entities, holds, ids_of, type_of_id, is_built_in}
use Rattle.ecs_model.specs.steps.FactChanges.{added, facts_after_add, facts_after_remove, deleted, is_forbidden, facts_after_delete}
use Rattle.ecs_model.specs.steps.Rules.{is_trait}

-- the calls that change a world
pub data Command : Type 0 where
  Fresh : Command
  Entity : List ℕ → Command
  Component : List ℕ → Schema → Command
  Add : EntityId → Id → Command
  SetValue : EntityId → Id → List ℤ → Command
  Remove : EntityId → Id → Command
  Delete : EntityId → Command

-- a new component has fields that make a schema
abbrev pub IsCommand : Command → Type 0
IsCommand (Component n s) = schema_fault s ≡ None
IsCommand _ = Unit {0}

module _ (w : WorldState) where
  -- whether a stored query mentions the entity
  abbrev pub is_pinned : ℕ → Bool
  is_pinned i = nat_lt 0 (count_at w.pins i)

  -- whether `add` would put a fact on a built-in entity, or the tag of components on any
  abbrev pub adds_built_in : ℕ → Id → Bool
  adds_built_in e i = list_any (λ k. is_built_in k.0 || id_eq k.1 (plain component)) (keys (added w e i))

  -- whether `add` would bring a trait to an entity that is used as component or relationship, or that a stored query mentions
  abbrev pub changes_trait : ℕ → Id → Bool
  changes_trait e i = list_any (λ k. not (holds w k.0 k.1) && is_trait k.1 && (is_used (ids_of w) (entities w) k.0 || is_pinned k.0)) (keys (added w e i))

  -- whether a relationship that is Acyclic has a cycle
  abbrev pub has_cycle : Bool
  has_cycle = list_any (λ r. holds w r (plain acyclic) && list_any (λ x. has_chain (upward (ids_of w) r) (length (entities w) - 1) x x) (entities w)) (entities w)

  -- without these entities: they and all facts that mention them have gone, and their indexes were deleted once more
  unfoldable pub without_entities : Set ℕ → WorldState
  without_entities gone = record w {
    live = without nat_cmp w.live (has_key nat_cmp gone);
    facts = facts_after_delete w gone;
    names = without nat_cmp w.names (has_key nat_cmp gone);
    schemas = without nat_cmp w.schemas (has_key nat_cmp gone);
    deletions = fold (λ m i. with_value nat_cmp m i (count_at m i + 1)) w.deletions (keys gone);
  }

-- the reasons against what `add` would leave
abbrev pub add_reasons : WorldState → ℕ → Id → List (Bool × Refusal)
add_reasons w e i =
    let left = with_facts w (facts_after_add w e i) in
    (changes_trait w e i, TraitFixed) ∷ (has_cycle left, Cycle) ∷ (is_crowded left, TooManyIds) ∷ (is_spent w, Full) ∷ []

-- the reasons against the deletion of these
abbrev pub delete_reasons : WorldState → Set ℕ → List (Bool × Refusal)
delete_reasons w gone = (list_any (is_pinned w) (keys gone), InUse) ∷ (is_forbidden w gone, Panic) ∷ (is_spent w, Full) ∷ []

-- the reasons against a command, in the order in which they are judged
unfoldable pub reasons : WorldState → Command → List (Bool × Refusal)
reasons w Fresh = birth_reasons w
reasons w (Entity n) = name_reasons w n ++ birth_reasons w
reasons w (Component n s) = name_reasons w n ++ birth_reasons w
reasons w (Add e i) = (is_dead w e i, Dead) ∷ (adds_built_in w e.index i, BuiltIn) ∷ add_reasons w e.index i
reasons w (SetValue e i vs) = (is_dead w e i, Dead) ∷ (adds_built_in w e.index i, BuiltIn) ∷ (value_reasons (type_of_id w i) vs ++ add_reasons w e.index i)
reasons w (Remove e i) = (is_dead w e i, Dead) ∷ (is_built_in e.index || id_eq i (plain component), BuiltIn) ∷ (is_trait i, TraitFixed) ∷ (is_spent w, Full) ∷ []
reasons w (Delete e) = (not (is_alive w e), Dead) ∷ (is_built_in e.index, BuiltIn) ∷ delete_reasons w (deleted w e.index)

-- the world that an accepted command leaves, but for its count
unfoldable pub effect : WorldState → Command → WorldState
effect w Fresh = with_born w (next_entity w)
effect w (Entity n) = with_named w n (next_entity w)
effect w (Component n s) = with_component w n s (next_entity w)
effect w (Add e i) = with_facts w (facts_after_add w e.index i)
effect w (SetValue e i vs) = with_facts w (with_value key_cmp (facts_after_add w e.index i) (e.index, i) vs)
effect w (Remove e i) = with_facts w (facts_after_remove w e.index i)
effect w (Delete e) = without_entities w (deleted w e.index)

-- the fact whose value a command sets
abbrev pub written_by : Command → List Key
written_by (SetValue e i vs) = (e.index, i) ∷ []
written_by _ = []

-- the answer to a command: the first reason against it, or the new world and what has changed
unfoldable pub step : WorldState → Command → Result (WorldState × Changed) Refusal
step w c =
    let v = counted (effect w c) in
    option_map_or Err (first_reason (reasons w c)) (Ok (v, differences w v (written_by c)))
