-- What commands of a world come to: reasons against them, the worlds that they leave and what has changed.
use Rattle.std.specs.Prelude.{◌≡◌, ℕ, ◌+◌, ◌-◌, ◌^◌, ◌==◌, Bool, true, not, ◌||◌, List, [], ◌∷◌, map, length, ℤ, nat_lt, nat_le, Option, Some, None, is_some, is_none, Result, Ok, Err}
use Rattle.std.specs.List.{list_any, list_all, find}
use Rattle.std.specs.Option.{option_map_or}
use Rattle.std.specs.Ordering.{nat_cmp}
use Rattle.ecs_id.specs.declared.EntityId.{EntityId}
use Rattle.ecs_id.specs.Id.{Id, plain, mentioned}
use Rattle.ecs_model.specs.declared.faults.Refusal.{Refusal}
use Rattle.ecs_model.specs.declared.faults.Refusal.TheVariants.{BadName, NameTaken, NoData, Count, Range, Full}
use Rattle.ecs_model.specs.declared.faults.CommandError.{CommandError}
use Rattle.ecs_model.specs.declared.faults.CommandError.TheVariants.{Refused, Memory}
use Rattle.ecs_model.specs.Map.{Map, keys, has_key, with_value, without}
use Rattle.ecs_model.specs.Text.{is_name}
use Rattle.ecs_model.specs.Schema.{Schema, all_fit}
use Rattle.ecs_model.specs.World.{WorldState, Key, key_cmp, component, is_live, is_alive, entity_at, entities, ids_of, named, name_of, last_index, most_ids, next_among}

-- what a command has changed
pub record Changed : Type 0 where
  pub born : Option EntityId
  -- each entity that died, with the name that it had
  pub died : List (EntityId × Option (List ℕ))
  pub came : List Key
  pub went : List Key
  -- each fact whose value was set: the value is that of the fact in the new world
  pub written : List Key

module _ (w : WorldState) where
  -- the entity that the next command to make one will make
  abbrev pub next_entity : Option EntityId
  next_entity = next_among w.live w.deletions last_index

  -- no further command is counted
  abbrev pub is_spent : Bool
  is_spent = nat_le (2 ^ 64 - 1) w.accepted

  -- whether an entity handed in is dead, or the id mentions an index that is not live
  abbrev pub is_dead : EntityId → Id → Bool
  is_dead e i = not (is_alive w e) || not (list_all (is_live w) (mentioned i))

  -- whether an entity has more ids than it may have
  abbrev pub is_crowded : Bool
  is_crowded = list_any (λ e. nat_lt most_ids (length (ids_of w e))) (entities w)

  -- the world with these facts
  abbrev pub with_facts : Map Key (List ℤ) → WorldState
  with_facts facts = record w { facts = facts }

  -- with one more accepted command
  abbrev pub counted : WorldState
  counted = record w { accepted = w.accepted + 1 }

  -- with a new entity
  unfoldable pub with_born : Option EntityId → WorldState
  with_born None = w
  with_born (Some e) = record w { live = with_value nat_cmp w.live e.index e.generation }

  -- with a new entity of this name
  unfoldable pub with_named : List ℕ → Option EntityId → WorldState
  with_named n None = w
  with_named n (Some e) = record w { live = with_value nat_cmp w.live e.index e.generation; names = with_value nat_cmp w.names e.index n }

  -- with a new component
  unfoldable pub with_component : List ℕ → Schema → Option EntityId → WorldState
  with_component n s None = w
  with_component n s (Some e) = record w {
    live = with_value nat_cmp w.live e.index e.generation;
    names = with_value nat_cmp w.names e.index n;
    schemas = with_value nat_cmp w.schemas e.index s;
    facts = with_value key_cmp w.facts (e.index, plain component) [];
  }

-- the reasons against a new name
abbrev pub name_reasons : WorldState → List ℕ → List (Bool × Refusal)
name_reasons w n = (not (is_name n), BadName) ∷ (is_some (named w n), NameTaken) ∷ []

-- the reasons against one more entity
abbrev pub birth_reasons : WorldState → List (Bool × Refusal)
birth_reasons w = (is_none (next_entity w) || is_spent w, Full) ∷ []

-- the reasons against values of an id
abbrev pub value_reasons : Option Schema → List ℤ → List (Bool × Refusal)
value_reasons None vs = (true, NoData) ∷ []
value_reasons (Some fs) vs = (not (length vs == length fs), Count) ∷ (not (all_fit fs vs), Range) ∷ []

-- what differs between two worlds: the entities and the facts that stand in one alone
unfoldable pub differences : WorldState → WorldState → List Key → Changed
differences w v written = record {
  born = option_map_or (entity_at v) (find (λ i. not (is_live w i)) (entities v)) None;
  died = map (λ e. (record { index = e.0; generation = e.1 }, name_of w e.0)) (without nat_cmp w.live (is_live v));
  came = keys (without key_cmp v.facts (has_key key_cmp w.facts));
  went = keys (without key_cmp w.facts (has_key key_cmp v.facts));
  written = written;
}

-- a call answers as the step does and leaves what the step says: an accepted one answers what has changed, a refusal leaves the world as it was, and so does refused memory, which may stand in place of any answer
abbrev pub AnswersStep : Result Changed CommandError → Result (WorldState × Changed) Refusal → WorldState → WorldState → Type 0
AnswersStep (Ok changed) stepped old new = stepped ≡ Ok (new, changed)
AnswersStep (Err (Refused reason)) stepped old new = (stepped ≡ Err reason) × (new ≡ old)
AnswersStep (Err Memory) stepped old new = new ≡ old
