-- What commands change, and what they answer of it.
use Rattle.std.specs.List.{list_any}
use Rattle.std.specs.Prelude.{◌≡◌, ℕ, ℤ, Bool, true, List, [], ◌∷◌, Contains, filter_map, fold, map, take, Option, Some, unwrap_or}
use Rattle.std.specs.Ordering.{nat_cmp, on, then_cmp}
use Rattle.std.specs.declared.cmp.Ordering.{Ordering}
use Rattle.ecs_id.specs.declared.EntityId.{EntityId}
use Rattle.ecs_id.specs.Id.{Id}
use Rattle.ecs_model.specs.steps.FactChanges.{coming, replaced, with_new}
use Rattle.ecs_model.specs.steps.Outcomes.{Changed, is_dead, with_facts}
use Rattle.ecs_model.specs.steps.Step.{adds_built_in}
use Rattle.ecs_model.specs.declared.faults.CommandError.{CommandError}
use Rattle.ecs_model.specs.declared.faults.CommandError.TheVariants.{Refused, Memory}
use Rattle.ecs_model.specs.declared.faults.Refusal.{Refusal}
use Rattle.ecs_model.specs.declared.faults.Refusal.TheVariants.{Dead, BuiltIn}
use Rattle.ecs_model.specs.Map.{Map, keys, with_value, without}
use Rattle.ecs_model.specs.World.{WorldState, Key, entity_at, holds, is_alive, key_cmp, key_eq, name_of, type_of_id, value_of}
use Rattle.ecs_model.specs.steps.WellFormed.{IsWellFormed}
use Rattle.ecs_world.specs.State.{birth, byte_count, listed, no_change, value_in}
use Rattle.ecs_world.specs.declared.changes.ChangeLists.{ChangeLists}
use Rattle.ecs_world.specs.declared.changes.Told.{Told}
use Rattle.ecs_world.specs.declared.changes.Told.TheVariants.{Nothing, Born, BornWith, Came, Went, Replaced, Written, CameWritten, Died, Lists}

-- the changes in lists
abbrev pub changed_in : {Y : Type 0} → ChangeLists Y → Changed
changed_in l = record no_change { died = ((l.lists).value).died.items; came = ((l.lists).value).came.items; went = ((l.lists).value).went.items; written = listed ((l.lists).value).written }

-- the changes of a command
abbrev pub changed_by : {Y : Type 0} → Told Y → Changed
changed_by Nothing = no_change
changed_by (Born e) = birth e
changed_by (BornWith generation fact) = record (birth (record { index = fact.0; generation = generation })) { came = fact ∷ [] }
changed_by (Came fact) = record no_change { came = fact ∷ [] }
changed_by (Went fact) = record no_change { went = fact ∷ [] }
changed_by (Replaced facts) = record no_change { came = (facts.value).came ∷ []; went = (facts.value).went ∷ [] }
changed_by (Written fact) = record no_change { written = fact ∷ [] }
changed_by (CameWritten fact) = record no_change { came = fact ∷ []; written = fact ∷ [] }
changed_by (Died fallen) = record no_change { died = (fallen.value).died.items; went = listed (fallen.value).went }
changed_by (Lists lists) = changed_in lists

-- facts, each with how many bytes its value has
abbrev pub sized_by : WorldState → List Key → List (Key × ℕ)
sized_by w facts = map (λ k. (k, byte_count (type_of_id w k.1))) facts

-- the world where the bytes of a fact's value are these
abbrev pub with_bytes : WorldState → ℕ → Id → List ℕ → WorldState
with_bytes w e i bytes = record w { facts = with_value key_cmp w.facts (e, i) (value_in (type_of_id w i) bytes) }

-- the facts where all that comes with an added fact has come with new values, and what gives way to it has gone
abbrev pub facts_with_new : WorldState → ℕ → Id → Map Key (List ℤ)
facts_with_new w e i = fold (with_new w) (without key_cmp w.facts (λ k. list_any (key_eq k) (replaced w e i))) (keys (coming w e i))

-- the world where each of these facts has the value that a base's fact of the same id has
abbrev pub with_copies : WorldState → ℕ → List Key → WorldState
with_copies w b ks = with_facts w (fold (λ m k. with_value key_cmp m k (unwrap_or (value_of w b k.1) [])) w.facts ks)

-- held facts of a live entity, of ids that a base holds too. They may get the base's values one after another
pub record AreCopies (w : WorldState) (e : EntityId) (b : ℕ) (ks : List Key) : Type 0 where
  pub alive : is_alive w e ≡ true
  pub own : (k : Key) → Contains ks k → k.0 ≡ e.index
  pub held : (k : Key) → Contains ks k → holds w k.0 k.1 ≡ true
  pub of_base : (k : Key) → Contains ks k → holds w b k.1 ≡ true
  pub sound : (n : ℕ) → IsWellFormed (with_copies w b (take n ks))

-- the live entities at these indexes
abbrev pub entities_at : WorldState → List ℕ → List EntityId
entities_at w is = filter_map (entity_at w) is

-- entities with the names that they have
abbrev pub with_names : WorldState → List EntityId → List (EntityId × Option (List ℕ))
with_names w es = map (λ e. (e, name_of w e.index)) es

-- the live entities at these indexes, with their names
abbrev pub deaths_of : WorldState → List ℕ → List (EntityId × Option (List ℕ))
deaths_of w is = with_names w (entities_at w is)

-- by index, then by generation
abbrev pub entity_cmp : EntityId → EntityId → Ordering
entity_cmp = then_cmp (on (λ e. e.index) nat_cmp) (on (λ e. e.generation) nat_cmp)

-- a refusal is the first reason; memory may be refused whatever the reasons are
abbrev pub TellsRefusal : Option Refusal → CommandError → Type 0
TellsRefusal reason (Refused refusal) = reason ≡ Some refusal
TellsRefusal reason Memory = Unit {0}

-- the reasons against a fact that come before those against its value
abbrev pub fact_reasons : WorldState → EntityId → Id → List (Bool × Refusal)
fact_reasons w e i = (is_dead w e i, Dead) ∷ (adds_built_in w e.index i, BuiltIn) ∷ []
