-- The laws of commands with traits, as statements.
use Rattle.std.specs.Prelude.{◌≡◌, ◌↔◌, ◌⊎◌, ℕ, ◌≤◌, true, false, List, ◌∷◌, map, Contains, Option, Some, None, IsTrue, Ok, All}
use Rattle.std.specs.List.Sorted.{IsStrictlySortedBy}
use Rattle.std.specs.Ordering.{nat_cmp}
use Rattle.ecs_id.specs.declared.EntityId.{EntityId}
use Rattle.ecs_id.specs.Id.{Id, plain, pair, first_of, second_of, mentioned}
use Rattle.ecs_model.specs.declared.faults.Refusal.{Refusal}
use Rattle.ecs_model.specs.Added.{IsAdded}
use Rattle.ecs_model.specs.BuiltIns.{acyclic, is_a}
use Rattle.ecs_model.specs.steps.Outcomes.{Changed, is_dead, next_entity, with_facts}
use Rattle.ecs_model.specs.Cleanup.{falling}
use Rattle.ecs_model.specs.Links.{is_held, upward}
use Rattle.ecs_model.specs.Map.{has_key}
use Rattle.ecs_model.specs.Reach.{Reached}
use Rattle.ecs_model.specs.Refusal.{first_reason, refusal_number}
use Rattle.ecs_model.specs.World.{WorldState, key_cmp, first_world, is_live, entities, holds, ids_of}
use Rattle.ecs_model.specs.steps.FactChanges.{IsCopied, added, deleted, facts_after_add, facts_after_remove, new_base}
use Rattle.ecs_model.specs.steps.Step.{Command, Fresh, Entity, Component, IsCommand, adds_built_in, changes_trait, has_cycle, reasons, step}
use Rattle.ecs_model.specs.steps.WellFormed.{IsWellFormed}
use Rattle.ecs_model.specs.steps.Pins.{pin, unpin}

-- the first world is well formed
abbrev pub FirstWorldIsWellFormed : Type 0
FirstWorldIsWellFormed = IsWellFormed first_world

-- each accepted command leaves a well-formed world
abbrev pub StepKeeps : Type 0
StepKeeps = (w v : WorldState) (c : Command) (changed : Changed) → IsWellFormed w → IsCommand c → step w c ≡ Ok (v, changed) → IsWellFormed v

-- and so do the counts of stored queries
abbrev pub PinsKeep : Type 0
PinsKeep = (w : WorldState) (e : EntityId) → IsWellFormed w → ((v : WorldState) → pin w e ≡ Ok v → IsWellFormed v) × IsWellFormed (unpin w e)

-- the reasons against a command stand in ascending order of their numbers
abbrev pub ReasonsAscend : Type 0
ReasonsAscend = (w : WorldState) (c : Command) → IsStrictlySortedBy nat_cmp (map (λ r. refusal_number r.1) (reasons w c))

-- of the reasons that apply, the first has the least number
abbrev pub FirstReasonIsLeast : Type 0
FirstReasonIsLeast =
    (w : WorldState) (c : Command) (r s : Refusal) → first_reason (reasons w c) ≡ Some r → Contains (reasons w c) (true, s) → refusal_number r ≤ refusal_number s

-- the entity that a command makes, if it makes one: the next
abbrev pub made_by : WorldState → Command → Option EntityId
made_by w Fresh = next_entity w
made_by w (Entity n) = next_entity w
made_by w (Component n s) = next_entity w
made_by w _ = None

-- the entity born is the one that the command makes
abbrev pub BornIsMade : Type 0
BornIsMade = (w v : WorldState) (c : Command) (changed : Changed) → step w c ≡ Ok (v, changed) → changed.born ≡ made_by w c

-- removing what isn't held leaves the facts as they were
abbrev pub RemovesHeldAlone : Type 0
RemovesHeldAlone = (w : WorldState) (e : ℕ) (i : Id) → IsWellFormed w → holds w e i ≡ false → facts_after_remove w e i ≡ w.facts

-- the added set is the least one that holds the fact and all that its members bring, where the fact's entity and its component or relationship live
abbrev pub AddedIsLeast : Type 0
AddedIsLeast =
    (w : WorldState) (e : ℕ) (i : Id) → IsWellFormed w → IsTrue (is_live w e) → All (λ x. IsTrue (is_live w x)) (mentioned i)
    → (k : ℕ × Id) → IsTrue (has_key key_cmp (added w e i) k) ↔ IsAdded (ids_of w) (e, i) k

-- a pair that comes closes a cycle of an acyclic relationship: it is a mirror, or its target led to the entity to which a fact is added
abbrev pub ClosesAt : (ℕ → List Id) → ℕ → ℕ × Id → Type 0
ClosesAt ids e k = (t : ℕ) × (Some t ≡ second_of k.1) × (is_held (ids (first_of k.1)) (plain acyclic) ≡ true) × (¬ (k.0 ≡ e) ⊎ Reached (upward ids (first_of k.1)) t e)

-- where all live, nothing comes to a built-in entity and no trait changes, `add` makes a cycle exactly where a pair that is added or copied closes one
abbrev pub AddedPairsClose : Type 0
AddedPairsClose =
    (w : WorldState) (e : EntityId) (i : Id) → IsWellFormed w → is_dead w e i ≡ false → adds_built_in w e.index i ≡ false → changes_trait w e.index i ≡ false
    → IsTrue (has_cycle (with_facts w (facts_after_add w e.index i))) ↔ ((k : ℕ × Id) × (IsAdded (ids_of w) (e.index, i) k ⊎ IsCopied w e.index i k) × ClosesAt (ids_of w) e.index k)

-- where no cycle comes either, an added fact of IsA that isn't held is one of the entity to which a fact is added, and gives it its new base: no other gets one, nor a second
abbrev pub OneNewBase : Type 0
OneNewBase =
    (w : WorldState) (e : EntityId) (i : Id) → IsWellFormed w → is_dead w e i ≡ false → adds_built_in w e.index i ≡ false → changes_trait w e.index i ≡ false
    → has_cycle (with_facts w (facts_after_add w e.index i)) ≡ false
    → (f b : ℕ) → IsAdded (ids_of w) (e.index, i) (f, pair is_a b) → holds w f (pair is_a b) ≡ false → (f ≡ e.index) × (new_base w e.index i ≡ Some b)

-- the deleted set is the least one that holds the entity and all who fall with its members
abbrev pub DeletedIsLeast : Type 0
DeletedIsLeast =
    (w : WorldState) (e : ℕ) → IsTrue (is_live w e) → (y : ℕ) → IsTrue (has_key nat_cmp (deleted w e) y) ↔ Reached (falling (ids_of w) (entities w)) e y

-- index 0 is that of no entity, and no fact mentions it
abbrev pub ZeroIsNothing : Type 0
ZeroIsNothing = (w : WorldState) → IsWellFormed w → (is_live w 0 ≡ false) × ((e : ℕ) (i : Id) → IsTrue (holds w e i) → (Contains (e ∷ mentioned i) 0 → ⊥))
