-- The laws of what commands do to facts, as statements.
use Rattle.std.specs.Prelude.{◌≡◌, ◌↔◌, ◌⊎◌, ℕ, ◌<◌, length, All, Contains, IsTrue, Some, Ok, if◌then◌else◌}
use Rattle.ecs_id.specs.Id.{Id, IsPair, plain, pair, first_of, mentioned}
use Rattle.ecs_model.specs.Added.{IsAdded, IsReplaced}
use Rattle.ecs_model.specs.BuiltIns.{acyclic, on_instantiate}
use Rattle.ecs_model.specs.steps.Outcomes.{Changed, is_crowded, with_facts}
use Rattle.ecs_model.specs.Cycles.{HasCycle}
use Rattle.ecs_model.specs.Links.{upward}
use Rattle.ecs_model.specs.Map.{has_key, value_at}
use Rattle.ecs_model.specs.World.{WorldState, Key, key_cmp, holds, ids_of, is_built_in, is_live, most_ids, new_value, pair_is_tag, type_of_id, value_of}
use Rattle.ecs_model.specs.steps.FactChanges.{IsCopied, copied, facts_after_add, new_base}
use Rattle.ecs_model.specs.steps.Step.{Command, IsCommand, has_cycle, is_pinned, step}
use Rattle.ecs_model.specs.steps.WellFormed.{IsWellFormed}
use Rattle.ecs_model.specs.steps.Rules.{is_trait}

-- what is said of a fact that is added to a live entity, with an id of live ones
abbrev pub OfLive : (WorldState → ℕ → Id → Type 0) → Type 0
OfLive P = (w : WorldState) (e : ℕ) (i : Id) → IsWellFormed w → IsTrue (is_live w e) → All (λ x. IsTrue (is_live w x)) (mentioned i) → P w e i

-- after `add` a fact is held exactly if it was added, is a copy, or was held and does not give way
abbrev pub FactsAfterAdd : Type 0
FactsAfterAdd = OfLive (λ w e i. (k : Key)
    → IsTrue (has_key key_cmp (facts_after_add w e i) k) ↔ ((IsAdded (ids_of w) (e, i) k ⊎ IsCopied w e i k) ⊎ (IsTrue (holds w k.0 k.1) × ¬ (IsReplaced (ids_of w) (e, i) k))))

-- what was held keeps its value, added or not, and what has come has a new one, unless it is a copy
abbrev pub ValuesAfterAdd : Type 0
ValuesAfterAdd = OfLive (λ w e i. (k : Key) → ¬ (IsCopied w e i k) → IsTrue (has_key key_cmp (facts_after_add w e i) k)
    → value_at key_cmp (facts_after_add w e i) k ≡ (if holds w k.0 k.1 then value_of w k.0 k.1 else Some (new_value w k.1)))

-- a copy has the value of its base's fact
abbrev pub CopiesHaveValues : Type 0
CopiesHaveValues = OfLive (λ w e i. (b : ℕ) (c : Id) → new_base w e i ≡ Some b → Contains (copied w e i b) c → value_at key_cmp (facts_after_add w e i) (e, c) ≡ value_of w b c)

-- the test of cycles passes exactly where `add` would leave a relationship that is Acyclic with a cycle
abbrev pub CycleIsTold : Type 0
CycleIsTold = OfLive (λ w e i. let left = with_facts w (facts_after_add w e i) in
    IsTrue (has_cycle left) ↔ ((r : ℕ) × IsTrue (holds left r (plain acyclic)) × HasCycle (upward (ids_of left) r)))

-- the test of too many ids passes exactly where an entity would have too many that gets one of the added facts
abbrev pub CrowdedIsTold : Type 0
CrowdedIsTold = OfLive (λ w e i. let left = with_facts w (facts_after_add w e i) in
    IsTrue (is_crowded left) ↔ ((k : Key) × IsAdded (ids_of w) (e, i) k × (most_ids < length (ids_of left k.0))))

-- an id that an entity holds after a command has the type that it had before
abbrev pub HeldIdsKeepTypes : Type 0
HeldIdsKeepTypes = (w v : WorldState) (c : Command) (changed : Changed) → IsWellFormed w → IsCommand c → step w c ≡ Ok (v, changed)
    → (e : ℕ) (i : Id) → IsTrue (holds v e i) → type_of_id v i ≡ type_of_id w i

-- of live entities alone, an id gets another type only where PairIsTag comes to its relationship
abbrev pub TypesChangeByTag : Type 0
TypesChangeByTag = (w v : WorldState) (c : Command) (changed : Changed) → IsWellFormed w → IsCommand c → step w c ≡ Ok (v, changed)
    → (i : Id) → All (λ x. IsTrue (is_live w x) × IsTrue (is_live v x)) (mentioned i)
    → (type_of_id v i ≡ type_of_id w i) ⊎ (IsPair i × Contains changed.came (first_of i, plain pair_is_tag))

-- while a stored query mentions an entity, what it says of copying stays as it is
abbrev pub ModesStay : Type 0
ModesStay = (w v : WorldState) (c : Command) (changed : Changed) → IsWellFormed w → step w c ≡ Ok (v, changed)
    → (r m : ℕ) → IsTrue (is_built_in m) → IsTrue (is_pinned w r) → holds v r (pair on_instantiate m) ≡ holds w r (pair on_instantiate m)

-- while a stored query mentions an entity or a pair of it as relationship is held, its plain traits stay as they are
abbrev pub PlainTraitsStay : Type 0
PlainTraitsStay = (w v : WorldState) (c : Command) (changed : Changed) → IsWellFormed w → IsCommand c → step w c ≡ Ok (v, changed)
    → (r n : ℕ) → IsTrue (is_trait (plain n)) → IsTrue (is_pinned w r) ⊎ ((f : ℕ) × (t : ℕ) × IsTrue (holds v f (pair r t))) → holds v r (plain n) ≡ holds w r (plain n)
