-- What a fact that is added does to the steps of a relationship.
use Rattle.std.specs.Prelude.{◌≡◌, ◌↔◌, ◌⊎◌, ℕ, true, false, List, Contains}
use Rattle.ecs_id.specs.Id.{Id, plain, pair}
use Rattle.ecs_model.specs.World.{Key}
use Rattle.ecs_model.specs.Cycles.{HasCycle}
use Rattle.ecs_model.specs.Links.{AreLinks, is_held, upward}
use Rattle.ecs_model.specs.Reach.{Reached}
use Rattle.ecs_model.specs.Added.{IsAdded, IsReplaced, is_symmetric, is_used}
use Rattle.ecs_model.specs.BuiltIns.{acyclic, with_trait}
pub use Rattle.ecs_model.specs.steps.StepLaws.{ClosesAt}

module _ (ids : ℕ → List Id) where
  -- the steps of a relationship after k is added: those that came, and those that were there and did not go
  abbrev pub IsAfter : Key → ℕ → (ℕ → List ℕ) → Type 0
  IsAfter k c next = (x y : ℕ) → Contains (next x) y ↔ (IsAdded ids k (x, pair c y) ⊎ (Contains (upward ids c x) y × ¬ (IsReplaced ids k (x, pair c y))))

  -- the mirror of a pair of r brings a pair of c
  abbrev pub IsTurned : ℕ → ℕ → Type 0
  IsTurned r c = (b : ℕ) × Reached (upward ids with_trait) r b × (is_symmetric ids b ≡ true) × Reached (upward ids with_trait) b c

-- one of these closes a cycle
abbrev pub ClosesOne : (ℕ → List Id) → ℕ → List Key → Type 0
ClosesOne ids e ks = (k : Key) × Contains ks k × ClosesAt ids e k

-- a relationship that comes both ways has a cycle
abbrev pub TurnedPairsClose : Type 0
TurnedPairsClose = (ids : ℕ → List Id) (e r t c : ℕ) (next : ℕ → List ℕ) → IsAfter ids (e, pair r t) c next → Reached (upward ids with_trait) r c → IsTurned ids r c → HasCycle next

-- one that comes one way has a cycle exactly if it led back before
abbrev pub OneWayPairsClose : Type 0
OneWayPairsClose = (ids : ℕ → List Id) (e r t c : ℕ) (next : ℕ → List ℕ) → IsAfter ids (e, pair r t) c next → ¬ (HasCycle (upward ids c)) → Reached (upward ids with_trait) r c → ¬ (IsTurned ids r c)
    → HasCycle next ↔ Reached (upward ids c) t e

-- one that does not come gets none
abbrev pub OthersStayOpen : Type 0
OthersStayOpen = (ids : ℕ → List Id) (e r t c : ℕ) (next : ℕ → List ℕ) → IsAfter ids (e, pair r t) c next → ¬ (HasCycle (upward ids c)) → ¬ (Reached (upward ids with_trait) r c) → ¬ (HasCycle next)

-- what each entity holds after k is added: what came, and what was there and did not go
abbrev pub IsAfterAdding : (ℕ → List Id) → Key → (ℕ → List Id) → Type 0
IsAfterAdding ids k after = (x : ℕ) (i : Id) → Contains (after x) i ↔ (IsAdded ids k (x, i) ⊎ (Contains (ids x) i × ¬ (IsReplaced ids k (x, i))))

-- an acyclic relationship has a cycle
abbrev pub HasBannedCycle : (ℕ → List Id) → Type 0
HasBannedCycle ids = (r : ℕ) × (is_held (ids r) (plain acyclic) ≡ true) × HasCycle (upward ids r)

-- what gets the trait Acyclic with k is not in use
abbrev pub FreshAreAcyclic : List ℕ → (ℕ → List Id) → Key → Type 0
FreshAreAcyclic entities ids k = (r : ℕ) → IsAdded ids k (r, plain acyclic) → (is_held (ids r) (plain acyclic) ≡ true) ⊎ (is_used ids entities r ≡ false)

-- the answer to whether these close a cycle says, for each fact of e with which they come, whether an acyclic
-- relationship has a cycle afterwards, where none had one before
abbrev pub TellsCycles : List ℕ → (ℕ → List Id) → ℕ → List Key → Type 0 → Type 0
TellsCycles entities ids e ks Closes = (i : Id) (after : ℕ → List Id) → ((z : Key) → Contains ks z ↔ IsAdded ids (e, i) z) → IsAfterAdding ids (e, i) after → FreshAreAcyclic entities ids (e, i) → ¬ (HasBannedCycle ids)
    → Closes ↔ HasBannedCycle after

-- so does the test of the added facts
abbrev pub AddedFactsClose : Type 0
AddedFactsClose = (n : ℕ) (entities : List ℕ) (ids : ℕ → List Id) → AreLinks n entities ids → (e : ℕ) (ks : List Key) → TellsCycles entities ids e ks (ClosesOne ids e ks)

-- no added fact is replaced
abbrev pub AddedFactsStay : Type 0
AddedFactsStay = (ids : ℕ → List Id) (k z : Key) → IsAdded ids k z → ¬ (IsReplaced ids k z)
