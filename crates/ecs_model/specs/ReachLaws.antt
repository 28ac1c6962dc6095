-- The laws of chains, lines and least sets, as statements.
use Rattle.std.specs.Prelude.{◌≡◌, ℕ, suc, ◌≤◌, ◌↔◌, Bool, true, IsTrue, List, ◌∷◌, length, flat_map, Contains}
use Rattle.std.specs.Ordering.{nat_cmp}
use Rattle.ecs_id.specs.Id.{Id}
use Rattle.ecs_model.specs.Depth.{IsDepth}
use Rattle.ecs_model.specs.Cycles.{HasCycle, after_step}
use Rattle.ecs_model.specs.Links.{AreLinks, IsAcyclic, IsReached, ancestor_line, depth, reaches, upward}
use Rattle.ecs_model.specs.Reach.{Reached, HasChain, Reaches}
use Rattle.ecs_model.specs.Sets.{IsLeastFrom, has_chain, within}

-- as many rounds as there are things to be reached, less one, give the least set that is closed under what follows
abbrev pub RoundsAreEnough : Type 0
RoundsAreEnough = (next : ℕ → List ℕ) (n : ℕ) (live : List ℕ) → length live ≤ suc n → (x : ℕ) → ((y : ℕ) → Reached next x y → Contains live y) → IsLeastFrom nat_cmp next x (within nat_cmp next n x)

-- no longer chain reaches more
abbrev pub ChainsAreShort : Type 0
ChainsAreShort = (next : ℕ → List ℕ) (n : ℕ) (live : List ℕ) → length live ≤ suc n → ((x y : ℕ) → Contains (next x) y → Contains live y) → (s t : ℕ) → IsTrue (has_chain next n s t) ↔ HasChain next s t

-- along what is transitive, what is reached from what is reached is reached
abbrev pub ReachComposes : Type 0
ReachComposes = (reflexive : Bool) (next : ℕ → List ℕ) (s t u : ℕ) → Reaches true reflexive next s t → Reaches true reflexive next t u → Reaches true reflexive next s u

-- where there is no cycle, one more step makes one exactly where its end leads back to its start, whether or not other steps go
abbrev pub StepsCloseChains : Type 0
StepsCloseChains = (next : ℕ → List ℕ) → ¬ (HasCycle next) → (exclusive : Bool) (s t : ℕ) → HasCycle (after_step next exclusive s t) ↔ Reached next t s

-- the test of reach passes exactly where the relationship leads there
abbrev pub ReachIsComputed : Type 0
ReachIsComputed = (n : ℕ) (entities : List ℕ) (ids : ℕ → List Id) → AreLinks n entities ids → (r s t : ℕ) → IsTrue (reaches ids entities r s t) ↔ IsReached ids r s t

-- where there is no cycle, a line is made of the targets, each followed by its own line
abbrev pub LinesUnfold : Type 0
LinesUnfold = (n : ℕ) (entities : List ℕ) (ids : ℕ → List Id) → AreLinks n entities ids → (r : ℕ) → IsAcyclic ids r → (s : ℕ) → ancestor_line ids entities r s ≡ flat_map (λ t. t ∷ ancestor_line ids entities r t) (upward ids r s)

-- where there is no cycle, the depth of an entity is the length of the longest chain from it
abbrev pub DepthsAreOfLongestChains : Type 0
DepthsAreOfLongestChains = (n : ℕ) (entities : List ℕ) (ids : ℕ → List Id) → AreLinks n entities ids → (r : ℕ) → IsAcyclic ids r → (e : ℕ) → IsDepth (upward ids r) e (depth ids entities r e)
