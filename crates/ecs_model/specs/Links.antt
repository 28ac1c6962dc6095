-- What leads from an entity to others, by the ids of each entity.
use Rattle.std.specs.Prelude.{ℕ, ◌-◌, ◌==◌, ◌<◌, ◌&&◌, ◌||◌, Bool, List, All, Contains, filter_map, length, Option, Some, None, if◌then◌else◌}
use Rattle.std.specs.List.{list_any}
use Rattle.ecs_id.specs.Id.{Id, IsIndex, plain, pair, id_eq, mentioned}
use Rattle.ecs_model.specs.BuiltIns.{transitive, reflexive}
use Rattle.ecs_model.specs.Depth.{depth_within}
use Rattle.ecs_model.specs.AncestorLine.{ancestor_line_within}
use Rattle.ecs_model.specs.Reach.{HasChain, Reaches}
use Rattle.ecs_model.specs.Sets.{has_chain}

-- the target of a pair of this relationship
abbrev pub target_under : ℕ → Id → Option ℕ
target_under r (plain c) = None
target_under r (pair q t) = if q == r then Some t else None

-- the targets of the pairs of a relationship, in order
abbrev pub targets_in : List Id → ℕ → List ℕ
targets_in ids r = filter_map (target_under r) ids

-- whether an id is among these
abbrev pub is_held : List Id → Id → Bool
is_held ids i = list_any (λ j. id_eq j i) ids

-- over the ids of each entity
module _ (ids : ℕ → List Id) where
  -- from an entity to the targets of its pairs of a relationship, in order
  abbrev pub upward : ℕ → ℕ → List ℕ
  upward r e = targets_in (ids e) r

  -- what the traits of a relationship say of its reach
  abbrev pub is_transitive : ℕ → Bool
  is_transitive r = is_held (ids r) (plain transitive)

  abbrev pub is_reflexive : ℕ → Bool
  is_reflexive r = is_held (ids r) (plain reflexive)

  -- whether a relationship leads from s to t: by one pair, by a chain of them where it is Transitive, and from each entity to itself where it is Reflexive
  abbrev pub IsReached : ℕ → ℕ → ℕ → Type 0
  IsReached r s t = Reaches (is_transitive r) (is_reflexive r) (upward r) s t

  -- the same as a test, by chains with no more steps than there are live entities
  unfoldable pub reaches : List ℕ → ℕ → ℕ → ℕ → Bool
  reaches entities r s t =
      is_reflexive r && s == t
      || (if is_transitive r then has_chain (upward r) (length entities - 1) s t else is_held (ids s) (pair r t))

  -- nothing leads to itself along the relationship
  abbrev pub IsAcyclic : ℕ → Type 0
  IsAcyclic r = (x : ℕ) → ¬ (HasChain (upward r) x x)

  -- the ancestors of an entity along a relationship without cycle: each target by ascending index, followed by its own ancestors
  abbrev pub ancestor_line : List ℕ → ℕ → ℕ → List ℕ
  ancestor_line entities r s = ancestor_line_within (upward r) (length entities) s

  -- how many steps the longest chain from an entity has, along a relationship without cycle
  abbrev pub depth : List ℕ → ℕ → ℕ → ℕ
  depth entities r e = depth_within (upward r) (length entities) e

-- the live entities have indexes that are given out, below the size; they alone hold ids, and their ids mention live entities alone
pub record AreLinks (size : ℕ) (entities : List ℕ) (ids : ℕ → List Id) : Type 0 where
  pub indexes : (e : ℕ) → Contains entities e → IsIndex e
  pub below : (e : ℕ) → Contains entities e → e < size
  pub held : (e : ℕ) (i : Id) → Contains (ids e) i → Contains entities e
  pub live : (e : ℕ) (i : Id) → Contains (ids e) i → All (Contains entities) (mentioned i)
