-- Lists of facts.
use Rattle.std.specs.Prelude.{◌↔◌, ℕ, Bool, List, All, Contains}
use Rattle.std.specs.List.Sorted.{IsStrictlySortedBy}
use Rattle.ecs_id.specs.Id.{Id, mentioned}
use Rattle.ecs_model.specs.Added.{displaced}
use Rattle.ecs_model.specs.Links.{is_held}
use Rattle.ecs_model.specs.World.{Key, key_cmp}

-- the facts with P, in order, each once
pub record IsListOf (P : Key → Type 0) (ks : List Key) : Type 0 where
  pub ascends : IsStrictlySortedBy key_cmp ks
  pub exact : (k : Key) → Contains ks k ↔ P k

-- the fact's entity lives, and all that its id mentions
abbrev pub IsOfLive : List ℕ → Key → Type 0
IsOfLive entities k = Contains entities k.0 × All (Contains entities) (mentioned k.1)

-- over the ids of each entity
module _ (ids : ℕ → List Id) where
  -- whether the fact is held
  abbrev pub is_fact : Key → Bool
  is_fact k = is_held (ids k.0) k.1

  -- the fact gives way to one of these
  abbrev pub GivesWay : List Key → Key → Type 0
  GivesWay ks z = (a : Key) × Contains ks a × Contains (displaced ids a) z
