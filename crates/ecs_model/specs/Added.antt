-- What an added fact brings, what gives way to it, and what goes with a removed one, by the ids that each entity holds.
use Rattle.std.specs.Prelude.{ℕ, ◌==◌, Bool, not, List, [], ◌∷◌, ◌++◌, map, filter, flat_map, Contains, if◌then◌else◌}
use Rattle.std.specs.List.{list_any}
use Rattle.ecs_id.specs.Id.{Id, plain, pair, first_of}
use Rattle.ecs_model.specs.BuiltIns.{exclusive, symmetric, with_trait}
use Rattle.ecs_model.specs.Links.{is_held, targets_in, upward}
use Rattle.ecs_model.specs.Reach.{Reached}
use Rattle.ecs_model.specs.World.{Key}

-- an id with another component or relationship
abbrev pub with_first : ℕ → Id → Id
with_first c (plain d) = plain c
with_first c (pair r t) = pair c t

-- the other targets of an entity's pairs of a relationship, as facts, each with its mirror where there are mirrors
abbrev pub others_of : Bool → ℕ → ℕ → ℕ → List Id → List Key
others_of mirrored e r t is = flat_map (λ u. (e, pair r u) ∷ (if mirrored then (u, pair r e) ∷ [] else [])) (filter (λ u. not (u == t)) (targets_in is r))

module _ (ids : ℕ → List Id) where
  abbrev pub is_exclusive : ℕ → Bool
  is_exclusive r = is_held (ids r) (plain exclusive)

  abbrev pub is_symmetric : ℕ → Bool
  is_symmetric r = is_held (ids r) (plain symmetric)

  -- the mirror fact of a pair of a symmetric relationship
  abbrev pub mirror : Key → List Key
  mirror (e, plain c) = []
  mirror (e, pair r t) = if is_symmetric r then (t, pair r e) ∷ [] else []

  -- what an added fact brings: by With, and its mirror
  abbrev pub brought : Key → List Key
  brought k = map (λ c. (k.0, with_first c k.1)) (upward ids with_trait (first_of k.1)) ++ mirror k

  -- the facts that give way to a pair of an exclusive relationship: the entity's other targets, and their mirrors
  abbrev pub displaced : Key → List Key
  displaced (e, plain c) = []
  displaced (e, pair r t) = if is_exclusive r then others_of (is_symmetric r) e r t (ids e) else []

  -- the added set of k: the least one that holds k and all that its members bring
  abbrev pub IsAdded : Key → Key → Type 0
  IsAdded k z = Reached brought k z

  -- what gives way to a member of the added set of k
  abbrev pub IsReplaced : Key → Key → Type 0
  IsReplaced k z = (a : Key) × IsAdded k a × Contains (displaced a) z

  -- whether a fact uses the entity as component or relationship
  abbrev pub is_used : List ℕ → ℕ → Bool
  is_used entities c = list_any (λ e. list_any (λ i. first_of i == c) (ids e)) entities
