-- What an instance gets from its base, by a list of the facts that are added.
use Rattle.std.specs.Prelude.{◌≡◌, ◌↔◌, ◌⊎◌, ℕ, ◌==◌, Bool, true, not, ◌&&◌, ◌||◌, List, [], ◌∷◌, Contains, flat_map, Option, Some, None, is_some, option_and_then, if◌then◌else◌}
use Rattle.std.specs.List.{list_any}
use Rattle.std.specs.List.Sorted.{IsStrictlySortedBy}
use Rattle.std.specs.Option.{option_map_or}
use Rattle.ecs_id.specs.Id.{Id, plain, pair, first_of, id_eq, second_of}
use Rattle.ecs_model.specs.BuiltIns.{dont_inherit_mode, exclusive, inherit_mode, is_a, on_instantiate, symmetric, traversable}
use Rattle.ecs_model.specs.Copied.{has_pair, stays_behind}
use Rattle.ecs_model.specs.Links.{is_held, target_under}
use Rattle.ecs_model.specs.World.{Key, key_cmp, key_eq}

-- whether an id is among those that an entity holds and those that these facts give it, and a pair of a relationship
abbrev pub has_own : List Id → ℕ → List Key → Id → Bool
has_own held e added i = is_held held i || list_any (λ k. k.0 == e && id_eq k.1 i) added

abbrev pub pairs_with : List Id → ℕ → List Key → ℕ → Bool
pairs_with held e added r = has_pair held r || list_any (λ k. k.0 == e && is_some (target_under r k.1)) added

-- whether an id may come beside these, where its component or relationship holds these traits
abbrev pub takes_pair_own : List Id → List Id → ℕ → List Key → ℕ → Bool
takes_pair_own traits held e added r =
    not (is_held traits (plain traversable)) && not (is_held traits (plain symmetric)) && not (is_held traits (plain exclusive) && pairs_with held e added r)

abbrev pub takes_own : List Id → List Id → ℕ → List Key → Id → Bool
takes_own traits held e added (plain c) = true
takes_own traits held e added (pair r t) = takes_pair_own traits held e added r

-- whether an entity that holds these ids gets a copy of an id of its base beside these, where the id's component or relationship holds these traits
abbrev pub gets_copy : List Id → List Id → ℕ → List Key → Id → Bool
gets_copy traits held e added i =
    not (is_held traits (pair on_instantiate inherit_mode)) && not (is_held traits (pair on_instantiate dont_inherit_mode))
    && not (stays_behind i) && not (has_own held e added i) && takes_own traits held e added i

-- over the ids of each entity
module _ (ids : ℕ → List Id) where
  -- the target, if it is a new base of the entity, where these are added
  abbrev pub base_at : ℕ → List Key → ℕ → Option ℕ
  base_at e added t = if list_any (λ k. key_eq k (e, pair is_a t)) added && not (is_held (ids e) (pair is_a t)) then Some t else None

  -- the base that a fact gives its entity, where these are added with it
  abbrev pub base_among : Key → List Key → Option ℕ
  base_among k added = option_and_then (base_at k.0 added) (second_of k.1)

  -- whether the entity gets a copy of an id of its base, beside these
  abbrev pub is_copied_own : ℕ → List Key → Id → Bool
  is_copied_own e added i = gets_copy (ids (first_of i)) (ids e) e added i

  -- the copy of an id, and those of what a base holds
  abbrev pub copy_of : ℕ → List Key → Id → List Key
  copy_of e added i = if is_copied_own e added i then (e, i) ∷ [] else []

  abbrev pub copies_of : ℕ → List Key → ℕ → List Key
  copies_of e added b = flat_map (copy_of e added) (ids b)

  abbrev pub copies_of_base : ℕ → List Key → Option ℕ → List Key
  copies_of_base e added base = option_map_or (copies_of e added) base []

-- with a base its copies are put among the others, and all ascend; without one the others stay
abbrev pub IsJoined : Option ℕ → List Key → List Key → List Key → Type 0
IsJoined None old copies new = new ≡ old
IsJoined (Some b) old copies new = IsStrictlySortedBy key_cmp new × ((k : Key) → Contains new k ↔ (Contains old k ⊎ Contains copies k))
