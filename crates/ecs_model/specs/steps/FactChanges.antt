-- What each command does to the facts, and who is deleted.
use Rattle.std.specs.Prelude.{◌≡◌, ℕ, ◌*◌, ◌==◌, Bool, not, ◌&&◌, ◌||◌, List, [], ◌∷◌, ◌++◌, filter, filter_map, flat_map, fold, length, ℤ, Option, Some, None, unwrap_or, if◌then◌else◌}
use Rattle.std.specs.List.{Contains, list_any}
use Rattle.std.specs.Option.{option_map_or}
use Rattle.std.specs.Ordering.{nat_cmp}
use Rattle.ecs_id.specs.Id.{Id, plain, pair, mentioned}
use Rattle.ecs_model.specs.Added.{brought, displaced, mirror}
use Rattle.ecs_model.specs.BuiltIns.{is_a}
use Rattle.ecs_model.specs.Copied.{is_copied}
use Rattle.ecs_model.specs.Cleanup.{falling}
use Rattle.ecs_model.specs.Map.{Map, has_key, keys, with_value, without}
use Rattle.ecs_model.specs.Sets.{Set, with_member, within}
use Rattle.ecs_model.specs.World.{WorldState, Key, key_cmp, key_eq, entities, holds, ids_of, value_of, new_value}
use Rattle.ecs_model.specs.steps.Rules.{forbids}

-- the facts with this one, with a new value if it isn't held yet
abbrev pub with_new : WorldState → Map Key (List ℤ) → Key → Map Key (List ℤ)
with_new w facts k = if has_key key_cmp facts k then facts else with_value key_cmp facts k (new_value w k.1)

module _ (w : WorldState) where
  -- the added set: the least one that holds the fact and all that its members bring. Each has the entity and the target of the fact, or these two turned round, so there are no more than two for each live entity as component or relationship
  unfoldable pub added : ℕ → Id → Set Key
  added e i = within key_cmp (brought (ids_of w)) (2 * length (entities w)) (e, i)

  -- what gives way to its members
  unfoldable pub replaced : ℕ → Id → List Key
  replaced e i = flat_map (displaced (ids_of w)) (keys (added e i))

  -- after the added set came: what gives way has gone, and what was added and not held has come with new values
  unfoldable pub facts_with_added : ℕ → Id → Map Key (List ℤ)
  facts_with_added e i = fold (with_new w) (without key_cmp w.facts (λ k. list_any (key_eq k) (replaced e i))) (keys (added e i))

  -- the base that `add` gives the entity: the target of an added fact of IsA that isn't held yet. The added pairs of the entity have the target of its fact
  unfoldable pub new_base : ℕ → Id → Option ℕ
  new_base e (plain c) = None
  new_base e (pair r t) = if has_key key_cmp (added e (pair r t)) (e, pair is_a t) && not (holds w e (pair is_a t)) then Some t else None

  -- the ids that an entity holds, and those that are added to it
  abbrev pub own_ids : ℕ → Id → List Id
  own_ids e i = ids_of w e ++ filter_map (λ k. if k.0 == e then Some k.1 else None) (keys (added e i))

  -- the ids of a base that are copied to the entity
  unfoldable pub copied : ℕ → Id → ℕ → List Id
  copied e i b = filter (is_copied (ids_of w) (own_ids e i)) (ids_of w b)

  -- the facts with a copy of a base's fact, which has the same value
  abbrev pub with_copy : ℕ → ℕ → Map Key (List ℤ) → Id → Map Key (List ℤ)
  with_copy e b facts c = with_value key_cmp facts (e, c) (unwrap_or (value_of w b c) [])

  -- what `add` brings: the added set, and with a new base the copies of its facts
  abbrev pub coming : ℕ → Id → Set Key
  coming e i = option_map_or (λ b. fold (λ s c. with_member key_cmp s (e, c)) (added e i) (copied e i b)) (new_base e i) (added e i)

  -- a fact is a copy: it is the entity's, of an id that is copied from its new base
  abbrev pub IsCopied : ℕ → Id → Key → Type 0
  IsCopied e i k = (b : ℕ) × (new_base e i ≡ Some b) × (k.0 ≡ e) × Contains (copied e i b) k.1

  -- after `add`: the added set came, and with a new base its facts were copied
  unfoldable pub facts_after_add : ℕ → Id → Map Key (List ℤ)
  facts_after_add e i = option_map_or (λ b. fold (with_copy e b) (facts_with_added e i) (copied e i b)) (new_base e i) (facts_with_added e i)

  -- the facts that `remove` takes: this one and its mirror
  abbrev pub removed : ℕ → Id → List Key
  removed e i = (e, i) ∷ mirror (ids_of w) (e, i)

  -- after `remove`
  unfoldable pub facts_after_remove : ℕ → Id → Map Key (List ℤ)
  facts_after_remove e i = without key_cmp w.facts (λ k. list_any (key_eq k) (removed e i))

  -- the deleted set: the least one that holds the entity and all who fall with its members
  unfoldable pub deleted : ℕ → Set ℕ
  deleted e = within nat_cmp (falling (ids_of w) (entities w)) (length (entities w)) e

  module _ (gone : Set ℕ) where
    -- whether an entity that stays forbids that one of these goes
    abbrev pub is_forbidden : Bool
    is_forbidden = list_any (λ y. not (has_key nat_cmp gone y) && list_any (λ i. list_any (λ x. forbids (ids_of w) x i) (keys gone)) (ids_of w y)) (entities w)

    -- whether a fact mentions one of these: as entity, component, relationship or target
    abbrev pub mentions_gone : Key → Bool
    mentions_gone k = has_key nat_cmp gone k.0 || list_any (has_key nat_cmp gone) (mentioned k.1)

    -- after these are deleted
    unfoldable pub facts_after_delete : Map Key (List ℤ)
    facts_after_delete = without key_cmp w.facts mentions_gone
