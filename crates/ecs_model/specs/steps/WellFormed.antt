-- What every world has and every command keeps.
use Rattle.std.specs.Prelude.{◌≡◌, ℕ, ◌^◌, ◌<◌, ◌≤◌, length, IsTrue, ◌⊎◌, true, List, Some, None, IfSome}
use Rattle.ecs_id.specs.Id.{plain, pair, Id, mentioned}
use Rattle.ecs_model.specs.BuiltIns.{exclusive, symmetric, acyclic, traversable}
use Rattle.ecs_model.specs.Links.{IsAcyclic}
use Rattle.ecs_model.specs.World.{WorldState, holds, ids_of, most_ids, key_cmp, first_world, is_live, value_of, name_of, new_value, is_built_in, first_index, last_index, type_of_id}
use Rattle.std.specs.List.{list_all}
use Rattle.std.specs.Option.{option_map_or}
use Rattle.std.specs.Ordering.{nat_cmp}
use Rattle.ecs_model.specs.Map.{IsMap, count_at, value_at}
use Rattle.ecs_model.specs.Text.{is_name}
use Rattle.ecs_model.specs.Schema.{all_fit, schema_fault}

-- each of the maps has its keys in order, once each
pub record IsInOrder (w : WorldState) : Type 0 where
  pub live : IsMap nat_cmp w.live
  pub facts : IsMap key_cmp w.facts
  pub names : IsMap nat_cmp w.names
  pub schemas : IsMap nat_cmp w.schemas
  pub deletions : IsMap nat_cmp w.deletions
  pub pins : IsMap nat_cmp w.pins

-- a live entity has an index that is given out, and as its generation how often that index was deleted
pub record HasIndexes (w : WorldState) : Type 0 where
  pub given_out : (i : ℕ) → IsTrue (is_live w i) → IsTrue (is_built_in i) ⊎ ((first_index ≤ i) × (i ≤ last_index))
  pub generation : (i : ℕ) → IfSome (value_at nat_cmp w.live i) (λ g. (g ≡ count_at w.deletions i) × (g < 2 ^ 16))

-- the built-in entities are live and named, with exactly the facts of the first world, and no fields
pub record KeepsBuiltIn (w : WorldState) : Type 0 where
  pub live : (i : ℕ) → IsTrue (is_built_in i) → value_at nat_cmp w.live i ≡ Some 0
  pub names : (i : ℕ) → IsTrue (is_built_in i) → name_of w i ≡ name_of first_world i
  pub facts : (e : ℕ) (i : Id) → IsTrue (is_built_in e) → value_of w e i ≡ value_of first_world e i
  pub schemas : (i : ℕ) → IsTrue (is_built_in i) → value_at nat_cmp w.schemas i ≡ None

-- names, schemas, pins and facts are of live entities, and no two entities have one name
pub record MentionsLive (w : WorldState) : Type 0 where
  pub names : (i : ℕ) → IfSome (name_of w i) (λ n. IsTrue (is_live w i) × IsTrue (is_name n))
  pub names_differ : (i j : ℕ) (n : List ℕ) → name_of w i ≡ Some n → name_of w j ≡ Some n → i ≡ j
  pub schemas : (i : ℕ) → IfSome (value_at nat_cmp w.schemas i) (λ fs. IsTrue (is_live w i) × (schema_fault fs ≡ None))
  pub pins : (i : ℕ) → IfSome (value_at nat_cmp w.pins i) (λ n. IsTrue (is_live w i) × (0 < n) × (n < 2 ^ 64))
  pub facts : (e : ℕ) (i : Id) → IsTrue (holds w e i) → IsTrue (is_live w e) × IsTrue (list_all (is_live w) (mentioned i))

-- each fact has a value of its id's type: as many numbers as the type has fields, each in its range
abbrev pub HasTypes : WorldState → Type 0
HasTypes w = (e : ℕ) (i : Id) → IfSome (value_of w e i) (λ v. (length v ≡ length (new_value w i)) × IsTrue (option_map_or (λ fs. all_fit fs v) (type_of_id w i) true))

-- what traits ask of the facts
pub record KeepsTraits (w : WorldState) : Type 0 where
  -- an entity has one target of an exclusive relationship
  pub one_target : (e r t u : ℕ) → IsTrue (holds w r (plain exclusive)) → IsTrue (holds w e (pair r t)) → IsTrue (holds w e (pair r u)) → t ≡ u
  -- each pair of a symmetric relationship has its mirror
  pub mirrored : (e r t : ℕ) → IsTrue (holds w r (plain symmetric)) → IsTrue (holds w e (pair r t)) → IsTrue (holds w t (pair r e))
  -- what is Traversable is Acyclic
  pub traversable_acyclic : (r : ℕ) → IsTrue (holds w r (plain traversable)) → IsTrue (holds w r (plain acyclic))
  -- no acyclic relationship has a cycle
  pub no_cycle : (r : ℕ) → IsTrue (holds w r (plain acyclic)) → IsAcyclic (ids_of w) r

-- what every world has
pub record IsWellFormed (w : WorldState) : Type 0 where
  pub in_order : IsInOrder w
  pub indexes : HasIndexes w
  pub built_in : KeepsBuiltIn w
  pub live : MentionsLive w
  pub typed : HasTypes w
  pub few_ids : (e : ℕ) → length (ids_of w e) ≤ most_ids
  pub counted : w.accepted < 2 ^ 64
  pub traits : KeepsTraits w
