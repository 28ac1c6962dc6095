-- The traits that a set has bits for.
use Rattle.std.specs.Prelude.{◌≡◌, ℕ, ◌+◌, ◌^◌, ◌<◌, ◌==◌, List, [], ◌∷◌, if◌then◌else◌, slice_index_or}
use Rattle.std.specs.Int.RustNames.{bit_and, bit_or}
use Rattle.ecs_id.specs.Id.{Id, plain, pair}
use Rattle.ecs_model.specs.BuiltIns.{exclusive, symmetric, transitive, reflexive, acyclic, traversable, on_delete, on_delete_target, delete_mode, panic_mode, on_instantiate, inherit_mode, dont_inherit_mode}
use Rattle.ecs_model.specs.Links.{is_held}
use Rattle.ecs_model.specs.World.{pair_is_tag}

-- the trait of each bit, from the lowest one
abbrev pub trait_ids : List Id
trait_ids =
    plain exclusive ∷ plain symmetric ∷ plain transitive ∷ plain reflexive ∷ plain acyclic ∷ plain traversable ∷ plain pair_is_tag
    ∷ pair on_delete delete_mode ∷ pair on_delete panic_mode ∷ pair on_delete_target delete_mode ∷ pair on_delete_target panic_mode
    ∷ pair on_instantiate inherit_mode ∷ pair on_instantiate dont_inherit_mode ∷ []

-- the bit of an id that is held
abbrev pub bit_if : List Id → Id → ℕ → ℕ
bit_if held i n = if is_held held i then n else 0

-- a bit for each of these that is held, from bit k on
unfoldable pub bits_from : List Id → ℕ → List Id → ℕ
bits_from held k [] = 0
bits_from held k (i ∷ is) = bit_or (bits_from held (k + 1) is) (bit_if held i (2 ^ k))

-- the set has the bits of the traits that are held
abbrev pub AreTraits : List Id → ℕ → Type 0
AreTraits held n = (b : ℕ) → b < 13 → (bit_and n (2 ^ b) == 2 ^ b) ≡ is_held held (slice_index_or trait_ids b (plain 0))
