-- Which slot has the table of which ids: slots by the hash of ids.
use Rattle.std.specs.Prelude.{◌≡◌, ◌⊎◌, ℕ, ◌==◌, Bool, IsTrue, false, List, Option, Some, None, nat_eq}
use Rattle.std.specs.List.{Contains, fold}
use Rattle.std.specs.Cmp.Lexicographic.{pointwise}
use Rattle.std.specs.Hash as fed
use Rattle.std.specs.declared.boxed.Box.{Box}
use Rattle.indexmap.specs.IndexMap as hashed
use Rattle.secret_hashing.specs.declared.Hashing.{Hashing}
use Rattle.secret_hashing.specs.contracts.HashingBuildHasher.TheImpl as building
use Rattle.secret_hashing.specs.contracts.SecretHasherHasher.TheImpl as hashing
use Rattle.slab.specs.Slab as slots
use Rattle.slab.specs.Slab.{Slab}
use Rattle.ecs_id.specs.Id.{Id, id_eq, packed}
use Rattle.table_store.specs.declared.by_ids.ByIds.{ByIds}
use Rattle.table_store.specs.declared.store.TableSlot.{TableSlot}

-- a slot in its box
abbrev pub Held : Type 0 → Type 0
Held Y = Box (TableSlot Y) Y

-- whether two lists of ids are the same
abbrev pub ids_eq : List Id → List Id → Bool
ids_eq = pointwise id_eq

-- the hash of a list of ids, by secret numbers
unfoldable pub ids_hash : Hashing → List Id → ℕ
ids_hash secret ids = hashing.ghosts.finish (fold hashing.ghosts.write (building.ghosts.build_hasher secret) (fed.slice (λ i. fed.u64 (packed i)) ids))

-- whether the table of a slot has these ids
abbrev pub holds_ids : {Y : Type 0} → List Id → Option (Held Y) → Bool
holds_ids ids None = false
holds_ids ids (Some x) = ids_eq x.value.table.ids ids

abbrev pub has_ids : {Y : Type 0} → Slab (Held Y) → List Id → ℕ → Bool
has_ids tables ids slot = holds_ids ids (slots.get tables slot)

-- the slot is found by the hash: it is the first, or one of the others
abbrev pub HasSlot : {Y : Type 0} → ByIds Y → ℕ → ℕ → Type 0
HasSlot by_ids hash slot = (hashed.get nat_eq by_ids.first hash ≡ Some slot) ⊎ Contains by_ids.others.items slot

-- whether the first slot of the hash is this one
abbrev pub is_slot : ℕ → Option ℕ → Bool
is_slot slot None = false
is_slot slot (Some first) = first == slot

abbrev pub is_first_of : {Y : Type 0} → ByIds Y → ℕ → ℕ → Bool
is_first_of by_ids hash slot = is_slot slot (hashed.get nat_eq by_ids.first hash)

-- the slot is no longer found by the hash, unless it stood there twice
abbrev pub IsTakenOut : {Y : Type 0} → ByIds Y → ByIds Y → ℕ → ℕ → Type 0
IsTakenOut old new hash slot = HasSlot new hash slot → IsTrue (is_first_of old hash slot) × Contains old.others.items slot

-- each slot that was found is still found
pub record KeepsSlots {Y : Type 0} (old new : ByIds Y) : Type 0 where
  pub slots : (hash slot : ℕ) → HasSlot old hash slot → HasSlot new hash slot
  pub hashing : new.hashing ≡ old.hashing
