-- The bytes of a `Buffer`, and what holds of its allocation.
use Rattle.std.specs.Prelude.{◌≡◌, ℕ, ◌^◌, ◌<◌, List, [], length, Option, Some, None, ⊤}
use Rattle.raw_column.specs.declared.buffer.Allocation.{Allocation}

module _ {A : Type 0} where
  abbrev pub bytes_of : Option (Allocation A) → List ℕ
  bytes_of (Some b) = b.bytes.items
  bytes_of None = []

  -- the parts are those of one block, which goes back to the allocator h
  abbrev pub IsPlaced : Option (Allocation A) → A → Type 0
  IsPlaced (Some b) h = (b.bytes.at ≡ b.base.ptr) × (length b.bytes.items ≡ b.len) × (b.deed.at ≡ b.base.ptr) × (b.deed.len ≡ b.len) × (b.deed.alloc ≡ h) × (b.len < 2 ^ 63)
  IsPlaced None h = ⊤
