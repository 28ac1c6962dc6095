-- Values of components in memory.
use Rattle.std.specs.Prelude.{ℕ, List, [], ◌∷◌, flat_map, sum_by, take, drop, ℤ, pos, if◌then◌else◌}
use Rattle.std.specs.Int.{Width, w8, w16, w32, w64, to_le_bytes, from_le_bytes, cast_unsigned, cast_signed}
use Rattle.std.specs.List.{zip}
use Rattle.ecs_model.specs.declared.Kind.{Kind}
use Rattle.ecs_model.specs.declared.Kind.TheVariants.{I8, U8, I16, U16, I32, U32, I64, U64}
use Rattle.ecs_model.specs.Schema.{Schema, is_signed, width}

-- the machine word of a number of this kind
abbrev pub word : Kind → Width
word I8 = w8
word U8 = w8
word I16 = w16
word U16 = w16
word I32 = w32
word U32 = w32
word I64 = w64
word U64 = w64

-- the bytes of a number: little end first, and two's complement
unfoldable pub number_bytes : Kind → ℤ → List ℕ
number_bytes k z = to_le_bytes (word k) (cast_unsigned (word k) z)

-- the number that such bytes mean
unfoldable pub number_in : Kind → List ℕ → ℤ
number_in k bs =
    let n = from_le_bytes (word k) bs in
    if is_signed k then cast_signed (word k) n else pos n

-- how many bytes a value has
abbrev pub size_of : Schema → ℕ
size_of fs = sum_by (λ f. width f.kind) fs

-- the bytes of a value: its fields in order, without padding
abbrev pub value_bytes : Schema → List ℤ → List ℕ
value_bytes fs vs = flat_map (λ p. number_bytes (p.0).kind p.1) (zip fs vs)

-- the value that bytes mean
abbrev pub values_in : Schema → List ℕ → List ℤ
values_in [] bs = []
values_in (f ∷ fs) bs = number_in f.kind (take (width f.kind) bs) ∷ values_in fs (drop (width f.kind) bs)
