-- Components' fields.
use Rattle.std.specs.Prelude.{ℕ, ◌-◌, ◌*◌, ◌^◌, Bool, true, false, not, ◌&&◌, ◌||◌, List, [], ◌∷◌, map, length, ℤ, pos, neg_ℤ, int_lt, int_le, nat_lt, ◌==◌, bytes_eq, Option, Some, None, if◌then◌else◌}
use Rattle.std.specs.List.{list_any, list_all, zip}
use Rattle.ecs_model.specs.declared.Kind.{Kind}
use Rattle.ecs_model.specs.declared.Kind.TheVariants.{I8, U8, I16, U16, I32, U32, I64, U64}
use Rattle.ecs_model.specs.declared.faults.SchemaFault.{SchemaFault}
use Rattle.ecs_model.specs.declared.faults.SchemaFault.TheVariants.{TooManyFields, NoFields, BadField}
use Rattle.ecs_model.specs.Text.{is_name}

-- whether a kind has negative numbers
abbrev pub is_signed : Kind → Bool
is_signed I8 = true
is_signed I16 = true
is_signed I32 = true
is_signed I64 = true
is_signed _ = false

-- the bytes of a number of this kind
abbrev pub width : Kind → ℕ
width I8 = 1
width U8 = 1
width I16 = 2
width U16 = 2
width I32 = 4
width U32 = 4
width I64 = 8
width U64 = 8

-- whether a number is in the kind's range
abbrev pub fits_kind : Kind → ℤ → Bool
fits_kind k z =
    let bits = 8 * width k in
    if is_signed k then int_le (neg_ℤ (pos (2 ^ (bits - 1)))) z && int_lt z (pos (2 ^ (bits - 1)))
    else int_le (pos 0) z && int_lt z (pos (2 ^ bits))

-- a field is a name and a kind
pub record Field : Type 0 where
  pub name : List ℕ
  pub kind : Kind

-- a component's fields in order
abbrev pub Schema : Type 0
Schema = List Field

-- whether a field has the same name as one after it
abbrev pub repeats_name : Schema → Bool
repeats_name [] = false
repeats_name (f ∷ fs) = list_any (λ g. bytes_eq f.name g.name) fs || repeats_name fs

-- the first fault of a list of fields: more than eight, none, a field that has no name or another's name
abbrev pub schema_fault : Schema → Option SchemaFault
schema_fault fs =
    if nat_lt 8 (length fs) then Some TooManyFields
    else if length fs == 0 then Some NoFields
    else if not (list_all (λ f. is_name f.name) fs) || repeats_name fs then Some BadField
    else None

-- a new value
abbrev pub zeros : Schema → List ℤ
zeros fs = map (λ f. pos 0) fs

-- whether each value is in the range of the field at its place
abbrev pub all_fit : Schema → List ℤ → Bool
all_fit fs vs = list_all (λ p. fits_kind (p.0).kind p.1) (zip fs vs)
