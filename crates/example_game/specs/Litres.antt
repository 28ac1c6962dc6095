-- What the game reads of a row.
use Rattle.std.specs.Prelude.{List, ℤ, Option, Some, None, get_or, slice_get}
use Rattle.flecsq_ecs.specs.Rows.{Field, Unset, Shown, Row}

-- the first number of a field's value
abbrev pub first_number : Field → Option ℤ
first_number Unset = None
first_number (Shown source id None) = None
first_number (Shown source id (Some numbers)) = slice_get numbers 0

-- the litres of a row's ship, which its first field shows
abbrev pub litres_in : Row → Option ℤ
litres_in row = first_number (get_or row.fields 0 Unset)
