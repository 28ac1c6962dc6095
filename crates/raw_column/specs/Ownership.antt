-- What the parts of a block own and lend.
use Rattle.std.specs.Prelude.{ℕ, ◌+◌, ◌^◌, List, length}
use mir.Syntax.{Ty, w8, ty_int, ty_array}
use base.Fraction.{full_share}
use base.Fml.{Lft, Fml, fsep, flt}
use denote.Builtin.{u8}
use denote.Array.{Array}
use denote.Sharing.{said, beside}
use denote.Struct.Lending.{lent_at}
use denote.RawPtr.{Ptr, block_ptr, null_ptr, room_for, lies_at}

-- the type of a block of n bytes
abbrev pub bytes_type : ℕ → Ty
bytes_type n = ty_array (ty_int w8) n

-- k bytes further on
abbrev pub past : Ptr → ℕ → Ptr
past (block_ptr b o) k = block_ptr b (k + o)
past null_ptr k = null_ptr

abbrev pub bytes_own : Ptr → List ℕ → Fml
bytes_own p xs = fsep (flt (length xs) (2 ^ 63)) (lies_at (Array u8 (length xs)) full_share p xs)

abbrev pub bytes_lent : Ptr → List ℕ → Lft → Fml
bytes_lent p xs = beside (said (flt (length xs) (2 ^ 63))) (lent_at (Array u8 (length xs)) p xs)

-- the bytes xs, and after them n places that hold no value
abbrev pub filling_owns : Ptr → List ℕ → ℕ → Fml
filling_owns p xs n = fsep (flt (length xs + n) (2 ^ 63)) (fsep (lies_at (Array u8 (length xs)) full_share p xs) (room_for (bytes_type n) (past p (length xs))))

-- the allocator's token for a block of n bytes
abbrev pub deed_owns : (Ty → Ptr → Fml) → Ptr → ℕ → Fml
deed_owns token p n = token (bytes_type n) p
