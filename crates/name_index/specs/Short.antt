-- Short names as keys: sixteen bytes, of which the last is the length.
use Rattle.std.specs.Prelude.{◌≡◌, ℕ, ◌+◌, ◌-◌, ◌≤◌, Bool, List, [], ◌∷◌, ◌++◌, length, nat_le, replicate, slice_index, take}
use Rattle.std.specs.Int.{w64, from_le_bytes}
use Rattle.std.specs.Str.{IsUtf8}

-- whether a text is one of at most 15 bytes
abbrev pub is_short : List ℕ → Bool
is_short text = nat_le (length text) 15

-- the bytes of a key
abbrev pub padded : List ℕ → List ℕ
padded text = text ++ replicate (15 - length text) 0 ++ length text ∷ []

-- the text of a key
abbrev pub text_in : List ℕ → List ℕ
text_in bytes = take (slice_index bytes 15) bytes

-- sixteen bytes that are the key of a text
pub record IsKey (bytes : List ℕ) : Type 0 where
  pub whole : bytes ≡ padded (text_in bytes)
  pub count : slice_index bytes 15 ≤ 15
  pub utf8 : IsUtf8 (text_in bytes)

-- eight bytes as a number
abbrev pub word_at : List ℕ → ℕ → ℕ
word_at bytes at =
    from_le_bytes w64 (slice_index bytes at ∷ slice_index bytes (at + 1) ∷ slice_index bytes (at + 2) ∷ slice_index bytes (at + 3)
    ∷ slice_index bytes (at + 4) ∷ slice_index bytes (at + 5) ∷ slice_index bytes (at + 6) ∷ slice_index bytes (at + 7) ∷ [])
