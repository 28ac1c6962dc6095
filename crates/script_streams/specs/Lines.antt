-- Lines as they are taken from bytes that come in pieces.
use Rattle.std.specs.Prelude.{◌≡◌, ℕ, ◌-◌, ◌≤◌, ◌==◌, Bool, true, false, List, [], ◌∷◌, ◌++◌, drop, take, length}
use Rattle.std.specs.List.{All}

-- a script has at most so many bytes
abbrev pub most_bytes : ℕ
most_bytes = 16777216

-- as far as a line is kept: a longer one is too long, whatever else it has
abbrev pub kept : List ℕ → List ℕ
kept line = take 4097 line

-- no line feed stands in a list
abbrev pub HasNoEnd : List ℕ → Type 0
HasNoEnd bytes = All (λ b. (b == 10) ≡ false) bytes

-- the line that was taken last, the beginning of one whose end hasn't come, the bytes after it that are in no line yet,
-- and how many bytes were read in all
pub record Held : Type 0 where
  pub line : List ℕ
  pub front : List ℕ
  pub unread : List ℕ
  pub read : ℕ

-- a line is taken where its end has come, and else all bytes are in the beginning of one
abbrev pub TakesLine : Bool → Held → Held → Type 0
TakesLine true old new =
    (rest : List ℕ) × (old.unread ≡ rest ++ 10 ∷ new.unread) × HasNoEnd rest × (kept new.line ≡ kept (old.front ++ rest)) × (new.front ≡ [])
TakesLine false old new = HasNoEnd old.unread × (new.unread ≡ []) × (new.front ≡ kept (old.front ++ old.unread))

-- how many bytes are read at once at most
abbrev pub piece_size : ℕ
piece_size = 16384

-- the bytes between two places
abbrev pub part : ℕ → ℕ → List ℕ → List ℕ
part begin end bytes = take (end - begin) (drop begin bytes)

-- places in a piece of bytes, the beginning of a line, and a count fit
pub record IsHeld (begin end line_begin line_end : ℕ) (piece front : List ℕ) (read : ℕ) : Type 0 where
  pub whole : length piece ≡ piece_size
  pub ascends : begin ≤ end
  pub within : end ≤ piece_size
  pub line_ascends : line_begin ≤ line_end
  pub line_within : line_end ≤ piece_size
  pub few : length front ≤ 4097
  pub fits : read ≤ most_bytes
