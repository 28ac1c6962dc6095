-- A writer to memory.
use Rattle.std.specs.Prelude.{◌≡◌, ℕ, List, length, take, drop, min}
use Rattle.script_streams.specs.declared.streams.Calls.{Calls}

-- what was written, and what is known of the writes
pub record WritingState : Type 0 where
  pub written : List ℕ
  pub calls : Calls

-- these bytes were copied to a buffer's beginning, and the rest of the buffer is as it was
pub record Wrote (bytes before after : List ℕ) (count : ℕ) : Type 0 where
  pub many : count ≡ length bytes
  pub copied : take count after ≡ bytes
  pub left : drop count after ≡ drop count before

-- as many of them as fit were
pub record Copies (bytes before after : List ℕ) (count : ℕ) : Type 0 where
  pub many : count ≡ min (length bytes) (length before)
  pub copied : take count after ≡ take count bytes
  pub left : drop count after ≡ drop count before
