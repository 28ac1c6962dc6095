-- What a tape holds, and what its calls do, turn by turn.
use Rattle.std.specs.Prelude.{◌≡◌, ◌⊎◌, ℕ, ◌^◌, ◌-◌, min, max, false, List, [], ◌∷◌, drop, Result, Ok, Err}
use Rattle.script_streams.specs.declared.streams.Calls.{Calls}
use Rattle.script_streams.specs.declared.streams.Stop.{Stop}
use Rattle.script_streams.specs.declared.streams.Stop.TheVariants.{Failed}
use Rattle.script_streams.specs.declared.tapes.Turn.{Turn}
use Rattle.script_streams.specs.declared.tapes.Turn.TheVariants as turn

-- a tape: all its bytes, how many of them were given to reads, the turns to come, and what is known of the calls so far
pub record TapeState : Type 0 where
  pub bytes : List ℕ
  pub given : ℕ
  pub turns : List Turn
  pub calls : Calls

-- a tape with these bytes and turns, of which nothing was asked
abbrev pub new_tape : List ℕ → List Turn → TapeState
new_tape bytes turns = record { bytes = bytes; given = 0; turns = turns; calls = record { interruptions = 0; has_failed = false } }

-- the turn that comes next: after the last, all bytes pass
abbrev pub next_turn : List Turn → Turn
next_turn [] = turn.Pass (2 ^ 64 - 1)
next_turn (t ∷ ts) = t

-- how many bytes a read passes, with so much room and so many left: at least one, where there is one
abbrev pub passed : ℕ → ℕ → ℕ → ℕ
passed most room left = min (min (max most 1) room) left

-- a read does what the turn says
abbrev pub ReadsBy : Turn → ℕ → ℕ → Result ℕ Stop → Type 0
ReadsBy (turn.Pass most) room left answer = answer ≡ Ok (passed most room left)
ReadsBy (turn.Stop stop) room left answer = answer ≡ Err stop

-- a write does what the turn says, or fails where memory is refused
abbrev pub WritesBy : Turn → ℕ → Result ℕ Stop → Type 0
WritesBy (turn.Pass most) count answer = (answer ≡ Ok (min most count)) ⊎ (answer ≡ Err Failed)
WritesBy (turn.Stop stop) count answer = answer ≡ Err stop

-- a read takes the next turn, and does what it says
abbrev pub ReadsInTurn : List Turn → ℕ → ℕ → Result ℕ Stop → List Turn → Type 0
ReadsInTurn turns room left answer later = ReadsBy (next_turn turns) room left answer × (later ≡ drop 1 turns)

-- and so does a write
abbrev pub WritesInTurn : List Turn → ℕ → Result ℕ Stop → List Turn → Type 0
WritesInTurn turns count answer later = WritesBy (next_turn turns) count answer × (later ≡ drop 1 turns)
