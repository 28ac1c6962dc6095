-- What is known of the calls of readers and writers so far.
use Rattle.std.specs.Prelude.{◌≡◌, ℕ, ◌+◌, ◌<◌, ◌==◌, ◌⊎◌, min, Bool, true, false, not, ◌&&◌, ◌||◌, List, length, take, Option, Result, Ok, Err, ◌≤◌}
use Rattle.std.specs.Io.KnownBytes.{Appends}
use Rattle.script_streams.specs.declared.streams.Stop.{Stop}
use Rattle.script_streams.specs.declared.streams.Stop.TheVariants.{Interrupted, Failed}
use Rattle.script_streams.specs.declared.streams.Calls.{Calls}

-- one more call was interrupted; from 65 on they are counted no further
abbrev pub interrupted : Calls → Calls
interrupted c = record c { interruptions = min (c.interruptions + 1) 65 }

-- a call was answered, and has failed or not
abbrev pub answered : Bool → Calls → Calls
answered fails c = record { interruptions = 0; has_failed = c.has_failed || fails }

-- what is known after a read that answered so
abbrev pub after_read : Result ℕ Stop → Calls → Calls
after_read (Ok n) c = answered false c
after_read (Err Interrupted) c = interrupted c
after_read (Err Failed) c = answered true c

-- what is known after a write of these bytes that answered so: to take none of them is a failure too
abbrev pub after_write : Result ℕ Stop → List ℕ → Calls → Calls
after_write (Ok n) bytes c = answered (n == 0 && not (length bytes == 0)) c
after_write (Err Interrupted) bytes c = interrupted c
after_write (Err Failed) bytes c = answered true c

-- a call has failed, or the last one was interrupted
abbrev pub IsStopped : Calls → Type 0
IsStopped c = (c.has_failed ≡ true) ⊎ (0 < c.interruptions)

-- a call between the two has failed or was interrupted, and none before
abbrev pub StopsBetween : Calls → Calls → Type 0
StopsBetween old new = ¬ IsStopped old × IsStopped new

-- no call has failed, and so many of the last in a row were interrupted
pub record IsInterrupted (n : ℕ) (c : Calls) : Type 0 where
  pub failed : c.has_failed ≡ false
  pub times : c.interruptions ≡ n

abbrev pub IsCalm : Calls → Type 0
IsCalm c = IsInterrupted 0 c

-- a call has failed, or 65 in a row were interrupted
abbrev pub IsFaulty : Calls → Type 0
IsFaulty c = (c.has_failed ≡ true) ⊎ (c.interruptions ≡ 65)

-- where the calls were calm, they are so after an answer, and faulty after a fault
abbrev pub StaysCalm : {T E : Type 0} → Calls → Result T E → Calls → Type 0
StaysCalm old (Ok answer) new = IsCalm old → IsCalm new
StaysCalm old (Err fault) new = IsCalm old → IsFaulty new

-- what has been taken grew by a prefix of the bytes
abbrev pub TakesFront : Option (List ℕ) → Option (List ℕ) → List ℕ → Type 0
TakesFront old new bytes = (n : ℕ) × (n ≤ length bytes) × Appends old new (take n bytes)
