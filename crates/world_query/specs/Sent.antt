-- What has become of a text where a writer takes what stands in a list before it is whole.
use Rattle.std.specs.Prelude.{◌≡◌, ◌≤◌, ⊤, ℕ, List, [], ◌++◌, length, max, Contains, Option, Result, Ok, Err, IsErrAnd, OnErr, OnOk}
use Rattle.std.specs.Io.KnownBytes.{Appends}
use Rattle.ecs_print.specs.Stops.{StopsWithin}
use Rattle.script_streams.specs.declared.streams.Calls.{Calls}
use Rattle.script_streams.specs.Streams.{IsCalm, IsFaulty}
use Rattle.world_query.specs.declared.sending.Outlet.{Outlet}
use Rattle.world_query.specs.declared.sending.SendError.{SendError}
use Rattle.world_query.specs.declared.sending.SendError.TheVariants.{Memory, Write}

-- the text was appended to what the list held, and the writer has taken a prefix of that
pub record IsSent (old new : Option (List ℕ)) (before after text : List ℕ) : Type 0 where
  pub sent : List ℕ
  pub wrote : Appends old new sent
  pub whole : sent ++ after ≡ before ++ text

-- memory was refused, and no write failed
abbrev pub IsMemory : SendError → Type 0
IsMemory Memory = ⊤
IsMemory Write = ⊥

abbrev pub IsRefused : {T : Type 0} → Result T SendError → Type 0
IsRefused r = IsErrAnd r IsMemory

-- a prefix of the text was appended to what the list held. The writer has taken some of that, which has left the list,
-- and in a write that failed one more part, with which the list begins: none where memory was refused
pub record StopsSending (refused : Type 0) (old new : Option (List ℕ)) (before after text : List ℕ) : Type 0 where
  pub sent : List ℕ
  pub part : List ℕ
  pub unsent : List ℕ
  pub wrote : Appends old new (sent ++ part)
  pub held : after ≡ part ++ unsent
  pub none : refused → part ≡ []
  pub stops : StopsWithin before (sent ++ after) text

-- where the calls of a writer were calm, they are faulty after a fault of a write, and calm after any other answer
abbrev pub FailsAtWrite : {T : Type 0} → Calls → Result T SendError → Calls → Type 0
FailsAtWrite old answer new = IsCalm old → (answer ≡ Err Write → IsFaulty new) × (¬ (answer ≡ Err Write) → IsCalm new)

-- a list holds one of these lines, and before it at most so many bytes
pub record HoldsOneLine (most : ℕ) (lines : List (List ℕ)) (after : List ℕ) : Type 0 where
  pub held : List ℕ
  pub line : List ℕ
  pub is : after ≡ held ++ line
  pub few : length held ≤ most
  pub one : Contains lines line

-- where a write failed, it does: so no more than that is kept from the writer at any time
abbrev pub HoldsAtFault : {T : Type 0} → ℕ → List (List ℕ) → Result T SendError → List ℕ → Type 0
HoldsAtFault most lines (Ok _) after = ⊤
HoldsAtFault most lines (Err Memory) after = ⊤
HoldsAtFault most lines (Err Write) after = HoldsOneLine most lines after

-- where so many bytes may stand, none are sent
abbrev pub most_usize : ℕ
most_usize = 18446744073709551615

-- an outlet is the same, though its writer may have taken bytes: none where so many may wait
pub record IsSameOutlet {W : Type 0} (old new : Outlet W) : Type 0 where
  pub most : new.most ≡ old.most
  pub writer : new.writer.ghost_name ≡ old.writer.ghost_name
  pub kept : old.most ≡ most_usize → new.writer.now ≡ old.writer.now

-- a text of these lines was put behind what a list held, and went out as it came: no more than may wait, or than was there before, is left. Or a front of it was, and where a write failed the list holds one line more than that
pub record Sends {T W : Type 0} (contents : W → Option (List ℕ)) (calls : W → Calls) (text : List ℕ) (lines : List (List ℕ)) (old : Outlet W) (before : List ℕ) (result : Result T SendError) (new : Outlet W) (after : List ℕ) : Type 0 where
  pub outlet : IsSameOutlet old new
  pub rows : OnOk result (IsSent (contents old.writer.now) (contents new.writer.now) before after text)
  pub few : OnOk result (length after ≤ max old.most (length before))
  pub front : OnErr result (StopsSending (IsRefused result) (contents old.writer.now) (contents new.writer.now) before after text)
  pub held : HoldsAtFault (max old.most (length before)) lines result after
  pub writes : FailsAtWrite (calls old.writer.now) result (calls new.writer.now)

-- what a list held was sent, or no more stands there than may wait; where a write failed, a front of it was sent, and the list is as it was
pub record Drains {T W : Type 0} (contents : W → Option (List ℕ)) (calls : W → Calls) (old : Outlet W) (before : List ℕ) (result : Result T SendError) (new : Outlet W) (after : List ℕ) : Type 0 where
  pub outlet : IsSameOutlet old new
  pub sent : OnOk result (IsSent (contents old.writer.now) (contents new.writer.now) before after [])
  pub unsent : OnOk result (length after ≤ old.most)
  pub front : (text : List ℕ) → OnErr result (StopsSending (IsRefused result) (contents old.writer.now) (contents new.writer.now) before after text)
  pub same : OnErr result (after ≡ before)
  pub writes : FailsAtWrite (calls old.writer.now) result (calls new.writer.now)
