-- How far a run has come.
use Rattle.std.specs.Prelude.{◌≡◌, ◌+◌, ◌≤◌, ℕ, List, [], ◌++◌, length, Option, None, cond}
use Rattle.std.specs.Io.KnownBytes.{Appends, Consumes}
use Rattle.ecs_model.specs.Output.{Effect, effects_of, output_of}
use Rattle.ecs_model.specs.stored.Session.{SessionState, first_session}
use Rattle.ecs_observe.specs.Standing.{session_of}
use Rattle.script_streams.specs.Lines.{Held, HasNoEnd, kept, most_bytes}
use Rattle.script_streams.specs.declared.lines.FillError.{FillError}
use Rattle.script_streams.specs.declared.lines.FillError.TheVariants as fill
use Rattle.world_query.specs.declared.sending.SendError.{SendError}
use Rattle.world_query.specs.declared.sending.SendError.TheVariants as send
use Rattle.world_script.specs.declared.errors.RunError.{RunError}
use Rattle.world_script.specs.declared.errors.RunError.TheVariants as run
use Rattle.world_script.specs.declared.interpreters.Interpreter.{Interpreter}
use Rattle.world_script.specs.declared.lines.Summary.{Summary}
use Rattle.world_script.specs.declared.runners.Runner.{Runner}
use Rattle.world_script.specs.Run.{effects_from, line_effect, refused_among}
use Rattle.world_script.specs.Whole.{EndsInFeed}

-- the lines of a script were run: so much was printed and counted
pub record HasRun (script printed : List ℕ) (summary : Summary) : Type 0 where
  pub printed_is : printed ≡ output_of script
  pub lines_are : summary.lines ≡ length (effects_of script)
  pub refused_are : summary.refused ≡ refused_among (effects_of script)
  pub few : summary.lines ≤ length script
  pub few_refused : summary.refused ≤ summary.lines

-- whatever stands after these lines is run from this session on
abbrev pub GoesOn : List ℕ → SessionState → Summary → Type 0
GoesOn whole s summary = (rest : List ℕ) → effects_of (whole ++ rest) ≡ effects_of whole ++ effects_from s (summary.lines + 1) rest

-- of the bytes that were read, the whole lines were run but for those in bytes that are unread; what they printed was
-- written, but for the output
pub record IsRunning (told left old new : Option (List ℕ)) (held : Held) (session : SessionState) (summary : Summary) (output : List ℕ) : Type 0 where
  pub whole : List ℕ
  pub part : List ℕ
  pub written : List ℕ
  pub bytes : Consumes told left (whole ++ part ++ held.unread)
  pub counted : held.read ≡ length (whole ++ part ++ held.unread)
  pub fits : held.read ≤ most_bytes
  pub ends : EndsInFeed whole
  pub inside : HasNoEnd part
  pub front : held.front ≡ kept part
  pub wrote : Appends old new written
  pub goes_on : GoesOn whole session summary
  pub has_run : HasRun whole (written ++ output) summary

-- a runner has come so far
abbrev pub IsUnderWay : {A : Type 0} → Option (List ℕ) → Option (List ℕ) → Option (List ℕ) → Option (List ℕ) → Runner A → Type 0
IsUnderWay told left old new r = IsRunning told left old new r.lines (session_of (r.interpreter).session) (r.interpreter).summary ((r.interpreter).output).items

-- no line was run yet
pub record IsFirst {A : Type 0} (i : Interpreter A) : Type 0 where
  pub session : session_of i.session ≡ first_session
  pub none_wait : (i.session).waiting ≡ None
  pub summary : i.summary ≡ record { lines = 0; refused = 0 }
  pub output : i.output.items ≡ []

-- a line was run: the session is as it leaves it, what it prints was added to the output, and it was counted
pub record RunsLine (e : Effect) (session : SessionState) (before after : List ℕ) (old new : Summary) : Type 0 where
  pub session_left : session ≡ e.session
  pub printed : after ≡ before ++ e.printed
  pub counted : new ≡ record { lines = old.lines + 1; refused = old.refused + cond e.refused 1 0 }

-- what a line does as the next one
abbrev pub next_effect : {A : Type 0} → Interpreter A → List ℕ → Effect
next_effect i line = line_effect (session_of i.session) ((i.summary).lines + 1) line

-- a line was run as the next one, and of what it prints and of what stood before it a front was sent
abbrev pub RunsNext : {A : Type 0} → List ℕ → Interpreter A → Interpreter A → Option (List ℕ) → Option (List ℕ) → Type 0
RunsNext line i j old new = (sent : List ℕ) × Appends old new sent × RunsLine (next_effect i line) (session_of j.session) i.output.items (sent ++ j.output.items) i.summary j.summary

-- all lines were run, and what they printed was written but for the output
pub record HasEnded (told left old new : Option (List ℕ)) (summary : Summary) (output : List ℕ) : Type 0 where
  pub script : List ℕ
  pub written : List ℕ
  pub bytes : Consumes told left script
  pub fits : length script ≤ most_bytes
  pub wrote : Appends old new written
  pub has_run : HasRun script (written ++ output) summary

-- how a run answers where no more bytes came
abbrev pub run_error : FillError → RunError
run_error fill.Read = run.Read
run_error fill.TooLong = run.TooLong

-- how it answers where rows were not sent
abbrev pub send_error : SendError → RunError
send_error send.Memory = run.Memory
send_error send.Write = run.Write
