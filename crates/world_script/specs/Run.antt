-- What the lines of a script do, from any session on.
use Rattle.std.specs.Prelude.{◌≡◌, ℕ, Bool, List, ◌++◌, flat_map, count_by, IfOk, Option, Result, Ok, Err}
use Rattle.std.specs.Io.KnownBytes.{Appends}
use Rattle.std.specs.declared.alloc.AllocError.{AllocError}
use Rattle.ecs_id.specs.declared.EntityId.{EntityId}
use Rattle.ecs_id.specs.Id.{Id}
use Rattle.ecs_model.specs.stored.Session.{SessionState}
use Rattle.ecs_model.specs.Orders.{EntityRef, IdRef}
use Rattle.ecs_model.specs.Script.{Form, form_of, lines_of}
use Rattle.ecs_model.specs.Output.{Effect, effect_of, effects}
use Rattle.ecs_observe.specs.Commands.{FindsBoth}
use Rattle.ecs_observe.specs.Standing.{session_of}
use Rattle.script_streams.specs.declared.streams.Calls.{Calls}
use Rattle.script_streams.specs.Streams.{TakesFront}
use Rattle.world_query.specs.declared.sending.SendError.{SendError}
use Rattle.world_query.specs.declared.sending.SendError.TheVariants.{Memory}
use Rattle.world_query.specs.Sent.{FailsAtWrite, most_usize}
use Rattle.world_script.specs.declared.interpreters.Interpreter.{Interpreter}

-- what a line does under its number
abbrev pub line_effect : SessionState → ℕ → List ℕ → Effect
line_effect s n line = effect_of s n (form_of line)

-- what the lines of a script do, if the first of them has this number
unfoldable pub effects_from : SessionState → ℕ → List ℕ → List Effect
effects_from s n script = effects line_effect s n (lines_of script)

-- what they print
abbrev pub printed_by : List Effect → List ℕ
printed_by es = flat_map (λ e. e.printed) es

-- how many of them are refused
abbrev pub refused_among : List Effect → ℕ
refused_among es = count_by (λ e. e.refused) es

-- what a line does has been done: the session is as it leaves it, what it prints was added to the output, and it was refused or not
pub record IsDone (e : Effect) (session : SessionState) (before after : List ℕ) (refused : Bool) : Type 0 where
  pub session_left : session ≡ e.session
  pub printed : after ≡ before ++ e.printed
  pub answered : refused ≡ e.refused

-- of what a line prints and what stood before it, a prefix may have been sent: it is done, or it stopped at a fault
abbrev pub Does : Effect → SessionState → Option (List ℕ) → Option (List ℕ) → List ℕ → List ℕ → Result Bool SendError → Type 0
Does e session old new before after (Ok refused) = (sent : List ℕ) × Appends old new sent × IsDone e session before (sent ++ after) refused
Does e session old new before after (Err error) = TakesFront old new (before ++ e.printed)

-- what a line of this form does in an interpreter, under the number that stands there
abbrev pub form_effect : {A : Type 0} → Interpreter A → Form → Effect
form_effect i form = effect_of (session_of i.session) i.number form

-- a line of this form that sends nothing was done, or memory was refused
abbrev pub Obeys : {A : Type 0} → Form → Interpreter A → Interpreter A → Result Bool AllocError → Type 0
Obeys form i j result = IfOk result (IsDone (form_effect i form) (session_of j.session) i.output.items j.output.items)

-- so was the one of these forms that has the references by which the entity and the id were found
abbrev pub ObeysFound : {A : Type 0} → (EntityRef → IdRef → Form) → EntityId × Id → Interpreter A → Interpreter A → Result Bool AllocError → Type 0
ObeysFound forms both i j result = (r : EntityRef) (id : IdRef) → FindsBoth ((i.session).world).state r id (Ok both) → Obeys (forms r id) i j result

-- a line of this form was done as far as it came. The writer has taken a prefix of what it prints and of what stood before it and no other byte, and none where so many bytes may stand
pub record DoesLine {A W : Type 0} (form : Form) (i j : Interpreter A) (contents : W → Option (List ℕ)) (calls : W → Calls) (old new : W) (most : ℕ) (result : Result Bool SendError) : Type 0 where
  pub does : Does (form_effect i form) (session_of j.session) (contents old) (contents new) i.output.items j.output.items result
  pub writes : FailsAtWrite (calls old) result (calls new)
  pub kept : most ≡ most_usize → new ≡ old

-- the answer of a line that sends nothing
abbrev pub unsent : Result Bool AllocError → Result Bool SendError
unsent (Ok refused) = Ok refused
unsent (Err error) = Err Memory
