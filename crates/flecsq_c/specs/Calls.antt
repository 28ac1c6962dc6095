-- What each call does to what the handle holds.
use Rattle.std.specs.Prelude.{◌≡◌, ℕ, Bool, List, [], length, ℤ, Option, None, Some, Result, IfOk, IfErr, option_map}
use Rattle.ecs_model.specs.World.{WorldState}
use Rattle.ecs_world.specs.Standing.{Standing}
use Rattle.query_model.specs.Query.{Query}
use Rattle.world_script.specs.declared.errors.StepError.{StepError}
use Rattle.world_script.specs.Stepping.{StepperState, Steps, Stepping, StopsStepping, first_stepping, forgotten, standing_of}
use Rattle.flecsq_c.specs.declared.engine.Engine.{Engine}
use Rattle.flecsq_c.specs.declared.handle.Flecsq.{Flecsq}
use Rattle.flecsq_c.specs.Held.{holds_if}
use Rattle.flecsq_c.specs.Memory.{Copies}
use Rattle.flecsq_c.specs.Statuses.{closed, line_status, memory, ok}

-- what an engine has: what its lines and commands have done, and the queries by their numbers
pub record Holding : Type 0 where
  pub stepper : StepperState
  pub queries : List (Option Query)

abbrev pub holding_of : Engine → Holding
holding_of e = record { stepper = e.stepper; queries = e.queries.items }

-- what a handle holds, if it is open
abbrev pub held_by : Flecsq → Option Holding
held_by h = option_map holding_of (holds_if h.is_open h.engine)

abbrev pub stepping_of : Holding → Stepping
stepping_of s = (s.stepper).stepping

-- a new engine is held, or memory was refused and the handle is closed
abbrev pub Opens : Option Holding → ℤ → Type 0
Opens (Some s) status = (status ≡ ok) × (stepping_of s ≡ first_stepping) × (s.queries ≡ [])
Opens None status = status ≡ memory

-- a line was run, or was not and the status says why
pub record RunsLine (line : List ℕ) (old new : Stepping) (status : ℤ) : Type 0 where
  pub answer : Result Bool StepError
  pub told : status ≡ line_status answer
  pub ran : IfOk answer (Steps line old new)
  pub stops : IfErr answer (StopsStepping line old new)

-- a call of an open handle does this to what it holds, and nothing is done with one that is closed
abbrev pub ByHandle : (Holding → Holding → ℤ → Type 0) → Option Holding → Option Holding → ℤ → Type 0
ByHandle Does (Some s) (Some t) status = Does s t status
ByHandle Does (Some s) None status = ⊥
ByHandle Does None new status = (new ≡ None) × (status ≡ closed)

-- a line or command does this, and the queries stay
abbrev pub ByStepper : (Stepping → Stepping → ℤ → Type 0) → Option Holding → Option Holding → ℤ → Type 0
ByStepper Does = ByHandle (λ s t status. Does (stepping_of s) (stepping_of t) status × (t.queries ≡ s.queries))

-- the same of what is seen of the tables too
abbrev pub ByWorld : (StepperState → StepperState → ℤ → Type 0) → Option Holding → Option Holding → ℤ → Type 0
ByWorld Does = ByHandle (λ s t status. Does s.stepper t.stepper status × (t.queries ≡ s.queries))

-- a call does this to the queries in a world, and all else stays
abbrev pub ByQueries : (WorldState → List (Option Query) → List (Option Query) → ℤ → Type 0) → Option Holding → Option Holding → ℤ → Type 0
ByQueries Does = ByHandle (λ s t status. Does (stepping_of s).session.world s.queries t.queries status × (t.stepper ≡ s.stepper))

-- a call reads only
abbrev pub ByReading : (Standing → List (Option Query) → ℤ → Type 0) → Option Holding → Option Holding → ℤ → Type 0
ByReading Does = ByHandle (λ s t status. Does (standing_of s.stepper) s.queries status × (t ≡ s))

-- so many bytes of output are lent, and the rest stays as it is
abbrev pub LendsOutput : Option Holding → ℕ → ℤ → Type 0
LendsOutput (Some s) count status = (count ≡ length (stepping_of s).printed) × (status ≡ ok)
LendsOutput None count status = status ≡ closed

-- as much of the output as fits was copied to a buffer
abbrev pub CopiesOutput : Option Holding → List ℕ → List ℕ → ℕ → Type 0
CopiesOutput (Some s) before after count = Copies (stepping_of s).printed before after count
CopiesOutput None before after count = (count ≡ 0) × (after ≡ before)

-- without its output
abbrev pub emptied : Holding → Holding
emptied s = record s { stepper = record s.stepper { stepping = forgotten (stepping_of s) } }

-- what was printed is forgotten
abbrev pub Forgets : Option Holding → Option Holding → ℤ → Type 0
Forgets (Some s) new status = (new ≡ Some (emptied s)) × (status ≡ ok)
Forgets None new status = (new ≡ None) × (status ≡ closed)
