-- Lines that are run one at a time.
use Rattle.std.specs.Prelude.{◌≡◌, ℕ, ◌+◌, ◌≤◌, Bool, true, false, List, [], ◌++◌, All, fold, cond, None}
use Rattle.ecs_model.specs.Output.{Effect, count_of, output_of}
use Rattle.ecs_model.specs.Script.{lines_of}
use Rattle.ecs_model.specs.stored.Session.{SessionState, first_session}
use Rattle.ecs_world.specs.Standing.{Standing}
use Rattle.script_streams.specs.Lines.{HasNoEnd}
use Rattle.table_store.specs.Store.{Store}
use Rattle.world_query.specs.Sent.{most_usize}
use Rattle.world_script.specs.declared.errors.StepError.{StepError}
use Rattle.world_script.specs.declared.errors.StepError.TheVariants.{LineFeed, Memory, TooManyLines}
use Rattle.world_script.specs.declared.interpreters.Interpreter.{Interpreter}
use Rattle.world_script.specs.Run.{line_effect}

-- what runs lines one at a time: its session, how many lines were run and how many of them refused, what was printed and
-- not yet forgotten, and whether memory was refused in a line, so that no more are run
pub record Stepping : Type 0 where
  pub session : SessionState
  pub lines : ℕ
  pub refused : ℕ
  pub printed : List ℕ
  pub broken : Bool

-- all that is seen of a stepper: also the tables in which the entities stand, of which the definitions say nothing
pub record StepperState : Type 0 where
  pub stepping : Stepping
  pub tables : Store

-- its world, with the tables
abbrev pub standing_of : StepperState → Standing
standing_of s = record { state = ((s.stepping).session).world; tables = s.tables }

-- no line was run yet
abbrev pub first_stepping : Stepping
first_stepping = record { session = first_session; lines = 0; refused = 0; printed = []; broken = false }

-- what a line does as the next one
abbrev pub step_effect : Stepping → List ℕ → Effect
step_effect s line = line_effect s.session (s.lines + 1) line

-- after a line
abbrev pub stepped : Stepping → List ℕ → Stepping
stepped s line = let e = step_effect s line in record {
  session = e.session;
  lines = s.lines + 1;
  refused = s.refused + cond e.refused 1 0;
  printed = s.printed ++ e.printed;
  broken = s.broken;
}

-- after all of these lines
abbrev pub stepped_all : Stepping → List (List ℕ) → Stepping
stepped_all s lines = fold stepped s lines

-- after what was printed was forgotten
abbrev pub forgotten : Stepping → Stepping
forgotten s = record s { printed = [] }

-- a line was run, and answered whether it was refused
pub record Steps (line : List ℕ) (old new : Stepping) (refused : Bool) : Type 0 where
  pub inside : HasNoEnd line
  pub whole : old.broken ≡ false
  pub left : new ≡ stepped old line
  pub answered : refused ≡ (step_effect old line).refused

-- a line was not run. After refused memory nothing of it was printed, and no more lines are run
abbrev pub StopsStepping : List ℕ → Stepping → Stepping → StepError → Type 0
StopsStepping line old new LineFeed = ¬ HasNoEnd line × (new ≡ old)
StopsStepping line old new Memory =
    HasNoEnd line × (new.broken ≡ true) × (new.printed ≡ old.printed) × (old.broken ≡ true → new ≡ old)
StopsStepping line old new TooManyLines =
    HasNoEnd line × (old.broken ≡ false) × (old.lines ≡ most_usize) × (new ≡ old)

-- what holds of each, unless it is broken
pub record IsStepping {A : Type 0} (i : Interpreter A) : Type 0 where
  pub none_wait : (i.session).waiting ≡ None
  pub few : (i.summary).refused ≤ (i.summary).lines
  pub unprinted : (i.output).items ≡ []

-- what was printed and counted is what the script prints, and its count
pub record IsAsScript (script : List ℕ) (s : Stepping) : Type 0 where
  pub printed : s.printed ≡ output_of script
  pub counted : (s.lines, s.refused) ≡ count_of script

-- the lines of a script have no line feed, and run one at a time they print and count as the script does
abbrev pub LinesStepAsScript : Type 0
LinesStepAsScript = (script : List ℕ) → All HasNoEnd (lines_of script)
    × IsAsScript script (stepped_all first_stepping (lines_of script))
