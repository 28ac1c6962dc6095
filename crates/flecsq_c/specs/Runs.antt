-- What is said of a script that is run over memory.
use Rattle.std.specs.Prelude.{◌≡◌, ℕ, ◌≤◌, ◌<◌, List, ◌++◌, length, take, ℤ, Result, IfOk, IfErr}
use Rattle.ecs_model.specs.Output.{count_of, output_of}
use Rattle.script_streams.specs.Lines.{most_bytes}
use Rattle.world_script.specs.declared.errors.RunError.{RunError}
use Rattle.world_script.specs.declared.errors.RunError.TheVariants.{TooLong}
use Rattle.world_script.specs.declared.lines.Summary.{Summary}
use Rattle.flecsq_c.specs.declared.Ran.{Ran}
use Rattle.flecsq_c.specs.Memory.{Wrote}
use Rattle.flecsq_c.specs.Statuses.{run_status}

-- a script was run to its end: its whole output was copied, and its lines were counted
pub record RunsWhole (script before after : List ℕ) (ran : Ran) : Type 0 where
  pub fits : length script ≤ most_bytes
  pub wrote : Wrote (output_of script) before after ran.written
  pub counted : (ran.lines, ran.refused) ≡ count_of script

-- it was not: a prefix of the output of its beginning was copied, and no lines were counted. One that is too long has
-- more bytes than a script may have
pub record RunsFront (script before after : List ℕ) (ran : Ran) (error : RunError) : Type 0 where
  pub begin : List ℕ
  pub rest : List ℕ
  pub count : ℕ
  pub is : script ≡ begin ++ rest
  pub within : count ≤ length (output_of begin)
  pub wrote : Wrote (take count (output_of begin)) before after ran.written
  pub uncounted : (ran.lines ≡ 0) × (ran.refused ≡ 0)
  pub long : error ≡ TooLong → most_bytes < length script

-- the status says which
pub record RunsScript (script before after : List ℕ) (ran : Ran) (status : ℤ) : Type 0 where
  pub answer : Result Summary RunError
  pub told : status ≡ run_status answer
  pub whole : IfOk answer (λ summary. RunsWhole script before after ran)
  pub front : IfErr answer (RunsFront script before after ran)
