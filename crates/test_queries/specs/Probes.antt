-- How many probes a run of a plan makes.
use Rattle.std.specs.Prelude.{ℕ, ◌≤◌}
use Rattle.plan_steps.specs.Instructions.{instructions_of}
use Rattle.plan_steps.specs.Reading.{Reading}
use Rattle.plan_steps.specs.TableProbes.{JudgesTables}
use Rattle.plan_steps.specs.Tables.{by_tables}
use Rattle.plan_steps.specs.Width.{width_of}
use Rattle.query_plan.specs.Plans.{Plan}

-- no more than the plan's steps allow, where these judge tables
abbrev pub StaysWithinSteps : Reading → Plan → ℕ → Type 0
StaysWithinSteps v p probes = (limit : ℕ) × JudgesTables v (width_of p.query) (by_tables (instructions_of p.query p.steps)) limit × (probes ≤ limit)
