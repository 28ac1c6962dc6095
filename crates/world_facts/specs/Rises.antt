-- Along which relationships a query asks ancestors.
use Rattle.std.specs.Prelude.{ℕ, List, flat_map, All, IsTrue}
use Rattle.ecs_id.specs.Id.{plain}
use Rattle.ecs_model.specs.BuiltIns.{traversable}
use Rattle.ecs_model.specs.World.{WorldState, holds, ids_of}
use Rattle.ecs_model.specs.steps.WellFormed.{IsWellFormed}
use Rattle.plan_steps.specs.Instructions.{instructions_of}
use Rattle.plan_steps.specs.Made.{IsStepAcyclic}
use Rattle.query_meaning.specs.Names.{entry_rises}
use Rattle.query_meaning.specs.Variables.{entries}
use Rattle.query_meaning.specs.declared.steps.Step.{Step}
use Rattle.query_model.specs.Query.{Query}

abbrev pub rises : Query → List ℕ
rises q = flat_map entry_rises (entries q)

-- a query that asks ancestors along what is Traversable alone asks them along what has no cycle, whichever its plan
abbrev pub RisesAreAcyclic : Type 0
RisesAreAcyclic = (w : WorldState) (q : Query) (steps : List Step) → IsWellFormed w → All (λ r. IsTrue (holds w r (plain traversable))) (rises q)
    → All (IsStepAcyclic (ids_of w)) (instructions_of q steps)
