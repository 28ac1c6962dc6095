-- What reading a query's text answers.
use Rattle.std.specs.Prelude.{◌≡◌, ⊤, ℕ, List, Result, Ok, Err}
use Rattle.query_model.specs.Query.{Query}
use Rattle.query_model.specs.declared.faults.QueryFault.{QueryFault}
use Rattle.query_model.specs.declared.faults.QueryFault.TheVariants.{Fault, Memory}
use Rattle.ecs_model.specs.World.{WorldState}
use Rattle.ecs_model.specs.Query.{query_of}

-- the query that a text asks, or its first fault; where memory is refused, it may say so in place of either
abbrev pub AnswersAsked : WorldState → List ℕ → Result Query QueryFault → Type 0
AnswersAsked w text (Ok q) = query_of w text ≡ Ok q
AnswersAsked w text (Err (Fault f)) = query_of w text ≡ Err f
AnswersAsked w text (Err Memory) = ⊤
