-- The laws of what stored queries are notified of and what they mention, as statements.
use Rattle.std.specs.Prelude.{◌≡◌, ℕ, ◌≤◌, List, Ok}
use Rattle.query_model.specs.Query.{Query}
use Rattle.ecs_model.specs.declared.watches.StoredKind.{StoredKind}
use Rattle.ecs_model.specs.steps.Outcomes.{Changed}
use Rattle.ecs_model.specs.World.{WorldState}
use Rattle.ecs_model.specs.rows.View.{view_of}
use Rattle.ecs_model.specs.stored.Watches.{matching, told_of}
use Rattle.ecs_model.specs.steps.Step.{Command, step}
use Rattle.ecs_model.specs.steps.WellFormed.{IsWellFormed}
use Rattle.query_meaning.specs.Standing.{WasAsked}
use Rattle.watch_concerns.specs.Mentions.{times_in}
use Rattle.watch_concerns.specs.Since.{told_since}

-- what a stored query is notified of after a command follows from the world after it and the changes, and for a monitor
-- from the entities of its rows before
abbrev pub TellsSince : Type 0
TellsSince = (w v : WorldState) (c : Command) (changed : Changed) (watch : List ℕ) (kind : StoredKind) (q : Query)
    → IsWellFormed w → step w c ≡ Ok (v, changed)
    → told_of w v changed watch kind q ≡ told_since v changed watch kind q (matching (view_of w) q)

-- a query read from a text mentions no entity twice, by index
abbrev pub QueriesMentionOnce : Type 0
QueriesMentionOnce = (q : Query) → WasAsked q → (i : ℕ) → times_in i q.mentions ≤ 1
