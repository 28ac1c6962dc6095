-- Whether the changes of a command concern a query.
use Rattle.std.specs.Prelude.{◌==◌, Bool, not, ◌&&◌, ◌||◌, List, length, is_some}
use Rattle.std.specs.List.{list_any}
use Rattle.ecs_model.specs.steps.Outcomes.{Changed}
use Rattle.ecs_model.specs.World.{Key}
use Rattle.watch_concerns.specs.Anchored.{is_anchored}
use Rattle.watch_concerns.specs.Concerns.{concerns}
use Rattle.query_model.specs.Query.{Query}

-- whether the id of one of these facts concerns the query
abbrev pub any_concerns : Query → List Key → Bool
any_concerns q ks = list_any (λ k. concerns q k.1) ks

-- whether the command created or deleted an entity
abbrev pub has_births_or_deaths : Changed → Bool
has_births_or_deaths changed = is_some changed.born || not (length changed.died == 0)

-- whether an added or removed fact concerns the query, or an entity was created or deleted and the query isn't anchored
unfoldable pub is_concerned : Query → Changed → Bool
is_concerned q changed = (has_births_or_deaths changed && not (is_anchored q)) || any_concerns q changed.came || any_concerns q changed.went
