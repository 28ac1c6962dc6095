-- Which stored queries may be notified of a command.
use Rattle.std.specs.Prelude.{Bool, true, false, List}
use Rattle.std.specs.List.{list_any}
use Rattle.ecs_id.specs.Id.{Id}
use Rattle.query_model.specs.Query.{Query}
use Rattle.ecs_model.specs.declared.watches.StoredKind.{StoredKind}
use Rattle.ecs_model.specs.declared.watches.StoredKind.TheVariants.{Kept, Monitor, OnAdd, OnRemove, OnSet}
use Rattle.ecs_model.specs.steps.Outcomes.{Changed}
use Rattle.ecs_model.specs.World.{Key}
use Rattle.ecs_model.specs.stored.Watches.{matches_term}

-- whether an observer's term matches the id of one of these facts
abbrev pub any_matches : Query → List Key → Bool
any_matches q ks = list_any (λ k. matches_term q k.1) ks

-- whether a stored query of a kind may be notified of what has changed
abbrev pub may_tell : Changed → StoredKind → Query → Bool
may_tell c Kept q = false
may_tell c Monitor q = true
may_tell c OnAdd q = any_matches q c.came
may_tell c OnRemove q = any_matches q c.went
may_tell c OnSet q = any_matches q c.written

-- whether it may be notified where the value of a held id is set
abbrev pub may_tell_set : Id → StoredKind → Query → Bool
may_tell_set i OnSet q = matches_term q i
may_tell_set i kind q = false
