use Rattle.std.specs.Prelude.{All}
use Rattle.std.specs.List.{count_by}
use Rattle.std.proofs.Common.{ap, subst, sym}
use Rattle.std.proofs.lemmas.List.Elements.{All-nil}
use Rattle.ecs_observe.specs.Stored.{IsFit, entries_in, is_watch_in}
use Rattle.ecs_observe.proofs.queries.StoredQueries.new.Goals as goal

pub returns-clause-none : goal.returns-clause-none
returns-clause-none g c = ap entries_in c.new.ensures.none

pub returns-clause-stored : goal.returns-clause-stored
returns-clause-stored g c = record {
  watched = c.new.ensures.watched;
  fit = subst (All IsFit) (sym c.new.ensures.none) (All-nil IsFit);
  watches = sym (ap (count_by is_watch_in) c.new.ensures.none);
}
