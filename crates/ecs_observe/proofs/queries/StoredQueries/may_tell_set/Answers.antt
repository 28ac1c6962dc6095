use Rattle.std.proofs.Common.{sym, ◌∙◌}
use Rattle.ecs_observe.proofs.WholeColumns.{quiet_all}
use Rattle.ecs_observe.specs.Stored.{made_of}
use Rattle.ecs_observe.proofs.queries.StoredQueries.may_tell_set.Goals as goal

pub returns-then-not-has_watch : goal.returns-then-not-has_watch
returns-then-not-has_watch g c = sym (quiet_all c.args.id (made_of c.args.self.now) (sym c.has_watch.ensures ∙ c.if-not-has_watch.true))
