use Rattle.std.specs.Prelude.{nat_lt}
use Rattle.std.proofs.Common.{ap, sym, ◌∙◌}
use Rattle.ecs_observe.specs.Stored.{is_watch_in, made_of}
use Rattle.ecs_observe.proofs.Watches.{any_counted, told_in}
use Rattle.ecs_observe.proofs.queries.StoredQueries.has_watch.Goals as goal

pub returns : goal.returns
returns g c = ap (nat_lt 0) c.requires.stored.watches ∙ any_counted is_watch_in (made_of c.args.self.now) ∙ sym (told_in (made_of c.args.self.now))
