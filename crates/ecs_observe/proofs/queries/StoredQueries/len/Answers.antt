use Rattle.std.proofs.Common.{sym, ◌∙◌}
use Rattle.ecs_observe.specs.Stored.{made_of}
use Rattle.ecs_observe.proofs.Entries.{as_many, as_many_boxes}
use Rattle.ecs_observe.proofs.queries.StoredQueries.len.Goals as goal

pub returns : goal.returns
returns g c = record { len = c.len.ensures.len ∙ as_many_boxes (made_of c.args.self.now) ∙ sym (as_many (made_of c.args.self.now)) }
