use Rattle.std.specs.Prelude.{option_map}
use Rattle.std.proofs.Common.{ap, sym, ◌∙◌}
use Rattle.ecs_observe.specs.Stored.{made_of}
use Rattle.ecs_observe.proofs.Entries.{look_stored, stored_in}
use Rattle.ecs_observe.proofs.queries.StoredQueries.get.Goals as goal

pub returns-in-Some : goal.returns-in-Some
returns-in-Some g c = ap (option_map stored_in) c.in-Some.ensures ∙ sym (look_stored c.args.name.now (made_of c.args.self.now))

pub returns-in-None : goal.returns-in-None
returns-in-None g c = ap (option_map stored_in) c.in-None.ensures ∙ sym (look_stored c.args.name.now (made_of c.args.self.now))
