use Rattle.std.proofs.Common.{arith}
use Rattle.std.proofs.lemmas.Grind.{common_steps}
use Rattle.std.specs.Prelude.{option_map}
use Rattle.std.proofs.Common.{ap, ◌∙◌}
use Rattle.ecs_observe.specs.Stored.{made_of}
use Rattle.ecs_observe.proofs.Entries.{get_stored, stored_in}
use Rattle.ecs_observe.proofs.queries.StoredQueries.get_index.Goals as goal

pub returns-in-Some-clause-entry : goal.returns-in-Some-clause-entry
returns-in-Some-clause-entry g c = get_stored (made_of c.args.self.now) c.args.place ∙ ap (option_map (λ e. (e.0, stored_in e.1))) c.in-Some.ensures.entry

pub returns-in-Some-clause-found : goal.returns-in-Some-clause-found
returns-in-Some-clause-found g c = grind (arith, common_steps)

pub returns-in-None-clause-found : goal.returns-in-None-clause-found
returns-in-None-clause-found g c = grind (arith, common_steps)
