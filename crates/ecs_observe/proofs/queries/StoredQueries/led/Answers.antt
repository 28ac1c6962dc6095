use Rattle.std.specs.Prelude.{All}
use Rattle.std.proofs.Common.{◌<◌, subst, sym}
use Rattle.ecs_observe.specs.Stored.{made_of}
use Rattle.ecs_observe.proofs.Entries.{as_many}
use Rattle.ecs_observe.proofs.ConcernedPlaces.{led_to}
use Rattle.ecs_observe.proofs.queries.StoredQueries.led.Goals as goal

pub returns-clause-within : goal.returns-clause-within
returns-clause-within g c = subst (λ n. All (λ i. i < n) c.led.new.places.items) (sym (as_many (made_of c.args.self.now))) c.in_ok-led.ensures.within

pub returns-clause-led : goal.returns-clause-led
returns-clause-led g c =
    led_to c.whom_changes_concern_they_lead_to.ensures c.args.changes.now (made_of c.args.self.now) c.requires.stored.fit c.led.new.places.items _ _ _ _ c.has_births_or_deaths.ensures c.came.ensures c.went.ensures
    c.written.ensures c.in_ok-led.ensures.led
