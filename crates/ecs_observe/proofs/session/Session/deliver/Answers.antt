use Rattle.std.proofs.Common.{sym, ◌∙◌}
use Rattle.ecs_observe.proofs.CommandLists.{nothing_left, nothing_told}
use Rattle.ecs_observe.proofs.session.Session.deliver.Goals as goal

pub returns-then-not-has_events-clause-written : goal.returns-then-not-has_events-clause-written
returns-then-not-has_events-clause-written g c =
    nothing_told c.args.self.now c.args.output.now.items (sym c.has_events.ensures ∙ c.if-not-has_events.true)

pub returns-then-not-has_events-clause-after : goal.returns-then-not-has_events-clause-after
returns-then-not-has_events-clause-after g c = nothing_left c.args.self.now (sym c.has_events.ensures ∙ c.if-not-has_events.true)
