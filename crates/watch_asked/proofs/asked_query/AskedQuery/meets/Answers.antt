use Rattle.std.proofs.Common.{ap, sym, ◌∙◌}
use Rattle.watch_concerns.specs.OwnIds.{meets}
use Rattle.watch_asked.proofs.asked_query.AskedQuery.meets.Goals as goal

pub returns-then-may_meet : goal.returns-then-may_meet
returns-then-may_meet g c = c.meets.ensures ∙ ap (λ q. meets q c.args.ids.now) c.self.view_is

pub returns-else-may_meet : goal.returns-else-may_meet
returns-else-may_meet g c = c.if-may_meet.false ∙ sym (c.may_meet.ensures c.if-may_meet.false c.args.ids.now)
