use Rattle.std.proofs.Common.{ap, sym, true≢false, ◌∙◌}
use Rattle.watch_concerns.specs.OwnIds.{meets}
use Rattle.watch_asked.proofs.asked_query.AskedQuery.may_meet.Goals as goal

pub returns-in-Some : goal.returns-in-Some
returns-in-Some g c fails ids =
    let kept = rw c.in-Some.is at c.self.invariant in
    ap (λ q. meets q ids) (sym c.self.view_is) ∙ kept.met fails ids

pub returns-in-None : goal.returns-in-None
returns-in-None g c fails = absurd (true≢false fails)
