use Rattle.std.proofs.Common.{ap, false, ◌∙◌}
use Rattle.query_check.specs.Terms.{terms}
use Rattle.watch_concerns.specs.Concerns.{is_asked_by_all}
use Rattle.watch_concerns.specs.Others.{says_how_far}
use Rattle.watch_concerns.specs.Whom.{concern_of, joined_concerns}
use Rattle.watch_asked.specs.Asked.{asked_concern}
use Rattle.watch_asked.proofs.AskedPatterns.{concern_is, concern_told}
use Rattle.watch_asked.proofs.asked_query.AskedQuery.concern_of.Goals as goal

pub returns-in-Some : goal.returns-in-Some
returns-in-Some g c =
    let q = (c.self.inside).query.now in
    let i = c.args.id in
    let kept = rw c.in-Some.is at c.self.invariant in
    let told = ap (asked_concern i) kept.terms ∙ concern_told i (terms q) in
    c.of_asked.ensures
    ∙ (λ k. joined_concerns (record { anyone = is_asked_by_all i; others = says_how_far i; below = false }) (told k))
    ∙ concern_is i q
    ∙ ap (λ a. concern_of a i) c.self.view_is

pub returns-in-None : goal.returns-in-None
returns-in-None g c = c.concern_of.ensures ∙ ap (λ a. concern_of a c.args.id) c.self.view_is
