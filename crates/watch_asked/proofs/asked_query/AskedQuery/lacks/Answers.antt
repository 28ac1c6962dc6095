use Rattle.std.proofs.Common.{append-nil, ap, ◌∙◌}
use Rattle.std.specs.Prelude.{not}
use Rattle.watch_concerns.specs.OwnIds.{lacks}
use Rattle.watch_asked.specs.Asked.{have_all}
use Rattle.watch_asked.proofs.AskedPatterns.{lacks_told}
use Rattle.watch_asked.proofs.asked_query.AskedQuery.lacks.Goals as goal

pub returns-in-Some : goal.returns-in-Some
returns-in-Some g c =
    let q = (c.self.inside).query.now in
    let ids = c.args.ids.now in
    let kept = rw c.in-Some.is at c.self.invariant in
    ap not (c.have_all.ensures ∙ (λ k. have_all ((c.as_slice.ensures.value ∙ kept.this) k) (append-nil ids k)))
    ∙ lacks_told ids q
    ∙ ap (λ a. lacks a ids) c.self.view_is

pub returns-in-None : goal.returns-in-None
returns-in-None g c = c.lacks.ensures ∙ ap (λ a. lacks a c.args.ids.now) c.self.view_is
