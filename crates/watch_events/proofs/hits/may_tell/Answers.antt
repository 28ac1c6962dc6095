use Rattle.std.proofs.Common.{ap, sym, ◌∙◌}
use Rattle.watch_events.specs.Hits.{any_matches, may_tell}
use Rattle.watch_events.proofs.MissedTerms.{none_told}
use Rattle.watch_events.proofs.hits.may_tell.Goals as goal

pub returns-in-Kept-clause-nothing : goal.returns-in-Kept-clause-nothing
returns-in-Kept-clause-nothing g c = λ none after name old.
    none_told after c.args.changes.now name c.args.query.now old c.args.kind (ap (λ k. may_tell c.args.changes.now k c.args.query.now) c.in-Kept.is)

pub returns-in-OnAdd-clause-nothing : goal.returns-in-OnAdd-clause-nothing
returns-in-OnAdd-clause-nothing g c = λ none after name old.
    none_told after c.args.changes.now name c.args.query.now old c.args.kind
    (ap (λ k. may_tell c.args.changes.now k c.args.query.now) c.in-OnAdd.is ∙ (ap (any_matches c.args.query.now) (sym c.came.ensures) ∙ (sym c.any_matches.ensures ∙ none)))

pub returns-in-OnRemove-clause-nothing : goal.returns-in-OnRemove-clause-nothing
returns-in-OnRemove-clause-nothing g c = λ none after name old.
    none_told after c.args.changes.now name c.args.query.now old c.args.kind
    (ap (λ k. may_tell c.args.changes.now k c.args.query.now) c.in-OnRemove.is ∙ (ap (any_matches c.args.query.now) (sym c.went.ensures) ∙ (sym c.any_matches-in-OnRemove.ensures ∙ none)))

pub returns-in-OnSet-clause-nothing : goal.returns-in-OnSet-clause-nothing
returns-in-OnSet-clause-nothing g c = λ none after name old.
    none_told after c.args.changes.now name c.args.query.now old c.args.kind
    (ap (λ k. may_tell c.args.changes.now k c.args.query.now) c.in-OnSet.is ∙ (ap (any_matches c.args.query.now) (sym c.written.ensures) ∙ (sym c.any_matches-in-OnSet.ensures ∙ none)))
