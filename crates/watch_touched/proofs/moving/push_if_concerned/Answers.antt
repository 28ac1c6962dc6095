use Rattle.std.specs.Prelude.{◌++◌, ◌∷◌, [], if◌then◌else◌}
use Rattle.std.proofs.Common.{ap, ◌∙◌}
use Rattle.watch_concerns.specs.Whom.{concern_of}
use Rattle.watch_touched.proofs.moving.push_if_concerned.Goals as goal

pub returns-clause-own : goal.returns-clause-own
returns-clause-own g c =
    let of = c.concern_of-concern.ensures ∙ ap (concern_of c.args.query.now) c.id.ensures in
    c.in_ok-push_if.ensures ∙ (λ j. c.args.own.now.items ++ (if (of j).anyone then c.entity-entity.ensures j ∷ [] else []))

pub returns-clause-others : goal.returns-clause-others
returns-clause-others g c =
    let of = c.concern_of-concern.ensures ∙ ap (concern_of c.args.query.now) c.id.ensures in
    c.in_ok-push_if-2.ensures ∙ (λ j. c.args.targets.now.others.items ++ (if (of j).others then c.entity-entity.ensures j ∷ [] else []))

pub returns-clause-below : goal.returns-clause-below
returns-clause-below g c =
    let of = c.concern_of-concern.ensures ∙ ap (concern_of c.args.query.now) c.id.ensures in
    c.in_ok-push_if-3.ensures ∙ (λ j. c.args.targets.now.below.items ++ (if (of j).below then c.entity-entity.ensures j ∷ [] else []))
