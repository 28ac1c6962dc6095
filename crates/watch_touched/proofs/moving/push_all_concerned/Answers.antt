use Rattle.std.specs.Prelude.{◌++◌}
use Rattle.std.proofs.Common.{append_assoc, ◌∙◌}
use Rattle.std.proofs.lemmas.Result.{on_ok_weaker}
use Rattle.watch_concerns.specs.Concerns.{concerns}
use Rattle.watch_concerns.specs.Others.{concerns_below, concerns_others}
use Rattle.watch_touched.specs.Moving.{entities_by}
use Rattle.watch_touched.proofs.moving.push_all_concerned.Goals as goal

pub returns-clause-own : goal.returns-clause-own
returns-clause-own g c =
    let p = concerns c.args.query.now in
    let changed = c.args.changes.now in
    on_ok_weaker c.push_concerned-2.result
    (λ e. e ∙ (λ i. (c.in_ok-push_concerned.ensures.own ∙ (λ j. c.args.own.now.items ++ entities_by p (c.came.ensures j))) i ++ entities_by p (c.went.ensures i))
    ∙ append_assoc c.args.own.now.items (entities_by p changed.came) (entities_by p changed.went))
    c.push_concerned-2.ensures.own

pub returns-clause-others : goal.returns-clause-others
returns-clause-others g c =
    let p = concerns_others c.args.query.now in
    let changed = c.args.changes.now in
    on_ok_weaker c.push_concerned-2.result
    (λ e. e ∙ (λ i. (c.in_ok-push_concerned.ensures.others ∙ (λ j. c.args.targets.now.others.items ++ entities_by p (c.came.ensures j))) i ++ entities_by p (c.went.ensures i))
    ∙ append_assoc c.args.targets.now.others.items (entities_by p changed.came) (entities_by p changed.went))
    c.push_concerned-2.ensures.others

pub returns-clause-below : goal.returns-clause-below
returns-clause-below g c =
    let p = concerns_below c.args.query.now in
    let changed = c.args.changes.now in
    on_ok_weaker c.push_concerned-2.result
    (λ e. e ∙ (λ i. (c.in_ok-push_concerned.ensures.below ∙ (λ j. c.args.targets.now.below.items ++ entities_by p (c.came.ensures j))) i ++ entities_by p (c.went.ensures i))
    ∙ append_assoc c.args.targets.now.below.items (entities_by p changed.came) (entities_by p changed.went))
    c.push_concerned-2.ensures.below
