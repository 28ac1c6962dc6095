use Rattle.std.specs.Prelude.{◌≡◌, ◌++◌, ℕ, List, true}
use Rattle.std.specs.List.{Contains}
use Rattle.std.proofs.Common.{arith, subst, sym, true≢false, ◌∙◌}
use Rattle.watch_concerns.specs.Concerns.{concerns}
use Rattle.watch_concerns.specs.Others.{concerns_below, concerns_others}
use Rattle.watch_touched.specs.Moving.{entities_of, finds_moving}
use Rattle.watch_touched.proofs.CountedConcerns.{all_followed, none_concerned, somebody_concerned}
use Rattle.watch_touched.proofs.moving.who_may_have_moved.Goals as goal

pub push_all_moving-requires : goal.push_all_moving-requires
push_all_moving-requires g c =
    let q = c.args.query.now in
    let changed = c.args.changes.now in
    let own = c.in_ok-push_all_concerned.ensures.own ∙ (λ i. c.requires.none i ++ entities_of (concerns q) changed) in
    let others = c.in_ok-push_all_concerned.ensures.others ∙ (λ i. c.new.ensures i ++ entities_of (concerns_others q) changed) in
    record {
      bonds = c.requires.bonds;
      after = c.requires.after;
      sound = c.requires.sound;
      found = sym (all_followed q changed c.args.bonds c.requires.bonds c.len-2.result c.push_all_concerned.new.targets.others.items others c.len-2.ensures) ∙ sym c.finds_moving.ensures ∙ c.if-not-finds_moving.false;
      own = λ e. (subst (λ (es : List ℕ). Contains es e) own, subst (λ (es : List ℕ). Contains es e) (sym own));
      others = others;
      below = c.in_ok-push_all_concerned.ensures.below ∙ (λ i. c.new-2.ensures i ++ entities_of (concerns_below q) changed);
    }

pub returns-then-is_nobody-clause-concerned : goal.returns-then-is_nobody-clause-concerned
returns-then-is_nobody-clause-concerned g c same =
    let own = c.in_ok-push_all_concerned.ensures.own ∙ (λ i. c.requires.none i ++ entities_of (concerns c.args.query.now) c.args.changes.now) in
    none_concerned c.args.query.now c.args.changes.now c.args.bonds c.requires.bonds c.len.result c.push_all_concerned.new.own.items own c.len.ensures c.is_nobody.result c.is_nobody.ensures c.if-is_nobody.true

-- where somebody may have moved, the command concerns the query
pub returns-then-not-finds_moving-clause-nobody : goal.returns-then-not-finds_moving-clause-nobody
returns-then-not-finds_moving-clause-nobody g c none =
    let own = c.in_ok-push_all_concerned.ensures.own ∙ (λ i. c.requires.none i ++ entities_of (concerns c.args.query.now) c.args.changes.now) in
    absurd (somebody_concerned c.args.query.now c.args.changes.now c.args.bonds c.requires.bonds c.len.result c.push_all_concerned.new.own.items own c.len.ensures c.is_nobody.result c.is_nobody.ensures c.if-is_nobody.false none)

pub returns-then-not-branch-clause-nobody : goal.returns-then-not-branch-clause-nobody
returns-then-not-branch-clause-nobody g c none =
    let own = c.in_ok-push_all_concerned.ensures.own ∙ (λ i. c.requires.none i ++ entities_of (concerns c.args.query.now) c.args.changes.now) in
    absurd (somebody_concerned c.args.query.now c.args.changes.now c.args.bonds c.requires.bonds c.len.result c.push_all_concerned.new.own.items own c.len.ensures c.is_nobody.result c.is_nobody.ensures c.if-is_nobody.false none)

pub returns-then-len-gt-MOST-clause-nobody : goal.returns-then-len-gt-MOST-clause-nobody
returns-then-len-gt-MOST-clause-nobody g c none =
    let own = c.in_ok-push_all_concerned.ensures.own ∙ (λ i. c.requires.none i ++ entities_of (concerns c.args.query.now) c.args.changes.now) in
    absurd (somebody_concerned c.args.query.now c.args.changes.now c.args.bonds c.requires.bonds c.len.result c.push_all_concerned.new.own.items own c.len.ensures c.is_nobody.result c.is_nobody.ensures c.if-is_nobody.false none)

pub returns-clause-nobody : goal.returns-clause-nobody
returns-clause-nobody g c none =
    let own = c.in_ok-push_all_concerned.ensures.own ∙ (λ i. c.requires.none i ++ entities_of (concerns c.args.query.now) c.args.changes.now) in
    absurd (somebody_concerned c.args.query.now c.args.changes.now c.args.bonds c.requires.bonds c.len.result c.push_all_concerned.new.own.items own c.len.ensures c.is_nobody.result c.is_nobody.ensures c.if-is_nobody.false none)

pub returns-clause-all : goal.returns-clause-all
returns-clause-all g c same = c.in_ok-push_all_moving.ensures c.if-not-branch.false

-- they are no more than are told
pub returns-clause-few : goal.returns-clause-few
returns-clause-few g c same = omega (arith, c.len-3.ensures, c.if-len-gt-MOST.false)

pub returns-clause-unknown : goal.returns-clause-unknown
returns-clause-unknown g c loose concerned =
    let q = c.args.query.now in
    let changed = c.args.changes.now in
    let others = c.in_ok-push_all_concerned.ensures.others ∙ (λ i. c.new.ensures i ++ entities_of (concerns_others q) changed) in
    let followed : finds_moving q changed ≡ true = sym (all_followed q changed c.args.bonds c.requires.bonds c.len-2.result c.push_all_concerned.new.targets.others.items others c.len-2.ensures)
    ∙ sym c.finds_moving.ensures ∙ c.if-not-finds_moving.false in
    absurd (true≢false (sym followed ∙ loose))

pub returns-then-is_nobody-clause-unknown : goal.returns-then-is_nobody-clause-unknown
returns-then-is_nobody-clause-unknown g c loose concerned =
    let own = c.in_ok-push_all_concerned.ensures.own ∙ (λ i. c.requires.none i ++ entities_of (concerns c.args.query.now) c.args.changes.now) in
    absurd (true≢false (sym concerned ∙ none_concerned c.args.query.now c.args.changes.now c.args.bonds c.requires.bonds c.len.result c.push_all_concerned.new.own.items own c.len.ensures c.is_nobody.result c.is_nobody.ensures c.if-is_nobody.true))
