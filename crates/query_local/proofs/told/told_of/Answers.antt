use Rattle.std.proofs.Common.{◌≡◌, sym, ap, ◌∙◌}
use Rattle.std.specs.Prelude.{◌&&◌, not}
use Rattle.query_local.specs.Telling.{enters, is_matched, leaves}
use Rattle.query_local.specs.Touched.{touch_of}
use Rattle.query_local.proofs.NumberPasses.{pushed, whole}
use Rattle.query_local.proofs.told.told_of.Goals as goal
use Rattle.query_local.proofs.told.told_of.Goals.{then-before, else-before, then-after, else-after}

pub loop-entity-preserved : goal.loop-entity-preserved
loop-entity-preserved g c =
    let q = c.args.query.now in
    let touched = c.args.touched.now in
    let entity = c.entity-item.result in
    let k = c.loop-entity.entity-index in
    let before = c.was_matched-before.result in
    let after = c.is_matched-after.result in
    let was : before ≡ is_matched q entity.index (touch_of entity).before = c.was_matched-before.ensures in
    let is : after ≡ is_matched q entity.index (touch_of entity).after = c.is_matched-after.ensures in
    let leaves_now : (before && not after) ≡ leaves q (touch_of entity) = λ i. was i && not (is i) in
    let enters_now : (after && not before) ≡ enters q (touch_of entity) = λ i. is i && not (was i) in
    let goes : c.if-before.push_if ≡ (before && not after) = elim c.if-before.branch [
      | then-before w ↦ w.push_if-is ∙ sym (ap (λ b. b && not after) w.if-before.true)
      | else-before w ↦ w.push_if-is ∙ w.if-before.false ∙ sym (ap (λ b. b && not after) w.if-before.false)
    ] in
    let comes : c.if-after.push_if ≡ (after && not before) = elim c.if-after.branch [
      | then-after w ↦ w.push_if-is ∙ sym (ap (λ b. b && not before) w.if-after.true)
      | else-after w ↦ w.push_if-is ∙ w.if-after.false ∙ sym (ap (λ b. b && not before) w.if-after.false)
    ] in
    record {
      left = pushed (λ t. t.index) (λ t. leaves q (touch_of t)) touched k entity c.loop-entity-test.true c.entity-item.is
          c.loop-entity.left.items _ _ c.loop-entity.invariant.left (goes ∙ leaves_now) c.in_ok-push_if.ensures;
      entered = pushed (λ t. t.index) (λ t. enters q (touch_of t)) touched k entity c.loop-entity-test.true c.entity-item.is
          c.loop-entity.entered.items _ _ c.loop-entity.invariant.entered (comes ∙ enters_now) c.in_ok-push_if-2.ensures;
    }

pub returns-clause-left : goal.returns-clause-left
returns-clause-left g c = c.loop-entity.invariant.left ∙ whole (λ t. t.index) (λ t. leaves c.args.query.now (touch_of t)) c.args.touched.now c.loop-entity.entity-index c.loop-entity-test.false

pub returns-clause-entered : goal.returns-clause-entered
returns-clause-entered g c = c.loop-entity.invariant.entered ∙ whole (λ t. t.index) (λ t. enters c.args.query.now (touch_of t)) c.args.touched.now c.loop-entity.entity-index c.loop-entity-test.false
