use Rattle.std.proofs.Common.{◌++◌, ◌∷◌, [], ◌∙◌, ap, arith, length, refl, sym}
use Rattle.std.specs.List.{dedup, dedup_from}
use Rattle.std.proofs.lemmas.List.{take_all}
use Rattle.short_list.proofs.DistinctItems.{once_other, once_same}
use Rattle.short_list.proofs.few.each_once.Goals as goal
use Rattle.short_list.proofs.few.each_once.Goals.{then-ne, else-ne}

pub loop-item-init : goal.loop-item-init
loop-item-init g c = record {
  once = c.push.ensures.items ∙ ap (λ xs. xs ++ c.in-Some.first.now ∷ []) c.new-once.ensures;
  last = refl;
  few = omega (arith, c.push.ensures.len, ap length c.new-once.ensures);
}

pub loop-item-preserved : goal.loop-item-preserved
loop-item-preserved g c =
    let same = g.T.PartialEq.eq in
    let first = c.in-Some.first.now in
    let rest = c.in-Some.rest.now in
    let l = c.loop-item in
    let i = l.item-index in
    let item = c.item-item.result in
    elim c.if-ne.branch [
      | then-ne w ↦
          let both = once_other same first rest i item c.loop-item-test.true c.item-item.is l.once.items w.push-then-ne.new.self.items l.last l.invariant.once l.invariant.last
          (sym c.ne.ensures ∙ w.if-ne.true) w.push-then-ne.ensures.items in
          record {
            once = ap (λ v. v.items) w.once-is ∙ both.0;
            last = w.last-is ∙ both.1;
            few = omega (arith, ap (λ v. length v.items) w.once-is, w.push-then-ne.ensures.len, l.invariant.few);
          }
      | else-ne w ↦
          let both = once_same same first rest i item c.loop-item-test.true c.item-item.is l.once.items l.last l.invariant.once l.invariant.last (sym c.ne.ensures ∙ w.if-ne.false) in
          record {
            once = ap (λ v. v.items) w.once-is ∙ both.0;
            last = w.last-is ∙ both.1;
            few = omega (arith, ap (λ v. length v.items) w.once-is, l.invariant.few);
          }
    ]

pub returns : goal.returns
returns g c =
    let rest = c.in-Some.rest.now in
    c.loop-item.invariant.once
    ∙ ap (dedup_from g.T.PartialEq.eq c.in-Some.first.now) (take_all c.loop-item.item-index rest c.loop-item-test.false)
    ∙ sym (ap (dedup g.T.PartialEq.eq) (c.in-Some.ensures.cases).0)
