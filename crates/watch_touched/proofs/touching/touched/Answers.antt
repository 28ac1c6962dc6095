use Rattle.std.specs.List.{Contains}
use Rattle.std.specs.List.Sorted.{IsStrictlyIncreasing}
use Rattle.std.proofs.Common.{ℕ, ◌≤◌, List, ◌∙◌, ap, sym, subst, get_or, map, length, arith}
use Rattle.std.proofs.lemmas.List.{take_all}
use Rattle.ecs_model.specs.rows.View.{view_of}
use Rattle.query_local.specs.Touched.{AreTouched, touch_of}
use Rattle.watch_touched.specs.Before.{view_before}
use Rattle.watch_touched.specs.Indexes.{touch_at}
use Rattle.watch_touched.proofs.TouchedEntities.{indexes_told, number_at, one_more}
use Rattle.watch_touched.proofs.CommandChanges.{all_touched}
use Rattle.watch_touched.proofs.touching.touched.Goals as goal

pub touch-requires-clause-touched : goal.touch-requires-clause-touched
touch-requires-clause-touched g c =
    let is = c.as_slice-items.result.now in
    let k = c.loop-index.index-index in
    let i : ℕ = get_or is k 0 in
    (c.in_ok-indexes.ensures.all i).0 (subst (λ (is : List ℕ). Contains is i) c.as_slice-items.ensures (number_at is k (omega arith)))

pub loop-index-preserved : goal.loop-index-preserved
loop-index-preserved g c =
    let before = view_before c.args.world.now.state c.args.changes.now in
    let after = view_of c.args.world.now.state in
    let ts = c.loop-index.touched.items in
    ap (map touch_of) c.in_ok-push.ensures.items
    ∙ one_more touch_of (touch_at before after) ts c.in_ok-touch.field-0 c.as_slice-items.result.now c.loop-index.index-index (omega arith) c.loop-index.invariant c.in_ok-touch.ensures

pub returns-clause-ascends : goal.returns-clause-ascends
returns-clause-ascends g c =
    let before = view_before c.args.world.now.state c.args.changes.now in
    let after = view_of c.args.world.now.state in
    let is = c.as_slice-items.result.now in
    let all : length is ≤ c.loop-index.index-index = omega arith in
    let told = c.loop-index.invariant ∙ ap (map (touch_at before after)) (take_all c.loop-index.index-index is all) in
    subst IsStrictlyIncreasing (sym c.as_slice-items.ensures ∙ sym (indexes_told before after c.loop-index.touched.items is told)) c.in_ok-indexes.ensures.ascend

pub returns-clause-touched : goal.returns-clause-touched
returns-clause-touched g c =
    let before = view_before c.args.world.now.state c.args.changes.now in
    let after = view_of c.args.world.now.state in
    let is = c.as_slice-items.result.now in
    let all : length is ≤ c.loop-index.index-index = omega arith in
    let told = c.loop-index.invariant ∙ ap (map (touch_at before after)) (take_all c.loop-index.index-index is all) in
    let same = sym c.as_slice-items.ensures in
    subst (λ ts. AreTouched ts before after) (sym told)
    (all_touched c.args.world.now.state c.args.changes.now c.requires c.keeps.ensures is
    (λ i h. subst (λ is. Contains is i) same ((c.in_ok-indexes.ensures.all i).1 h)))
