-- Each step takes the least id of those that come, go and are held.
use Rattle.std.proofs.lemmas.Grind.{common_steps}
use Rattle.std.proofs.Common.{◌<◌, ◌≤◌, ◌++◌, ◌∷◌, [], ◌∙◌, length, arith, sym, ap}
use Rattle.ecs_archetypes.proofs.MergedIds.{merged_coming, merged_going, merged_ok, merged_staying, merged_unheld}
use Rattle.ecs_archetypes.proofs.fact_plan.merge_ids.Goals.{then-not-goes_first+in_ok-push_id, else-not-goes_first}
use Rattle.ecs_archetypes.proofs.fact_plan.merge_ids.Goals as goal

pub loop-place-preserved-then-comes_before : goal.loop-place-preserved-then-comes_before
loop-place-preserved-then-comes_before g c = merged_coming _ _ _ c.args.facts.now c.loop-place.place _ _ c.at-id.ensures.here c.loop-place.came.now c.loop-place.went.now c.loop-place.invariant
    (sym c.comes_before.ensures ∙ c.if-comes_before.true) _ _ c.split_at.ensures.front c.split_at.ensures.back _ c.in_ok-push_coming.ensures

pub loop-place-preserved-then-goes_before : goal.loop-place-preserved-then-goes_before
loop-place-preserved-then-goes_before g c = merged_unheld _ _ _ c.args.facts.now c.loop-place.place _ _ c.at-id.ensures.here c.loop-place.came.now c.loop-place.went.now c.loop-place.invariant
    (sym c.goes_before.ensures ∙ c.if-goes_before.true) _ c.split_at-then-goes_before.ensures.back

pub loop-place-preserved : goal.loop-place-preserved
loop-place-preserved g c =
    let within : c.loop-place.place < length c.args.facts.now = let e = c.len.ensures in omega (arith, e, c.loop-place-test.true) in
    elim c.if-not-goes_first.branch [
      | then-not-goes_first+in_ok-push_id w ↦ merged_staying _ _ _ c.args.facts.now c.loop-place.place _ _ c.at-id.ensures.here c.loop-place.came.now c.loop-place.went.now c.loop-place.invariant within
          (sym c.comes_before.ensures ∙ c.if-comes_before.false) (sym c.goes_before.ensures ∙ c.if-goes_before.false) (sym c.goes_first.ensures ∙ w.if-not-goes_first.true) _ (ap (λ v. v.items) w.ids-is ∙ w.in_ok-push_id.ensures ∙ ap (λ z. c.loop-place.ids.items ++ z ∷ []) w.new.ensures)
      | else-not-goes_first w ↦ merged_going _ _ _ c.args.facts.now c.loop-place.place _ _ c.at-id.ensures.here c.loop-place.came.now c.loop-place.went.now c.loop-place.invariant within
          (sym c.goes_first.ensures ∙ w.if-not-goes_first.false) _ (ap (λ v. v.items) w.ids-is)
    ]

pub returns : goal.returns
returns g c =
    let end : length c.args.facts.now ≤ c.loop-place.place = let e = c.len.ensures in omega (arith, e, c.loop-place-test.false) in
    merged_ok c.args.facts.now c.args.came.now c.args.went.now c.args.facts.now c.loop-place.place c.loop-place.ids.items c.loop-place.came.now c.loop-place.went.now c.loop-place.invariant end c.push_coming-2.result c.push_coming-2.new.ids.items c.push_coming-2.ensures

pub loop-place-init : goal.loop-place-init
loop-place-init g c = grind arith

pub at-id-requires : goal.at-id-requires
at-id-requires g c = grind arith

pub split_at-requires : goal.split_at-requires
split_at-requires g c = grind (arith, common_steps)

pub returns-in_err-push_coming : goal.returns-in_err-push_coming
returns-in_err-push_coming g c = grind arith

pub loop-place-smaller-then-comes_before : goal.loop-place-smaller-then-comes_before
loop-place-smaller-then-comes_before g c = grind arith

pub split_at-requires-then-goes_before : goal.split_at-requires-then-goes_before
split_at-requires-then-goes_before g c = grind (arith, common_steps)

pub loop-place-smaller-then-goes_before : goal.loop-place-smaller-then-goes_before
loop-place-smaller-then-goes_before g c = grind arith

pub returns-in_err-push_id : goal.returns-in_err-push_id
returns-in_err-push_id g c = grind arith

pub overflow_add-place : goal.overflow_add-place
overflow_add-place g c = grind arith

pub loop-place-smaller : goal.loop-place-smaller
loop-place-smaller g c = grind arith
