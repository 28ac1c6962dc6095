use Rattle.std.proofs.Common.{◌≡◌, ◌<◌, ◌+◌, ◌∙◌, ap, get_or, length, map, refl, sym, subst, take, arith}
use Rattle.std.proofs.Math.Nat.{max-eq_left, max-eq_right}
use Rattle.std.proofs.lemmas.List.{take_all}
use Rattle.std.proofs.lemmas.List.Elements.{All-contains}
use Rattle.ecs_model.specs.Depth.{greatest}
use Rattle.ecs_model.specs.Links.{targets_in}
use Rattle.ecs_model.proofs.LivePairs.{target_there}
use Rattle.rel_travel.proofs.DepthWalks.{none_greater, one_greater}
use Rattle.rel_travel.proofs.depths.greatest_word.Goals as goal
use Rattle.rel_travel.proofs.depths.greatest_word.Goals.{in-Some+then-word-most, in-Some+else-word-most, in_default}

pub loop-id-init : goal.loop-id-init
loop-id-init c = refl

pub bounds-known-target : goal.bounds-known-target
bounds-known-target c =
    let there = target_there c.args.ids.now c.args.relationship c.loop-id.id-index c.in-Some.target c.id-item.result (omega arith) c.id-item.is (sym c.target_under.ensures ∙ c.in-Some.is) in
    All-contains (λ t. t < length c.args.known.now) (targets_in c.args.ids.now c.args.relationship) c.in-Some.target c.requires there

pub loop-id-preserved : goal.loop-id-preserved
loop-id-preserved c =
    let ids = c.args.ids.now in
    let r = c.args.relationship in
    let k = c.loop-id.id-index in
    let i = c.id-item.result in
    elim c.match-target_under.branch [
      | in-Some+then-word-most w ↦
          one_greater ids r k i (omega arith) c.id-item.is (λ t. get_or c.args.known.now t 0) w.in-Some.target c.loop-id.most _ (sym c.target_under.ensures ∙ w.in-Some.is) c.loop-id.invariant
          (w.most-is ∙ sym (max-eq_right (omega (arith, w.if-word-most.true))))
      | in-Some+else-word-most w ↦
          one_greater ids r k i (omega arith) c.id-item.is (λ t. get_or c.args.known.now t 0) w.in-Some.target c.loop-id.most _ (sym c.target_under.ensures ∙ w.in-Some.is) c.loop-id.invariant
          (w.most-is ∙ sym (max-eq_left (omega (arith, w.if-word-most.false))))
      | in_default w ↦
          subst (λ m. m ≡ greatest (map (λ t. get_or c.args.known.now t 0) (targets_in (take (k + 1) ids) r))) (sym w.most-is)
          (none_greater ids r k i (omega arith) c.id-item.is (λ t. get_or c.args.known.now t 0) c.loop-id.most (sym c.target_under.ensures ∙ w.in_default.is) c.loop-id.invariant)
    ]

pub returns : goal.returns
returns c =
    let whole = take_all c.loop-id.id-index c.args.ids.now (omega arith) in
    c.loop-id.invariant ∙ ap (λ xs. greatest (map (λ t. get_or c.args.known.now t 0) (targets_in xs c.args.relationship))) whole
