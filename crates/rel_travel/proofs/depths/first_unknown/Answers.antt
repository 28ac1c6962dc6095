use Rattle.std.proofs.Common.{◌≡◌, ◌≢◌, ◌<◌, ◌∙◌, get_or, length, sym, subst, take, arith}
use Rattle.std.specs.List.{Contains}
use Rattle.std.proofs.lemmas.List.{take_all}
use Rattle.std.proofs.lemmas.List.Elements.{All-contains}
use Rattle.ecs_model.specs.Links.{targets_in}
use Rattle.ecs_model.proofs.LivePairs.{target_there}
use Rattle.rel_travel.proofs.DepthWalks.{none_known, one_known}
use Rattle.rel_travel.proofs.depths.first_unknown.Goals as goal
use Rattle.rel_travel.proofs.depths.first_unknown.Goals.{in-Some+else-known-target-eq0, in_default}

pub bounds-known-target : goal.bounds-known-target
bounds-known-target c =
    let there = target_there c.args.ids.now c.args.relationship c.loop-place.place c.in-Some.target c.index-ids-place.result (omega arith) c.index-ids-place.is (sym c.target_under.ensures ∙ c.in-Some.is) in
    All-contains (λ t. t < length c.args.known.now) (targets_in c.args.ids.now c.args.relationship) c.in-Some.target c.requires.within there

pub returns-then-known-target-eq0-clause-target : goal.returns-then-known-target-eq0-clause-target
returns-then-known-target-eq0-clause-target c =
    target_there c.args.ids.now c.args.relationship c.loop-place.place c.in-Some.target c.index-ids-place.result (omega arith) c.index-ids-place.is (sym c.target_under.ensures ∙ c.in-Some.is)

pub loop-place-preserved : goal.loop-place-preserved
loop-place-preserved c =
    let words = c.args.known.now in
    elim c.match-target_under.branch [
      | in-Some+else-known-target-eq0 w ↦
          one_known c.args.ids.now c.args.relationship c.loop-place.place c.index-ids-place.result (omega arith) c.index-ids-place.is (λ t. get_or words t 0 ≢ 0) w.in-Some.target (sym c.target_under.ensures ∙ w.in-Some.is) w.if-known-target-eq0.false c.loop-place.invariant
      | in_default w ↦
          none_known c.args.ids.now c.args.relationship c.loop-place.place c.index-ids-place.result (omega arith) c.index-ids-place.is (λ t. get_or words t 0 ≢ 0) (sym c.target_under.ensures ∙ w.in_default.is) c.loop-place.invariant
    ]

pub returns-clause-none : goal.returns-clause-none
returns-clause-none c =
    let whole : take c.loop-place.place c.args.ids.now ≡ c.args.ids.now = take_all c.loop-place.place c.args.ids.now (omega arith) in
    λ t h. c.loop-place.invariant t (subst (λ xs. Contains (targets_in xs c.args.relationship) t) (sym whole) h)
