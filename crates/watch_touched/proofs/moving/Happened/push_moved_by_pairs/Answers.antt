use Rattle.std.specs.Prelude.{◌↔◌, ◌++◌, ℕ, List}
use Rattle.std.specs.List.{Contains}
use Rattle.std.proofs.Common.{refl, subst}
use Rattle.std.proofs.lemmas.Bool.{and_parts}
use Rattle.watch_touched.specs.Leaning.{HasAllBelow, concerns_beyond}
use Rattle.watch_touched.proofs.MovingEntities.{all_moving}
use Rattle.watch_touched.proofs.StayingEntities.{stay_put}
use Rattle.watch_touched.proofs.moving.Happened.push_moved_by_pairs.Goals as goal

pub returns : goal.returns
returns g c done =
    let q = c.args.self.now.query.now in
    let w = c.args.self.now.world.now.state in
    let changed = c.args.self.now.changes.now in
    let others : List ℕ = c.push_holders.new.others.items in
    let below : List ℕ = c.push_below.new.below.items in
    let moving = c.put_in_order.new.indexes.items in
    let are = subst (λ (es : List ℕ). (e : ℕ) → Contains others e ↔ Contains es e) c.requires.followed.others c.push_holders.ensures.same in
    let roots = subst (λ (es : List ℕ). HasAllBelow (λ ids. concerns_beyond q) w es below) c.requires.followed.below (c.in_ok-push_below.ensures.below c.if-not-branch-2.false) in
    let all =
    all_moving q w changed c.args.moving.now.items others below (others ++ below) c.push_holders.new.moving.items c.push_below.new.moving.items moving
    c.requires.followed.own are roots refl (c.in_ok-push_holders.ensures.moving c.if-not-branch.false) (c.in_ok-push_below.ensures.moving c.if-not-branch-2.false) c.put_in_order.ensures.same in
    record {
      ascend = c.put_in_order.ensures.ascend;
      others_stay = stay_put w changed c.keeps.ensures c.requires.followed.after q c.requires.followed.sound (and_parts _ _ c.requires.followed.found).0 c.requires.holders moving all;
    }
