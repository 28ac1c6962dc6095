use Rattle.std.specs.Prelude.{ℕ, List, true}
use Rattle.std.proofs.Common.{subst}
use Rattle.std.proofs.lemmas.Bool.{and_parts}
use Rattle.watch_touched.specs.Leaning.{HasAllBelow, concerns_beyond}
use Rattle.watch_touched.proofs.MovingRoles.{moving_by_roles}
use Rattle.watch_touched.proofs.RoleWalks.{all_asked}
use Rattle.watch_touched.proofs.RolesBehind.{linked_by_all}
use Rattle.watch_touched.proofs.StayingRoles.{others_than_roles_stay}
use Rattle.watch_touched.proofs.moving.Happened.push_moved_by_roles.Goals as goal

pub returns : goal.returns
returns g c done =
    let q = c.args.self.now.query.now in
    let w = c.args.self.now.world.now.state in
    let changed = c.args.self.now.changes.now in
    let below : List ℕ = c.push_below.new.below.items in
    let moving = c.put_in_order.new.indexes.items in
    let roots = subst (λ (es : List ℕ). HasAllBelow (λ ids. concerns_beyond q) w es below) c.requires.followed.below (c.in_ok-push_below.ensures.below c.if-not-branch-2.false) in
    let all =
    moving_by_roles q w (λ v t. true) changed _ (all_asked q w (λ v t. true) changed c.args.asked.now.others.items c.requires.asked.others)
    c.args.moving.now.items below c.push_by_roles.new.moving.items c.push_below.new.moving.items moving
    c.requires.followed.own roots (c.in_ok-push_by_roles.ensures c.if-not-branch.false) (c.in_ok-push_below.ensures.moving c.if-not-branch-2.false) c.put_in_order.ensures.same in
    record {
      ascend = c.put_in_order.ensures.ascend;
      others_stay = others_than_roles_stay w changed q c.keeps.ensures c.requires.followed.after c.requires.followed.sound (and_parts _ _ c.requires.followed.found).0 (λ v t. true) (linked_by_all q c.requires.linked) moving all;
    }
