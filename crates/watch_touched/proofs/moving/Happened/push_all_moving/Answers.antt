use Rattle.std.specs.Prelude.{◌≡◌, ◌↔◌, ℕ, length}
use Rattle.std.specs.List.{Contains}
use Rattle.std.proofs.Common.{arith}
use Rattle.std.proofs.lemmas.Bool.{and_parts}
use Rattle.watch_concerns.specs.Concerns.{concerns}
use Rattle.watch_concerns.specs.Others.{concerns_below, concerns_others}
use Rattle.watch_touched.specs.Moving.{entities_of}
use Rattle.watch_touched.proofs.MovingEntities.{nobody, own_move}
use Rattle.watch_touched.proofs.CountedConcerns.{held_if_none}
use Rattle.watch_touched.proofs.StayingEntities.{stay_put}
use Rattle.watch_touched.proofs.moving.Happened.push_all_moving.Goals as goal

pub returns-then-len-eq0-2 : goal.returns-then-len-eq0-2
returns-then-len-eq0-2 g c done =
    let q = c.args.self.query.now in
    let w = c.args.self.world.now.state in
    let changed = c.args.self.changes.now in
    let own = c.put_in_order.new.indexes.items in
    let same = c.put_in_order.ensures.same in
    let are_own : (e : ℕ) → Contains own e ↔ Contains (entities_of (concerns q) changed) e = λ e. (λ m. (c.requires.own e).0 ((same e).0 m), λ m. (same e).1 ((c.requires.own e).1 m)) in
    let no_others : length c.args.targets.now.others.items ≡ 0 = omega (arith, c.len.ensures, c.if-len-eq0.true) in
    let none_below : length c.args.targets.now.below.items ≡ 0 = omega (arith, c.len-then-len-eq0.ensures, c.if-len-eq0-2.true) in
    let others = nobody c.args.targets.now.others.items (entities_of (concerns_others q) changed) c.requires.others no_others in
    let moving =
    own_move q w changed own are_own others
    (nobody c.args.targets.now.below.items (entities_of (concerns_below q) changed) c.requires.below none_below) in
    record {
      ascend = c.put_in_order.ensures.ascend;
      others_stay = stay_put w changed c.keeps.ensures c.requires.after q c.requires.sound (and_parts _ _ c.requires.found).0 (held_if_none q changed others) own moving;
    }
