use Rattle.std.specs.Prelude.{◌≡◌, length}
use Rattle.std.proofs.Common.{arith}
use Rattle.watch_touched.specs.Leaning.{leaning, moves_by}
use Rattle.watch_touched.proofs.GrownLists.{nothing_wanted}
use Rattle.watch_touched.proofs.moving.Happened.push_below.Goals as goal

pub returns-then-len-eq0-clause-below : goal.returns-then-len-eq0-clause-below
returns-then-len-eq0-clause-below g c done = λ x e h reached.
    let none : length c.args.below.now.items ≡ 0 = omega (arith, c.len.ensures, c.if-len-eq0.true) in
    absurd (omega (arith, h.1, none))

pub returns-then-len-eq0-clause-moving : goal.returns-then-len-eq0-clause-moving
returns-then-len-eq0-clause-moving g c done =
    let none : length c.args.below.now.items ≡ 0 = omega (arith, c.len.ensures, c.if-len-eq0.true) in
    nothing_wanted (leaning (moves_by c.args.self.now.query.now) c.args.self.now.world.now.state) c.args.below.now.items c.args.moving.now.items none
