use Rattle.std.specs.Prelude.{◌<◌, ◌≤◌, length}
use Rattle.std.proofs.Common.{ap, arith, get_or, subst}
use Rattle.std.proofs.lemmas.Bool.Decides.{nat_tests}
use Rattle.watch_touched.specs.Leaning.{Adds, leaning}
use Rattle.watch_touched.specs.Searches.{is_looked_for, leaners_on}
use Rattle.watch_touched.proofs.LowerWalks.{all_reached, all_walked, begun, walked_on}
use Rattle.watch_touched.proofs.leaning.Leaners.push_all_below.Goals as goal

pub loop-next-init : goal.loop-next-init
loop-next-init g c = begun (leaners_on c.args.self.now) c.args.found.now.items

pub loop-next-preserved : goal.loop-next-preserved
loop-next-preserved g c =
    let p = is_looked_for c.args.self.now in
    let w = c.args.self.now.world.now.state in
    let found = c.loop-next.found.items in
    let after = c.push_leaning.new.found.items in
    let n = c.loop-next.next in
    let inside : n < length found = omega (arith, c.if-next-len.false, c.len.ensures) in
    let target = ap (λ es. get_or es n 0) c.as_slice.ensures in
    walked_on (leaning p w) c.args.found.now.items found after n 0 c.loop-next.invariant inside
    (subst (λ x. Adds (leaning p w x) found after) target (c.in_ok-push_leaning.ensures c.if-not-branch.false))

pub returns : goal.returns
returns g c done =
    let found = c.loop-next.found.items in
    let count = c.len-2.result in
    let few : count ≤ 64 = grind (arith, nat_tests, done) in
    let next = leaners_on c.args.self.now in
    all_reached next c.args.found.now.items found (all_walked next c.args.found.now.items found c.loop-next.next c.loop-next.invariant (omega (arith, few, c.len-2.ensures, c.loop-next-test.false)))

pub returns-then-next-len : goal.returns-then-next-len
returns-then-next-len g c done =
    let next = leaners_on c.args.self.now in
    let found = c.loop-next.found.items in
    all_reached next c.args.found.now.items found (all_walked next c.args.found.now.items found c.loop-next.next c.loop-next.invariant (omega (arith, c.if-next-len.true, c.len.ensures)))
