use Rattle.std.specs.Prelude.{List, ℕ, flat_map}
use Rattle.std.proofs.Common.{subst}
use Rattle.std.proofs.lemmas.Result.{IfOk-weaker}
use Rattle.watch_touched.specs.Leaning.{Adds, HasAllBelow, leaning, moves_by}
use Rattle.watch_touched.specs.Searches.{is_looked_for, leaners_on}
use Rattle.watch_touched.specs.declared.leaning.Leaners.{Leaners}
use Rattle.watch_touched.proofs.moving.Happened.push_all_leaning.Goals as goal

pub returns-clause-below : goal.returns-clause-below
returns-clause-below g c =
    let start = c.put_in_order.new.indexes.items in
    let all = c.push_all_below.new.found.items in
    let lower =
    subst (λ (l : Leaners _ _). HasAllBelow (is_looked_for l) l.world.now.state start all) c.seeking-lower.ensures (c.in_ok-push_all_below.ensures c.if-not-branch.false) in
    IfOk-weaker c.push_leaning_on_all.result _ _ (λ done adds so x e h reached. lower x e ((c.put_in_order.ensures.same x).1 h) reached) c.push_leaning_on_all.ensures

pub returns-clause-moving : goal.returns-clause-moving
returns-clause-moving g c =
    let q = c.args.self.now.query.now in
    let w = c.args.self.now.world.now.state in
    let start = c.args.moving.now.items in
    let after = c.push_leaning_on_all.new.found.items in
    IfOk-weaker c.push_leaning_on_all.result _ _
    (λ done adds so.
    subst (λ (es : List ℕ). Adds (flat_map (leaning (moves_by q) w) es) start after) c.as_slice.ensures
    (subst (λ (l : Leaners _ _). Adds (flat_map (leaners_on l) c.as_slice.result.now) start after) c.seeking-leaners.ensures (adds so)))
    c.push_leaning_on_all.ensures
