use Rattle.std.specs.Prelude.{List, ℕ, flat_map}
use Rattle.std.proofs.Common.{subst}
use Rattle.std.proofs.lemmas.Result.{IfOk-weaker}
use Rattle.watch_touched.specs.Leaning.{Adds, leaning, moves_by}
use Rattle.watch_touched.specs.Searches.{leaners_on}
use Rattle.watch_touched.specs.declared.leaning.Leaners.{Leaners}
use Rattle.watch_touched.proofs.moving.Happened.push_holders.Goals as goal

pub returns-clause-moving : goal.returns-clause-moving
returns-clause-moving g c =
    let q = c.args.self.now.query.now in
    let w = c.args.self.now.world.now.state in
    let start = c.args.moving.now.items in
    let after = c.push_leaning_on_all.new.found.items in
    IfOk-weaker c.push_leaning_on_all.result _ _
    (λ done adds so.
    subst (λ (es : List ℕ). Adds (flat_map (leaning (moves_by q) w) es) start after) c.as_slice.ensures
    (subst (λ (l : Leaners _ _). Adds (flat_map (leaners_on l) c.as_slice.result.now) start after) c.seeking-leaners.ensures (adds so)))
    c.push_leaning_on_all.ensures
