use Rattle.std.specs.Prelude.{flat_map}
use Rattle.std.proofs.Common.{List, subst}
use Rattle.std.proofs.lemmas.Result.{IfOk-weaker}
use Rattle.ecs_model.specs.World.{Key}
use Rattle.watch_touched.specs.Leaning.{Adds}
use Rattle.watch_touched.specs.Steps.{found_from}
use Rattle.watch_touched.proofs.RoleWalks.{from_all}
use Rattle.watch_touched.proofs.roles.Walk.push_by_roles.Goals as goal

pub returns : goal.returns
returns g c =
    let q = c.args.self.now.query.now in
    let w = c.args.self.now.world.now.state in
    let changed = c.args.self.now.changes.now in
    let asked = c.args.self.now.asked.now in
    let next = found_from q w changed (asked.others).items in
    let start = c.args.moving.now.items in
    let between = c.push_from_facts.new.moving.items in
    let after = c.push_from_facts-2.new.moving.items in
    let came = subst (λ (ks : List Key). Adds (flat_map next ks) start between) c.came-came.ensures (c.in_ok-push_from_facts.ensures c.if-not-branch.false) in
    IfOk-weaker c.push_from_facts-2.result _ _
    (λ b adds done. from_all q w changed asked c.requires.asked start between after came (subst (λ (ks : List Key). Adds (flat_map next ks) between after) c.went-went.ensures (adds done)))
    c.push_from_facts-2.ensures
