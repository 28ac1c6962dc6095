use Rattle.std.specs.Prelude.{◌++◌, map}
use Rattle.std.proofs.Common.{◌≡◌, ◌<◌, ◌≤◌, [], ℕ, ap, arith, get_or, length, subst, sym, ◌∙◌}
use Rattle.ecs_model.specs.World.{Key, ids_of}
use Rattle.watch_asked.specs.Asked.{counts}
use Rattle.watch_touched.specs.Leaning.{Adds}
use Rattle.watch_touched.specs.Moving.{ids_around}
use Rattle.watch_touched.specs.Steps.{found_behind}
use Rattle.watch_touched.proofs.GrownLists.{already, given}
use Rattle.watch_touched.proofs.RoleWalks.{behind_entry, entry_found, entry_idle, whole}
use Rattle.watch_touched.proofs.roles.Walk.push_from_fact.Goals as goal

pub entries-init : goal.entries-init
entries-init g c = already [] c.args.moving.now.items (λ e m. absurd (omega (arith, m.1)))

pub entries-preserved-then-not-counts : goal.entries-preserved-then-not-counts
entries-preserved-then-not-counts g c =
    let q = c.args.self.now.query.now in
    let w = c.args.self.now.world.now.state in
    let changed = c.args.self.now.changes.now in
    let k : Key = c.args.fact in
    let all = (c.args.self.now.asked.now.others).items in
    let a = c.one-item.result in
    let found = c.entries.moving.items in
    let told : c.counts.result ≡ counts (ids_around w changed.went k.0) k.1 a =
    c.counts.ensures ∙ (λ j. counts ((c.ids_at-ids.ensures ∙ ap (ids_of w) c.entity-entity.ensures) j ++ map (λ (x : Key). x.1) (c.went-went.ensures j)) (c.id.ensures j) a) in
    let inside : c.entries.one-index < length all = omega (arith, c.entries-test.true, ap length c.others-one-items.ensures) in
    let is = c.one-item.is ∙ ap (λ xs. get_or xs c.entries.one-index a) c.others-one-items.ensures in
    given (behind_entry q w changed k) all c.entries.one-index inside a c.args.moving.now.items found found c.entries.invariant
    (subst (λ x. Adds (behind_entry q w changed k x) found found) is (entry_idle q w changed k a found (sym told ∙ c.if-not-counts.true)))

pub entries-preserved : goal.entries-preserved
entries-preserved g c =
    let q = c.args.self.now.query.now in
    let w = c.args.self.now.world.now.state in
    let changed = c.args.self.now.changes.now in
    let k : Key = c.args.fact in
    let all = (c.args.self.now.asked.now.others).items in
    let a = c.one-item.result in
    let found = c.entries.moving.items in
    let after = c.push_behind.new.moving.items in
    let v : ℕ = c.variable-variable.result in
    let told : c.counts.result ≡ counts (ids_around w changed.went k.0) k.1 a =
    c.counts.ensures ∙ (λ j. counts ((c.ids_at-ids.ensures ∙ ap (ids_of w) c.entity-entity.ensures) j ++ map (λ (x : Key). x.1) (c.went-went.ensures j)) (c.id.ensures j) a) in
    let inside : c.entries.one-index < length all = omega (arith, c.entries-test.true, ap length c.others-one-items.ensures) in
    let is = c.one-item.is ∙ ap (λ xs. get_or xs c.entries.one-index a) c.others-one-items.ensures in
    let low : v ≤ a.variable = omega (arith, c.variable-variable.ensures) in
    let adds = c.in_ok-push_behind.ensures c.if-not-branch.false a.variable low in
    let behind = subst (λ u. Adds (found_behind q w changed a.variable u k.0) found after) c.variable-variable.ensures (subst (λ e. Adds (found_behind q w changed a.variable v e) found after) c.entity-entity.ensures adds) in
    given (behind_entry q w changed k) all c.entries.one-index inside a c.args.moving.now.items found after c.entries.invariant
    (subst (λ x. Adds (behind_entry q w changed k x) found after) is (entry_found q w changed k a found after (sym told ∙ c.if-not-counts.false) behind))

pub returns : goal.returns
returns g c done =
    let all = (c.args.self.now.asked.now.others).items in
    let over : length all ≤ c.entries.one-index = omega (arith, c.entries-test.false, ap length c.others-one-items.ensures) in
    whole (behind_entry c.args.self.now.query.now c.args.self.now.world.now.state c.args.self.now.changes.now c.args.fact) all c.entries.one-index c.args.moving.now.items c.entries.moving.items over c.entries.invariant
