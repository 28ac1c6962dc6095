use Rattle.std.specs.Prelude.{◌≡◌, ◌==◌, not, true}
use Rattle.std.specs.List.{list_any}
use Rattle.std.proofs.Common.{ap, sym, ◌∙◌}
use Rattle.std.proofs.lemmas.Result.{on_ok_weaker}
use Rattle.ecs_model.specs.World.{ids_of}
use Rattle.watch_concerns.specs.OwnIds.{lacks}
use Rattle.watch_touched.specs.Moving.{may_be_this}
use Rattle.watch_touched.proofs.GrownLists.{kept_of_one, none_of_one, one_behind, there_already}
use Rattle.watch_touched.proofs.roles.Walk.push_if_matching.Goals as goal

pub returns-then-is_among : goal.returns-then-is_among
returns-then-is_among g c =
    let found = c.args.found.now.items in
    let e = c.args.entity in
    let there = ap (list_any (λ x. x == e)) (sym c.as_slice.ensures) ∙ sym c.is_among.ensures ∙ c.if-is_among.true in
    kept_of_one (may_be_this c.args.self.now.query.now c.args.self.now.world.now.state) e found found (there_already found e there)

pub returns-then-lacks : goal.returns-then-lacks
returns-then-lacks g c =
    let q = c.args.self.now.query.now in
    let w = c.args.self.now.world.now.state in
    let lacking : lacks q (ids_of w c.args.entity) ≡ true = ap (lacks q) (sym c.ids_at.ensures) ∙ sym c.lacks.ensures ∙ c.if-lacks.true in
    none_of_one (may_be_this q w) c.args.entity c.args.found.now.items (ap not lacking)

pub returns : goal.returns
returns g c = on_ok_weaker c.push.result (one_behind (may_be_this c.args.self.now.query.now c.args.self.now.world.now.state) c.args.entity c.args.found.now.items c.push.new.self.items) c.push.ensures
