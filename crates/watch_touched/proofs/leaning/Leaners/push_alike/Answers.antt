use Rattle.std.proofs.Common.{◌==◌, ap, sym, ◌∙◌}
use Rattle.std.specs.List.{list_all, list_any}
use Rattle.std.proofs.lemmas.Result.{on_ok_weaker}
use Rattle.ecs_id.specs.declared.EntityId.{EntityId}
use Rattle.watch_touched.specs.Searches.{is_looked_for}
use Rattle.watch_touched.proofs.TableMates.{all_added, all_there, nobody_by}
use Rattle.watch_touched.proofs.leaning.Leaners.push_alike.Goals as goal

pub returns-then-are_among : goal.returns-then-are_among
returns-then-are_among g c w held =
    let there = ap (λ found. list_all (λ (e : EntityId). list_any (λ x. x == e.index) found) c.args.entities.now) (sym c.as_slice.ensures) ∙ sym c.are_among.ensures ∙ c.if-are_among.true in
    all_there (is_looked_for c.args.self.now) w c.args.target c.args.entities.now c.args.found.now.items there

pub returns-then-not-lean : goal.returns-then-not-lean
returns-then-not-lean g c w held =
    nobody_by (is_looked_for c.args.self.now) w c.args.target c.args.entities.now c.args.found.now.items c.args.ids.now held (sym c.lean.ensures ∙ c.if-not-lean.true)

pub returns : goal.returns
returns g c =
    on_ok_weaker c.push_each.result
    (λ adds w held. all_added (is_looked_for c.args.self.now) w c.args.target c.args.entities.now c.args.found.now.items c.push_each.new.found.items adds)
    c.push_each.ensures
