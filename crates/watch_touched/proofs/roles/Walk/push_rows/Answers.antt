use Rattle.std.proofs.Common.{◌==◌, ap, sym, ◌∙◌}
use Rattle.std.specs.List.{list_all, list_any}
use Rattle.ecs_id.specs.declared.EntityId.{EntityId}
use Rattle.watch_touched.specs.Searches.{leads}
use Rattle.watch_touched.proofs.TableMates.{all_added, all_there, nobody_by}
use Rattle.watch_touched.proofs.roles.Walk.push_rows.Goals as goal

pub returns-then-are_among : goal.returns-then-are_among
returns-then-are_among g c done w held =
    let there = ap (λ found. list_all (λ (e : EntityId). list_any (λ x. x == e.index) found) c.args.entities.now) (sym c.as_slice.ensures) ∙ sym c.are_among.ensures ∙ c.if-are_among.true in
    all_there (leads c.args.self.now c.args.back.step.now) w c.args.back.entity c.args.entities.now c.args.found.now.items there

pub returns-then-not-may_lead : goal.returns-then-not-may_lead
returns-then-not-may_lead g c done w held =
    nobody_by (leads c.args.self.now c.args.back.step.now) w c.args.back.entity c.args.entities.now c.args.found.now.items c.args.ids.now held (c.may_lead.ensures c.if-not-may_lead.true)

pub returns : goal.returns
returns g c done w held =
    all_added (leads c.args.self.now c.args.back.step.now) w c.args.back.entity c.args.entities.now c.args.found.now.items c.push_each.new.found.items c.in_ok-push_each.ensures
