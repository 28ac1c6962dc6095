use Rattle.std.specs.List.{list_any}
use Rattle.std.proofs.Common.{◌++◌, ◌==◌, not, filter, map, ap, ◌∙◌}
use Rattle.std.proofs.lemmas.List.Filters.{dedup_is}
use Rattle.ecs_model.specs.World.{Key, key_eq}
use Rattle.watch_touched.proofs.CommandChanges.{came_rises, sorted_ids_before, went_rises}
use Rattle.watch_touched.proofs.touching.ids_before.Goals as goal

pub ids_not_come-requires : goal.ids_not_come-requires
ids_not_come-requires g c = rw c.came.ensures (came_rises c.args.world.now.state c.args.changes.now c.requires.after c.keeps.ensures)

pub facts_of-requires : goal.facts_of-requires
facts_of-requires g c = rw c.went.ensures (went_rises c.args.world.now.state c.args.changes.now c.requires.after)

pub returns : goal.returns
returns g c =
    let e = c.args.entity in
    sorted_ids_before c.args.world.now.state c.args.changes.now c.requires.after c.keeps.ensures e c.args.now.now
    c.in_ok-ids.ids.items c.push_ids.new.ids.items c.sort_unstable.new.self.items c.dedup.new.self.items c.requires.now
    (c.in_ok-ids.ensures ∙ ap (λ ks. filter (λ i. not (list_any (key_eq (e, i)) ks)) c.args.now.now) c.came.ensures)
    (c.in_ok-push_ids.ensures ∙ ap (λ ks. c.in_ok-ids.ids.items ++ map (λ (k : Key). k.1) ks) (c.facts_of.ensures ∙ ap (filter (λ (k : Key). k.0 == e)) c.went.ensures))
    c.sort_unstable.ensures.permutation c.sort_unstable.ensures.sorted (dedup_is _ _ _ c.dedup.ensures.filtered)
