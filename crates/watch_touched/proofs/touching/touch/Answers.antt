use Rattle.std.specs.Option.{option_map_or}
use Rattle.std.proofs.Common.{ap, sym, ◌∙◌, refl, Bor, List, [], Option, option_map, Some, Vec}
use Rattle.ecs_id.specs.Id.{Id}
use Rattle.watch_touched.proofs.CommandChanges.{held_or_none, new_before, old_before, or_none}
use Rattle.watch_touched.proofs.touching.touch.Goals as goal
use Rattle.watch_touched.proofs.touching.touch.Goals.{then-was_born, else-was_born+in_ok-ids_before}

pub ids_before-requires-clause-now : goal.ids_before-requires-clause-now
ids_before-requires-clause-now g c =
    ap (λ (ids : Bor (List Id)). ids.now) c.unwrap_or-now.ensures
    ∙ or_none c.ids_now-after.result _ refl
    ∙ ap (λ (ids : Option (List Id)). option_map_or (λ is. is) ids []) c.ids_now-after.ensures
    ∙ held_or_none c.args.world.now.state c.keeps.ensures c.args.index

pub returns : goal.returns
returns g c =
    let i = c.args.index in
    let v = c.args.world.now.state in
    let changed = c.args.changes.now in
    let items : Option (Vec Id g.row.A.Denot) → Option (List Id) = option_map (λ ids. ids.items) in
    elim c.if-was_born.branch [
      | then-was_born w ↦
          let before = ap items w.before-is
          ∙ sym (new_before v changed c.requires.after c.keeps.ensures i (sym c.was_born.ensures ∙ w.if-was_born.true)) in
          λ j. record { index = i; before = before j; after = c.ids_now-after.ensures j }
      | else-was_born+in_ok-ids_before w ↦
          let before = ap items w.before-is
          ∙ ap Some w.in_ok-ids_before.ensures
          ∙ sym (old_before v changed c.requires.after c.keeps.ensures i (sym c.was_born.ensures ∙ w.if-was_born.false) c.requires.touched) in
          λ j. record { index = i; before = before j; after = c.ids_now-after.ensures j }
    ]
