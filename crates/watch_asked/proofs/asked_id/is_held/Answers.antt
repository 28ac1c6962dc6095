use Rattle.std.proofs.Common.{◌∙◌, sym}
use Rattle.std.specs.Prelude.{map, ◌||◌}
use Rattle.std.specs.List.{list_any}
use Rattle.std.proofs.lemmas.List.Folds.{list_any-append}
use Rattle.id_pattern.specs.Patterns.{matches}
use Rattle.ecs_model.specs.World.{Key}
use Rattle.watch_asked.proofs.asked_id.is_held.Goals as goal

pub returns-then-is_among_ids : goal.returns-then-is_among_ids
returns-then-is_among_ids c =
    let f = matches c.args.asked.now in
    let others = map (λ (k : Key). k.1) c.args.facts.now in
    c.if-is_among_ids.true ∙ sym (list_any-append f c.args.ids.now others ∙ (λ k. (sym c.is_among_ids.ensures ∙ c.if-is_among_ids.true) k || list_any f others))

pub returns-else-is_among_ids : goal.returns-else-is_among_ids
returns-else-is_among_ids c =
    let f = matches c.args.asked.now in
    let others = map (λ (k : Key). k.1) c.args.facts.now in
    c.is_among_facts.ensures ∙ sym (list_any-append f c.args.ids.now others ∙ (λ k. (sym c.is_among_ids.ensures ∙ c.if-is_among_ids.false) k || list_any f others))
