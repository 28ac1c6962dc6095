use Rattle.std.proofs.Common.{◌∷◌, [], sym, ap, ◌∙◌}
use Rattle.ecs_model.specs.declared.faults.Refusal.TheVariants.{Full}
use Rattle.ecs_model.specs.Refusal.{first_reason}
use Rattle.ecs_world.proofs.RefusalReasons.{add_built_in, add_dead, add_grown, mention_dead, not_dead}
use Rattle.ecs_world.proofs.SimpleFacts.{built_in_only, replacing_fits}
use Rattle.ecs_world.proofs.World.replacing_refusal.Goals as goal

pub returns-then-not-mentions_live : goal.returns-then-not-mentions_live
returns-then-not-mentions_live g c = add_dead c.args.self.now.state c.args.entity c.args.id (mention_dead c.args.self.now.state c.args.entity c.args.id (sym c.mentions_live.ensures ∙ c.if-not-mentions_live.true))

pub returns-then-is_fixed : goal.returns-then-is_fixed
returns-then-is_fixed g c =
    let w = c.args.self.now.state in
    let e = c.args.entity in
    let i = c.args.id in
    let fixed = built_in_only w e.index i c.requires.in_place.brings ∙ sym c.is_fixed.ensures ∙ c.if-is_fixed.true in
    add_built_in w e i (not_dead w e i c.requires.alive (sym c.mentions_live.ensures ∙ c.if-not-mentions_live.false)) fixed

pub returns-then-is_spent : goal.returns-then-is_spent
returns-then-is_spent g c =
    let w = c.args.self.now.state in
    let e = c.args.entity in
    let i = c.args.id in
    let own = built_in_only w e.index i c.requires.in_place.brings ∙ sym c.is_fixed.ensures ∙ c.if-is_fixed.false in
    let alive = not_dead w e i c.requires.alive (sym c.mentions_live.ensures ∙ c.if-not-mentions_live.false) in
    add_grown w e i _ alive own (ap (λ b. first_reason ((b, Full) ∷ [])) (sym c.if-is_spent.true ∙ c.is_spent.ensures) ∙ sym (replacing_fits w e i c.args.old c.requires.in_place c.keeps.ensures alive own))

pub returns-else-is_spent : goal.returns-else-is_spent
returns-else-is_spent g c =
    let w = c.args.self.now.state in
    let e = c.args.entity in
    let i = c.args.id in
    let own = built_in_only w e.index i c.requires.in_place.brings ∙ sym c.is_fixed.ensures ∙ c.if-is_fixed.false in
    let alive = not_dead w e i c.requires.alive (sym c.mentions_live.ensures ∙ c.if-not-mentions_live.false) in
    add_grown w e i _ alive own (ap (λ b. first_reason ((b, Full) ∷ [])) (sym c.if-is_spent.false ∙ c.is_spent.ensures) ∙ sym (replacing_fits w e i c.args.old c.requires.in_place c.keeps.ensures alive own))
