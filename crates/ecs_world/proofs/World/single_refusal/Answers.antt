use Rattle.std.proofs.Common.{sym, ◌∙◌}
use Rattle.ecs_world.proofs.RefusalReasons.{add_built_in, add_dead, add_grown, growth_told, mention_dead, not_dead}
use Rattle.ecs_world.proofs.SimpleFacts.{built_in_alone}
use Rattle.ecs_world.proofs.World.single_refusal.Goals as goal

pub returns-then-not-mentions_live : goal.returns-then-not-mentions_live
returns-then-not-mentions_live g c = add_dead c.args.self.now.state c.args.entity c.args.id (mention_dead c.args.self.now.state c.args.entity c.args.id (sym c.mentions_live.ensures ∙ c.if-not-mentions_live.true))

pub returns-then-is_fixed : goal.returns-then-is_fixed
returns-then-is_fixed g c =
    let w = c.args.self.now.state in
    let e = c.args.entity in
    let i = c.args.id in
    let fixed = built_in_alone w e.index i c.requires.alone ∙ sym c.is_fixed.ensures ∙ c.if-is_fixed.true in
    let alive = not_dead w e i c.requires.alive (sym c.mentions_live.ensures ∙ c.if-not-mentions_live.false) in
    add_built_in w e i alive fixed

pub returns-else-is_fixed : goal.returns-else-is_fixed
returns-else-is_fixed g c =
    let w = c.args.self.now.state in
    let e = c.args.entity in
    let i = c.args.id in
    let own = built_in_alone w e.index i c.requires.alone ∙ sym c.is_fixed.ensures ∙ c.if-is_fixed.false in
    let alive = not_dead w e i c.requires.alive (sym c.mentions_live.ensures ∙ c.if-not-mentions_live.false) in
    add_grown w e i c.growth_refusal.result alive own
    (c.growth_refusal.ensures ∙ growth_told w e i c.args.found.now c.requires.alone c.keeps.ensures c.requires.alive c.requires.held c.requires.count alive own)
