use Rattle.std.proofs.Common.{sym, ap, ◌∙◌}
use Rattle.std.specs.List.{list_any}
use Rattle.rel_traits.specs.Additions.{is_of_built_in}
use Rattle.ecs_world.proofs.AcceptedCommands.{on_ok}
use Rattle.ecs_world.proofs.FirstReasons.{fact_of_built_in, fact_of_dead}
use Rattle.ecs_world.proofs.RefusalReasons.{entity_dead, mention_dead, not_dead}
use Rattle.ecs_world.proofs.World.additions_of.Goals.{then-not-is_alive-via-then-not-is_alive, then-not-is_alive-via-else-not-is_alive+then-not-mentions_live}
use Rattle.ecs_world.proofs.World.additions_of.Goals as goal

pub returns-then-not-is_alive-clause-refused : goal.returns-then-not-is_alive-clause-refused
returns-then-not-is_alive-clause-refused g c =
    elim c.then-not-is_alive.branch [
      | then-not-is_alive-via-then-not-is_alive b ↦ fact_of_dead c.args.self.now.state c.args.entity c.args.id
          (entity_dead c.args.self.now.state c.args.entity c.args.id (sym c.is_alive.ensures ∙ b.if-not-is_alive.true))
      | then-not-is_alive-via-else-not-is_alive+then-not-mentions_live b ↦ fact_of_dead c.args.self.now.state c.args.entity c.args.id
          (mention_dead c.args.self.now.state c.args.entity c.args.id (sym b.mentions_live.ensures ∙ b.if-not-mentions_live.true))
    ]

pub returns-then-adds_built_in-clause-refused : goal.returns-then-adds_built_in-clause-refused
returns-then-adds_built_in-clause-refused g c =
    let live = not_dead c.args.self.now.state c.args.entity c.args.id (sym c.is_alive.ensures ∙ c.if-not-is_alive.false) (sym c.mentions_live.ensures ∙ c.if-not-mentions_live.false) in
    let lists = on_ok c.list_additions.result c.list_additions.ensures.tells (sym c.is_err.ensures.value ∙ c.if-is_err.false) in
    fact_of_built_in c.args.self.now.state c.args.entity c.args.id live (ap (list_any is_of_built_in) (sym (c.deref.ensures.value ∙ lists.all_are)) ∙ sym c.adds_built_in.ensures ∙ c.if-adds_built_in.true)

pub returns-clause-alive : goal.returns-clause-alive
returns-clause-alive g c = sym c.is_alive.ensures ∙ c.if-not-is_alive.false

pub returns-clause-mentions : goal.returns-clause-mentions
returns-clause-mentions g c = sym c.mentions_live.ensures ∙ c.if-not-mentions_live.false

pub returns-clause-others : goal.returns-clause-others
returns-clause-others g c =
    let lists = on_ok c.list_additions.result c.list_additions.ensures.tells (sym c.is_err.ensures.value ∙ c.if-is_err.false) in
    ap (list_any is_of_built_in) (sym (c.deref.ensures.value ∙ lists.all_are)) ∙ sym c.adds_built_in.ensures ∙ c.if-adds_built_in.false

pub returns-clause-tells : goal.returns-clause-tells
returns-clause-tells g c = on_ok c.list_additions.result c.list_additions.ensures.tells (sym c.is_err.ensures.value ∙ c.if-is_err.false)

pub returns-clause-live : goal.returns-clause-live
returns-clause-live g c = on_ok c.list_additions.result c.list_additions.ensures.live (sym c.is_err.ensures.value ∙ c.if-is_err.false)

pub returns-clause-copies_live : goal.returns-clause-copies_live
returns-clause-copies_live g c = on_ok c.list_additions.result c.list_additions.ensures.copies_live (sym c.is_err.ensures.value ∙ c.if-is_err.false)
