use Rattle.std.proofs.Common.{[], ◌∷◌, sym, ◌∙◌}
use Rattle.ecs_model.specs.declared.faults.Refusal.TheVariants.{BuiltIn, TraitFixed, Full}
use Rattle.ecs_model.specs.Refusal.{first_reason}
use Rattle.ecs_model.specs.steps.Rules.{is_trait}
use Rattle.rel_traits.specs.Additions.{is_of_built_in}
use Rattle.ecs_world.proofs.JudgedCommands.{remove_dead, remove_later}
use Rattle.ecs_world.proofs.RefusalReasons.{mention_dead, not_dead}
use Rattle.ecs_world.proofs.World.remove_refusal.Goals as goal

pub returns-then-not-mentions_live : goal.returns-then-not-mentions_live
returns-then-not-mentions_live g c = remove_dead c.args.self.now.state c.args.entity c.args.id (mention_dead c.args.self.now.state c.args.entity c.args.id (sym c.mentions_live.ensures ∙ c.if-not-mentions_live.true))

pub returns : goal.returns
returns g c =
    remove_later c.args.self.now.state c.args.entity c.args.id c.judge_remove.result
    (not_dead c.args.self.now.state c.args.entity c.args.id c.requires (sym c.mentions_live.ensures ∙ c.if-not-mentions_live.false))
    (c.judge_remove.ensures ∙ (λ k. first_reason ((is_of_built_in (c.new.ensures k), BuiltIn) ∷ (is_trait (c.new.ensures k).1, TraitFixed) ∷ (c.is_spent.ensures k, Full) ∷ [])))
