use Rattle.std.proofs.Common.{sym, ap, ◌∙◌}
use Rattle.ecs_model.specs.steps.Outcomes.{with_facts}
use Rattle.ecs_model.proofs.steps.CopiedFacts.{facts_brought}
use Rattle.ecs_world.proofs.AdditionEffects.{unbased}
use Rattle.ecs_archetypes.specs.Staying.{stay_all, stay_then}
use Rattle.ecs_world.proofs.BaseCopies.{copies_left, copies_may}
use Rattle.ecs_world.proofs.World.bring.Goals as goal

pub write_copies-requires : goal.write_copies-requires
write_copies-requires g c =
    copies_may c.args.self.now.state c.args.entity c.args.id c.in-Some.base c.keeps.ensures c.requires.judged (sym c.requires.tells.base_is ∙ c.in-Some.is)
    c.bring_new.new.self.state c.in_ok-bring_new.ensures.brought c.deref.result.now (c.deref.ensures.value ∙ c.requires.tells.copies_are)

pub returns-in-Some-clause-brought : goal.returns-in-Some-clause-brought
returns-in-Some-clause-brought g c =
    c.write_copies.ensures.state
    ∙ copies_left c.args.self.now.state c.args.entity c.args.id c.in-Some.base c.keeps.ensures c.requires.judged (sym c.requires.tells.base_is ∙ c.in-Some.is)
    c.bring_new.new.self.state c.in_ok-bring_new.ensures.brought c.deref.result.now (c.deref.ensures.value ∙ c.requires.tells.copies_are)

pub returns-in_default-clause-brought : goal.returns-in_default-clause-brought
returns-in_default-clause-brought g c =
    let w = c.args.self.now.state in
    let e = c.args.entity.index in
    let none = sym c.requires.tells.base_is ∙ c.in_default.is in
    c.in_ok-bring_new.ensures.brought ∙ ap (λ o. with_facts w (facts_brought w e c.args.id o)) none ∙ ap (with_facts w) (unbased w e c.args.id none)

pub returns-in-Some-clause-stay : goal.returns-in-Some-clause-stay
returns-in-Some-clause-stay g c = stay_then _ _ _ _ c.in_ok-bring_new.ensures.stay (stay_all c.write_copies.ensures.stay)
