use Rattle.std.proofs.Common.{sym, ap, subst, ◌∙◌}
use Rattle.std.specs.List.{list_any}
use Rattle.ecs_archetypes.specs.Staying.{TablesStay}
use Rattle.ecs_model.specs.Refusal.{first_reason}
use Rattle.ecs_model.specs.steps.FactChanges.{facts_after_add}
use Rattle.ecs_model.specs.steps.Outcomes.{with_facts}
use Rattle.ecs_model.specs.steps.Step.{Add, reasons}
use Rattle.ecs_world.specs.Changes.{sized_by}
use Rattle.ecs_world.specs.Releases.{gets_no_data}
use Rattle.ecs_world.specs.Standing.{Standing}
use Rattle.ecs_world.proofs.AcceptedCommands.{on_err, on_ok}
use Rattle.ecs_world.proofs.FirstReasons.{add_otherwise}
use Rattle.ecs_world.proofs.RefusalReasons.{not_dead}
use Rattle.ecs_world.proofs.Standings.{state_is, staying_on}
use Rattle.ecs_world.proofs.World.bring_judged.Goals as goal

pub returns-in-Some-clause-refused : goal.returns-in-Some-clause-refused
returns-in-Some-clause-refused g c = sym c.in-Ok.ensures.judged ∙ c.in-Some.is

pub bring-requires-clause-judged : goal.bring-requires-clause-judged
bring-requires-clause-judged g c =
    ap (λ u. first_reason (reasons u (Add c.args.entity c.args.id))) (state_is c.addition_refusal.ensures.same)
    ∙ add_otherwise c.args.self.now.state c.args.entity c.args.id (not_dead c.args.self.now.state c.args.entity c.args.id c.requires.alive c.requires.mentions) c.requires.others
    ∙ sym c.in-Ok.ensures.judged ∙ c.in_default-judged.is

pub returns-then-is_err-clause-unchanged : goal.returns-then-is_err-clause-unchanged
returns-then-is_err-clause-unchanged g c = on_err c.bring.result c.bring.ensures.refused (sym c.is_err.ensures.value ∙ c.if-is_err.true) ∙ state_is c.addition_refusal.ensures.same

pub returns-then-is_err-clause-kept : goal.returns-then-is_err-clause-kept
returns-then-is_err-clause-kept g c = staying_on c.addition_refusal.ensures.same (on_err c.bring.result c.bring.ensures.kept (sym c.is_err.ensures.value ∙ c.if-is_err.true))

pub returns-clause-judged : goal.returns-clause-judged
returns-clause-judged g c = sym c.in-Ok.ensures.judged ∙ c.in_default-judged.is

pub returns-clause-brought : goal.returns-clause-brought
returns-clause-brought g c =
    on_ok c.bring.result c.bring.ensures.brought (sym c.is_err.ensures.value ∙ c.if-is_err.false)
    ∙ ap (λ u. with_facts u (facts_after_add u c.args.entity.index c.args.id)) (state_is c.addition_refusal.ensures.same)

pub returns-clause-stay : goal.returns-clause-stay
returns-clause-stay g c =
    subst (λ (s : Standing). TablesStay (list_any (gets_no_data (sized_by s.state c.args.additions.now.came.items))) s.tables c.bring.new.self.tables) c.addition_refusal.ensures.same
    (on_ok c.bring.result c.bring.ensures.stay (sym c.is_err.ensures.value ∙ c.if-is_err.false))
