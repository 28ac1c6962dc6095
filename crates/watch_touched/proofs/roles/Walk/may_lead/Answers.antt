use Rattle.std.proofs.Common.{◌≡◌, ◌==◌, false, arith, sym, ◌∙◌}
use Rattle.std.proofs.lemmas.Bool.{eqb-true, not-false}
use Rattle.ecs_model.proofs.steps.LivingIds.{refuted}
use Rattle.watch_touched.proofs.StepsBack.{leads_as_other, nobody_leads}
use Rattle.watch_touched.proofs.roles.Walk.may_lead.Goals as goal

pub returns-then-variable-eq0 : goal.returns-then-variable-eq0
returns-then-variable-eq0 g c none =
    nobody_leads c.args.self.now.query.now (c.args.self.now.asked.now.others).items c.args.self.now.changes.now.went c.args.back.step.now c.args.ids.now c.args.back.entity
    (sym c.from-variable.ensures ∙ c.if-variable-eq0.true) (sym c.lacks.ensures ∙ not-false c.lacks.result none)

pub returns : goal.returns
returns g c none =
    let s = c.args.back.step.now in
    let other : (s.from == 0) ≡ false = refuted (s.from == 0) (λ h. let first : s.from ≡ 0 = eqb-true s.from 0 h in absurd (omega (arith, first, c.from-variable.ensures, c.if-variable-eq0.false))) in
    sym (leads_as_other c.args.self.now.query.now (c.args.self.now.asked.now.others).items c.args.self.now.changes.now.went s c.args.ids.now c.args.back.entity other) ∙ sym c.leads_from_other.ensures ∙ none
