use Rattle.std.proofs.Common.{◌≡◌, Some, None, refl, sym, ◌∙◌, ap, subst}
use Rattle.std.specs.Prelude.{MatchResult}
use Rattle.world_script.specs.Stepping.{StepperState}
use Rattle.world_script.proofs.SetColumns.{column_errors, on_ok, sets_seen}
use Rattle.world_script.proofs.stepping.Stepper.set_column.Goals as goal

pub returns-clause-judged : goal.returns-clause-judged
returns-clause-judged g c =
    let s = c.self.inside.interpreter.session in
    let view = c.self.view_is in
    let none = (c.self.invariant c.if-self.false).none_wait in
    let same = column_errors c.args.self.now s c.args.key c.args.id _ (sym (ap (λ (v : StepperState). (v.stepping).broken) view) ∙ c.if-self.false)
    (sym (ap (λ (v : StepperState). (v.stepping).session) view)) (sym (ap (λ (v : StepperState). v.tables) view)) none in
    subst (λ o. MatchResult c.set_column.result (λ _. o ≡ None) (λ error. o ≡ Some error)) (sym same) c.set_column.ensures.judged

pub returns-clause-set : goal.returns-clause-set
returns-clause-set g c =
    on_ok c.set_column.result (sets_seen c.self.inside.interpreter.session c.set_column.new.self _ _ _ c.args.key c.args.id c.args.bytes.now c.self.view_is refl refl refl refl) c.set_column.ensures.set

pub invariant_of-self : goal.invariant_of-self
invariant_of-self g c = λ whole.
    let was = c.self.invariant whole in
    record { none_wait = ap (λ x. x.waiting) c.set_column.ensures.rest ∙ was.none_wait; few = was.few; unprinted = was.unprinted }
