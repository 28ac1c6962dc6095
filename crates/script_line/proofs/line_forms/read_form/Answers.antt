use Rattle.std.proofs.Common.{◌∙◌}
use Rattle.ecs_model.specs.Script.{form_or_bad, forms, looked_up}
use Rattle.script_line.proofs.Forms.{rarer_is}
use Rattle.script_line.proofs.line_forms.read_form.Goals as goal

pub returns-in_default : goal.returns-in_default
returns-in_default g c = c.rarer_line.ensures c.args.values.now.items
    ∙ rarer_is c.word_and_rest.result.0.now c.word_and_rest.result.1.now c.in_default.not-entity c.in_default.not-component c.in_default.not-add c.in_default.not-set
    ∙ (λ i. form_or_bad (λ f. f (c.word_and_rest.ensures.rest i)) (looked_up forms (c.word_and_rest.ensures.word i)))
