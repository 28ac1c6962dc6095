use Rattle.std.proofs.Common.{◌≡◌, List, ℕ, Option, None, Some, option_map, refl, sym, ap, ◌∙◌}
use Rattle.ecs_model.specs.Orders.{EntityRef}
use Rattle.ecs_model.specs.Script.{Form, form_or_bad, reference_of}
use Rattle.ecs_model.specs.declared.references.Reference.{Reference}
use Rattle.ecs_model.specs.References.{seen_reference}
use Rattle.script_line.proofs.line_forms.only_entity.Goals as goal

seen : (f : EntityRef → Form) (read : Option Reference) → form_or_bad f (option_map seen_reference read) ≡ form_or_bad (λ r. f (seen_reference r)) read
seen f None = refl
seen f (Some r) = refl

pub returns-in-Some : goal.returns-in-Some
returns-in-Some c f = c.in-Some.ensures (λ w. form_or_bad f (reference_of w)) ∙ ap (form_or_bad f) (sym c.reference_of.ensures) ∙ seen f c.reference_of.result

pub returns-in-None : goal.returns-in-None
returns-in-None c f = c.in-None.ensures (λ w. form_or_bad f (reference_of w))
