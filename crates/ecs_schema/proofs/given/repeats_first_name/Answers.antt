use Rattle.std.proofs.Common.{◌||◌, drop, sym, ap, ◌∙◌}
use Rattle.ecs_model.specs.Schema.{repeats_name}
use Rattle.ecs_schema.specs.Given.{given}
use Rattle.ecs_schema.proofs.Repeats.{repeats_name-first}
use Rattle.ecs_schema.proofs.given.repeats_first_name.Goals as goal

pub returns : goal.returns
returns c =
    let split = c.in-Some.ensures.cases.0 in
    let later = c.in-Some.later.now in
    ap (λ xs. repeats_name (given xs)) split ∙ repeats_name-first c.in-Some.field-0-0.now later
    ∙ ap (λ b. b || repeats_name (given later)) (sym c.has_name.ensures)
    ∙ ap (λ xs. c.has_name.result || repeats_name (given (drop 1 xs))) (sym split)
