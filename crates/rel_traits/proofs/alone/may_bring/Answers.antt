use Rattle.std.proofs.Common.{◌≡◌, ◌∙◌, sym, ap, arith}
use Rattle.ecs_id.specs.Id.{plain}
use Rattle.ecs_model.specs.BuiltIns.{symmetric, with_trait}
use Rattle.ecs_model.specs.Links.{is_held, targets_in}
use Rattle.rel_traits.proofs.LoneFacts.{brings_none, no_mirror_either}
use Rattle.rel_traits.proofs.alone.may_bring.Goals as goal

pub returns-then-is_pair : goal.returns-then-is_pair
returns-then-is_pair c none ids e is =
    let tells : is_held c.args.held.now (plain symmetric) ≡ c.contains.result = sym (c.contains.ensures tt ∙ c.requires 1 (omega arith)) in
    brings_none ids e c.args.id (ap (λ ts. targets_in ts with_trait) (sym is) ∙ c.has_target.ensures c.if-has_target.false)
    (no_mirror_either ids e c.args.id (ap (λ ts. is_held ts (plain symmetric)) (sym is) ∙ tells ∙ none))
