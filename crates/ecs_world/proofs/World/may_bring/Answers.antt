use Rattle.std.proofs.Common.{◌≡◌, false, not, ◌||◌, is_some, ap, sym, ◌∙◌}
use Rattle.std.specs.List.{list_any}
use Rattle.ecs_id.specs.Id.{first_of}
use Rattle.ecs_model.specs.BuiltIns.{with_trait}
use Rattle.ecs_model.specs.Links.{target_under}
use Rattle.ecs_model.specs.World.{ids_of}
use Rattle.rel_traits.specs.Simple.{is_unmirrored}
use Rattle.ecs_world.proofs.World.may_bring.Goals as goal

pub returns-else-has_with : goal.returns-else-has_with
returns-else-has_with g c =
    let i = c.args.id in let ids = ids_of c.args.self.now.state in
    let none : list_any (λ j. is_some (target_under with_trait j)) (ids (first_of i)) ≡ false =
    ap (list_any (λ j. is_some (target_under with_trait j))) (ap ids (sym c.first.ensures.value) ∙ sym c.ids_at.ensures) ∙ sym c.has_with.ensures ∙ c.if-has_with.false in
    ap not c.is_unmirrored.ensures ∙ ap (λ b. b || not (is_unmirrored ids i)) (sym none)
