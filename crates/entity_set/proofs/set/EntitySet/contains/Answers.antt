use Rattle.std.specs.Prelude.{◌==◌}
use Rattle.std.specs.List.{list_any}
use Rattle.std.proofs.Common.{ap, sym, ◌∙◌}
use Rattle.ecs_model.specs.BitWords.{has_bit}
use Rattle.entity_set.proofs.SetBits.{any_members}
use Rattle.entity_set.proofs.set.EntitySet.contains.Goals as goal

pub returns : goal.returns
returns g c =
    c.has.ensures
    ∙ ap (λ ws. has_bit ws c.args.entity) c.as_slice.ensures.value
    ∙ sym (any_members c.self.inside.words.items c.args.entity)
    ∙ ap (λ s. list_any (λ x. x == c.args.entity) s.items) c.self.view_is
