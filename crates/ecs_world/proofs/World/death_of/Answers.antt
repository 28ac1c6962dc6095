use Rattle.std.proofs.Common.{◌≡◌, Some, ap, sym, ◌∙◌}
use Rattle.std.specs.Option.{option_copied}
use Rattle.ecs_model.specs.World.{name_of}
use Rattle.ecs_world.proofs.World.death_of.Goals as goal
use Rattle.ecs_world.proofs.World.death_of.Goals.{in-None, in-Some+in_ok-copied-in-Some}

pub returns : goal.returns
returns g c =
    let named : c.match-name_of.name ≡ name_of c.args.self.now.state c.args.entity.index =
    elim c.match-name_of.branch [
      | in-None u ↦ u.name-is ∙ u.in-None.ensures
      | in-Some+in_ok-copied-in-Some u ↦ u.name-is ∙ ap Some u.in_ok-copied-in-Some.ensures ∙ ap option_copied (sym u.in-Some.is) ∙ c.name_of.ensures
    ] in
    c.new.ensures ∙ (λ j. (c.args.entity, named j))
