use Rattle.std.specs.Prelude.{◌++◌, map}
use Rattle.std.proofs.Common.{◌==◌, ◌∙◌}
use Rattle.ecs_model.specs.World.{Key}
use Rattle.watch_asked.specs.Asked.{any_counts_as}
use Rattle.watch_touched.proofs.roles.Walk.counts_from.Goals as goal

pub returns : goal.returns
returns g c =
    c.any_counts_as.ensures
    ∙ (λ j. any_counts_as (λ v. v == c.from-variable.ensures j) (c.others-others.ensures j) (c.args.ids.now ++ map (λ (k : Key). k.1) (c.went-went.ensures j)) c.args.id)
