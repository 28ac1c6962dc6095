use Rattle.std.proofs.Common.{◌∙◌}
use Rattle.ecs_model.proofs.Maps.{key_cmp_total}
use Rattle.ecs_model.specs.World.{key_cmp}
use Rattle.watch_events.proofs.BinarySearches.{searched_among}
use Rattle.watch_events.proofs.before.is_among.Goals as goal

pub returns : goal.returns
returns c =
    c.is_ok.ensures.value
    ∙ searched_among key_cmp key_cmp_total c.args.facts.now c.args.fact c.binary_search.result c.requires c.binary_search.ensures.bound c.binary_search.ensures.position
