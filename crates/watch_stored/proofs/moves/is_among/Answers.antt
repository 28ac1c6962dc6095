use Rattle.std.proofs.Common.{◌∙◌}
use Rattle.std.proofs.lemmas.Map.Keys.{sorted_from_strictly_increasing}
use Rattle.watch_events.proofs.BinarySearches.{searched_number}
use Rattle.watch_stored.proofs.moves.is_among.Goals as goal

pub returns : goal.returns
returns c =
    c.is_ok.ensures.value
    ∙ searched_number c.args.entities.now c.args.entity c.binary_search.result (sorted_from_strictly_increasing c.args.entities.now c.requires) c.binary_search.ensures.bound c.binary_search.ensures.position
