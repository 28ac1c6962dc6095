use Rattle.std.specs.Prelude.{is_none}
use Rattle.std.proofs.Common.{ap, sym, ◌∙◌}
use Rattle.watch_stored.proofs.moves.is_told_or_found.Goals as goal

pub returns-in-None : goal.returns-in-None
returns-in-None g c =
    c.is_among.ensures ∙ c.requires.found (ap is_none (sym c.told_by_ids.ensures.by_ids ∙ c.in-None.is))
