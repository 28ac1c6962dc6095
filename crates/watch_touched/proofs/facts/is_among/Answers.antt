use Rattle.std.proofs.Common.{◌∙◌}
use Rattle.watch_touched.proofs.FactSearches.{searched}
use Rattle.watch_touched.proofs.facts.is_among.Goals as goal

pub returns : goal.returns
returns c =
    c.is_ok.ensures.value
    ∙ searched c.args.facts.now c.requires c.args.fact c.binary_search.result c.binary_search.ensures.bound c.binary_search.ensures.position
