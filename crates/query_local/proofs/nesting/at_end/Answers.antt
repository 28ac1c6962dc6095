use Rattle.std.proofs.Common.{sym, ap, ◌∙◌}
use Rattle.query_local.specs.Judging.{at_end}
use Rattle.query_local.proofs.Parity.{fails_at_odd, holds_at_even}
use Rattle.query_local.proofs.nesting.at_end.Goals as goal

pub returns-in-Holding : goal.returns-in-Holding
returns-in-Holding c = holds_at_even c.in-Holding.depth ∙ sym (ap at_end c.in-Holding.is)

pub returns-in-Failed : goal.returns-in-Failed
returns-in-Failed c = fails_at_odd c.in-Failed.depth ∙ sym (ap at_end c.in-Failed.is)
