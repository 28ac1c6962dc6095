use Rattle.std.proofs.Common.{map}
use Rattle.query_check.specs.Seen.{seen_use}
use Rattle.query_check.proofs.BuiltPieces.{IsMentioning}
use Rattle.query_check.proofs.query.mentions.Given as goal

abbrev pub invariant-loop-used : goal.invariant-loop-used
invariant-loop-used g l = IsMentioning (g.W.Lookup.known l.world) (map seen_use l.uses) l.used-index l.mentions.items
