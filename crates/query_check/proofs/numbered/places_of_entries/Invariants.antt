use Rattle.std.proofs.Common.{map}
use Rattle.query_check.specs.Seen.{seen_piece}
use Rattle.query_check.proofs.Entries.{IsNumbering}
use Rattle.query_check.proofs.numbered.places_of_entries.Given as goal

abbrev pub invariant-loop-i : goal.invariant-loop-i
invariant-loop-i g l = IsNumbering (map seen_piece l.pieces) l.i l.level l.all.items
