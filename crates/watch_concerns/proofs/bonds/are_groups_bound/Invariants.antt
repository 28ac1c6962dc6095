use Rattle.std.proofs.Common.{◌≡◌, drop}
use Rattle.std.specs.Prelude.{map}
use Rattle.query_check.specs.Seen.{seen_piece}
use Rattle.watch_concerns.specs.FromLeft.{groups_from}
use Rattle.watch_concerns.proofs.bonds.are_groups_bound.Given as goal

abbrev pub invariant-loop-i : goal.invariant-loop-i
invariant-loop-i g l = groups_from l.bond l.terms (map seen_piece l.pieces) ≡ groups_from l.bond l.terms (map seen_piece (drop l.i l.pieces))
