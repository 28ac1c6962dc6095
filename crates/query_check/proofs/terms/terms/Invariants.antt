use Rattle.std.proofs.Common.{◌≡◌, map, take}
use Rattle.std.specs.Prelude.{flat_map}
use Rattle.query_check.specs.Seen.{seen_piece}
use Rattle.query_check.specs.Terms.{piece_terms}
use Rattle.query_check.proofs.terms.terms.Given as goal

abbrev pub invariant-loop-piece : goal.invariant-loop-piece
invariant-loop-piece g l = l.terms.items ≡ flat_map piece_terms (map seen_piece (take l.piece-index l.pieces))
