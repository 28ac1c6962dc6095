use Rattle.std.proofs.Common.{map}
use Rattle.query_model.specs.Seen.{seen_part}
use Rattle.query_check.proofs.PartPlaces.{IsPlacing}
use Rattle.query_check.proofs.places.places.Given as goal

abbrev pub invariant-loop-i : goal.invariant-loop-i
invariant-loop-i g l = IsPlacing (map seen_part l.parts) l.i l.places.items l.around
