use Rattle.std.proofs.Common.{[], map}
use Rattle.query_check.specs.Found.{AreFound}
use Rattle.query_check.specs.Seen.{level_uses_of, seen_use}
use Rattle.query_model.specs.Levels.{placed_parts}
use Rattle.query_model.specs.Seen.{seen_part}
use Rattle.query_check.proofs.PartReferences.{HasLeft}
use Rattle.query_check.proofs.uses.uses.Given as goal

abbrev pub invariant-loop-i : goal.invariant-loop-i
invariant-loop-i g l = record {
  left : HasLeft level_uses_of (placed_parts (map seen_part l.parts)) l.i [] (map seen_use l.uses.items);
  found : AreFound (g.W.Lookup.known l.world) l.uses.items;
}
