use Rattle.std.proofs.Common.{take}
use Rattle.rel_traits.proofs.Bits.{HasBitsOf}
use Rattle.rel_traits.proofs.traits.traits_among.Given as goal

abbrev pub invariant-loop-id : goal.invariant-loop-id
invariant-loop-id l = HasBitsOf (take l.id-index l.ids) l.traits.0
