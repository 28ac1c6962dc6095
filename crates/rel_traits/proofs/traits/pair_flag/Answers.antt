use Rattle.std.proofs.Common.{arith, refl}
use Rattle.ecs_id.specs.Id.{id_cmp}
use Rattle.rel_traits.specs.TraitBits.{bits_from}
use Rattle.rel_traits.proofs.Bits.{no_pair_bits}
use Rattle.rel_traits.proofs.traits.pair_flag.Goals.{in_default-via-in-14+in_default, in_default-via-in-15+in_default, in_default-via-in-19+in_default, in_default-via-in_default}
use Rattle.rel_traits.proofs.traits.pair_flag.Goals as goal

pub returns-in-14-eq17 : goal.returns-in-14-eq17
unfolding bits_from id_cmp
returns-in-14-eq17 c = rw (c.in-14-eq17.is-0, c.in-14-eq17.is-1) refl

pub returns-in-14-eq18 : goal.returns-in-14-eq18
unfolding bits_from id_cmp
returns-in-14-eq18 c = rw (c.in-14-eq18.is-0, c.in-14-eq18.is-1) refl

pub returns-in-15-eq17 : goal.returns-in-15-eq17
unfolding bits_from id_cmp
returns-in-15-eq17 c = rw (c.in-15-eq17.is-0, c.in-15-eq17.is-1) refl

pub returns-in-15-eq18 : goal.returns-in-15-eq18
unfolding bits_from id_cmp
returns-in-15-eq18 c = rw (c.in-15-eq18.is-0, c.in-15-eq18.is-1) refl

pub returns-in-19-eq21 : goal.returns-in-19-eq21
unfolding bits_from id_cmp
returns-in-19-eq21 c = rw (c.in-19-eq21.is-0, c.in-19-eq21.is-1) refl

pub returns-in-19-eq22 : goal.returns-in-19-eq22
unfolding bits_from id_cmp
returns-in-19-eq22 c = rw (c.in-19-eq22.is-0, c.in-19-eq22.is-1) refl

pub returns-in_default : goal.returns-in_default
returns-in_default c =
    let none = c.empty.ensures tt in
    elim c.in_default.branch [
      | in_default-via-in-14+in_default w ↦ grind (arith, no_pair_bits, none, w.in_default)
      | in_default-via-in-15+in_default w ↦ grind (arith, no_pair_bits, none, w.in_default)
      | in_default-via-in-19+in_default w ↦ grind (arith, no_pair_bits, none, w.in_default)
      | in_default-via-in_default w ↦ grind (arith, no_pair_bits, none, w.in_default)
    ]
