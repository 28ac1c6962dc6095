use Rattle.std.proofs.Common.{arith, refl}
use Rattle.ecs_id.specs.Id.{id_cmp}
use Rattle.rel_traits.specs.TraitBits.{bits_from}
use Rattle.rel_traits.proofs.Bits.{no_plain_bits}
use Rattle.rel_traits.proofs.traits.plain_flag.Goals as goal

pub returns-in-6 : goal.returns-in-6
unfolding bits_from id_cmp
returns-in-6 c = rw c.in-6.is refl

pub returns-in-7 : goal.returns-in-7
unfolding bits_from id_cmp
returns-in-7 c = rw c.in-7.is refl

pub returns-in-8 : goal.returns-in-8
unfolding bits_from id_cmp
returns-in-8 c = rw c.in-8.is refl

pub returns-in-9 : goal.returns-in-9
unfolding bits_from id_cmp
returns-in-9 c = rw c.in-9.is refl

pub returns-in-10 : goal.returns-in-10
unfolding bits_from id_cmp
returns-in-10 c = rw c.in-10.is refl

pub returns-in-11 : goal.returns-in-11
unfolding bits_from id_cmp
returns-in-11 c = rw c.in-11.is refl

pub returns-in-12 : goal.returns-in-12
unfolding bits_from id_cmp
returns-in-12 c = rw c.in-12.is refl

pub returns-in_default : goal.returns-in_default
returns-in_default c =
    let none = c.empty.ensures tt in
    grind (arith, no_plain_bits, none, c.in_default)
