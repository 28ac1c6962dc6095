use Rattle.std.proofs.Common.{arith}
use Rattle.ecs_print.proofs.Fields.{digits_fit}
use Rattle.ecs_print.proofs.digits.write_whole.Goals as goal

pub write_digits-requires : goal.write_digits-requires
write_digits-requires c = (omega (arith, digits_fit c.args.number c.ranges.number.fits), c.requires.within)

pub returns-clause-room : goal.returns-clause-room
returns-clause-room c = omega (arith, digits_fit c.args.number c.ranges.number.fits)
