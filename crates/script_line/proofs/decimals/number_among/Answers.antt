use Rattle.std.proofs.Common.{length}
use Rattle.script_line.proofs.Digits.{below_power}
use Rattle.script_line.proofs.decimals.number_among.Goals as goal

pub returns-clause-bound : goal.returns-clause-bound
returns-clause-bound c = below_power c.number_of.result (length c.args.digits.now) c.args.most c.number_of.ensures.bound c.if-digits-most.false
