use Rattle.std.proofs.Common.{arith}
use Rattle.rel_travel.proofs.scratch.Scratch.reserve.Goals as goal

pub overflow_add-size : goal.overflow_add-size
overflow_add-size g c = grind arith

pub invariant_of-self : goal.invariant_of-self
invariant_of-self g c = grind arith

pub returns-in_err-reserve-clause-ok : goal.returns-in_err-reserve-clause-ok
returns-in_err-reserve-clause-ok g c = grind arith

pub returns-in_err-reserve-clause-refused : goal.returns-in_err-reserve-clause-refused
returns-in_err-reserve-clause-refused g c = grind arith

pub invariant_of-self-in_err-reserve-2 : goal.invariant_of-self-in_err-reserve-2
invariant_of-self-in_err-reserve-2 g c = grind arith

pub returns-in_err-reserve-2-clause-ok : goal.returns-in_err-reserve-2-clause-ok
returns-in_err-reserve-2-clause-ok g c = grind arith

pub returns-in_err-reserve-2-clause-refused : goal.returns-in_err-reserve-2-clause-refused
returns-in_err-reserve-2-clause-refused g c = grind arith

pub invariant_of-self-in_err-reserve-3 : goal.invariant_of-self-in_err-reserve-3
invariant_of-self-in_err-reserve-3 g c = grind arith

pub returns-in_err-reserve-3-clause-ok : goal.returns-in_err-reserve-3-clause-ok
returns-in_err-reserve-3-clause-ok g c = grind arith

pub returns-in_err-reserve-3-clause-refused : goal.returns-in_err-reserve-3-clause-refused
returns-in_err-reserve-3-clause-refused g c = grind arith

pub invariant_of-self-2 : goal.invariant_of-self-2
invariant_of-self-2 g c = grind arith

pub returns-clause-ok : goal.returns-clause-ok
returns-clause-ok g c = grind arith

pub returns-clause-refused : goal.returns-clause-refused
returns-clause-refused g c = grind arith
