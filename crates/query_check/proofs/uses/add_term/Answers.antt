use Rattle.std.proofs.Common.{arith}
use Rattle.std.proofs.lemmas.Grind.{common_steps}
use Rattle.query_check.proofs.uses.add_term.Goals as goal

pub returns-in_err-add-clause-uses : goal.returns-in_err-add-clause-uses
returns-in_err-add-clause-uses g c = grind arith

pub returns-in_err-add-clause-found : goal.returns-in_err-add-clause-found
returns-in_err-add-clause-found g c = grind arith

pub returns-in_err-add_written-clause-uses : goal.returns-in_err-add_written-clause-uses
returns-in_err-add_written-clause-uses g c = grind arith

pub returns-in_err-add_written-clause-found : goal.returns-in_err-add_written-clause-found
returns-in_err-add_written-clause-found g c = grind arith

pub returns-in_err-add-2-clause-uses : goal.returns-in_err-add-2-clause-uses
returns-in_err-add-2-clause-uses g c = grind arith

pub returns-in_err-add-2-clause-found : goal.returns-in_err-add-2-clause-found
returns-in_err-add-2-clause-found g c = grind arith

pub returns-clause-uses : goal.returns-clause-uses
returns-clause-uses g c = grind (arith, common_steps)

pub returns-clause-found : goal.returns-clause-found
returns-clause-found g c = grind arith
