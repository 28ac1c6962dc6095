use Rattle.std.proofs.Common.{arith}
use Rattle.std.proofs.lemmas.Grind.{common_steps}
use Rattle.query_check.proofs.uses.add_part.Goals as goal

pub returns-in_err-add-in-Equality-clause-uses : goal.returns-in_err-add-in-Equality-clause-uses
returns-in_err-add-in-Equality-clause-uses g c = grind arith

pub returns-in_err-add-in-Equality-clause-found : goal.returns-in_err-add-in-Equality-clause-found
returns-in_err-add-in-Equality-clause-found g c = grind arith

pub returns-in-Term-clause-uses : goal.returns-in-Term-clause-uses
returns-in-Term-clause-uses g c = grind arith

pub returns-in-Term-clause-found : goal.returns-in-Term-clause-found
returns-in-Term-clause-found g c = grind arith

pub returns-in_ok-add-in-Equality-clause-uses : goal.returns-in_ok-add-in-Equality-clause-uses
returns-in_ok-add-in-Equality-clause-uses g c = grind (arith, common_steps)

pub returns-in_ok-add-in-Equality-clause-found : goal.returns-in_ok-add-in-Equality-clause-found
returns-in_ok-add-in-Equality-clause-found g c = grind arith

pub returns-in-Opened-clause-uses : goal.returns-in-Opened-clause-uses
returns-in-Opened-clause-uses g c = grind (arith, common_steps)

pub returns-in-Opened-clause-found : goal.returns-in-Opened-clause-found
returns-in-Opened-clause-found g c = grind arith

pub returns-in-Opened-2-clause-uses : goal.returns-in-Opened-2-clause-uses
returns-in-Opened-2-clause-uses g c = grind (arith, common_steps)

pub returns-in-Opened-2-clause-found : goal.returns-in-Opened-2-clause-found
returns-in-Opened-2-clause-found g c = grind arith
