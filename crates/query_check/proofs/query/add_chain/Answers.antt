use Rattle.std.proofs.Common.{arith}
use Rattle.std.proofs.lemmas.Grind.{common_steps}
use Rattle.query_check.proofs.query.add_chain.Goals as goal

pub term_of-first-requires-clause-tree : goal.term_of-first-requires-clause-tree
term_of-first-requires-clause-tree g c = grind arith

pub term_of-first-requires-clause-within : goal.term_of-first-requires-clause-within
term_of-first-requires-clause-within g c = grind arith

pub returns-then-not-has_alternative : goal.returns-then-not-has_alternative
returns-then-not-has_alternative g c = grind (arith, common_steps)

pub returns-in_err-push : goal.returns-in_err-push
returns-in_err-push g c = grind arith

pub add_alternatives-requires-clause-tree : goal.add_alternatives-requires-clause-tree
add_alternatives-requires-clause-tree g c = grind arith

pub add_alternatives-requires-clause-within : goal.add_alternatives-requires-clause-within
add_alternatives-requires-clause-within g c = grind arith

pub returns-in_err-add_alternatives : goal.returns-in_err-add_alternatives
returns-in_err-add_alternatives g c = grind arith

pub returns : goal.returns
returns g c = grind (arith, common_steps)
