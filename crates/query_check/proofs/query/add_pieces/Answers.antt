use Rattle.std.proofs.Common.{arith}
use Rattle.std.proofs.lemmas.Grind.{common_steps}
use Rattle.query_check.proofs.query.add_pieces.Goals as goal

pub add_chain-requires-clause-tree : goal.add_chain-requires-clause-tree
add_chain-requires-clause-tree g c = grind arith

pub add_chain-requires-clause-within : goal.add_chain-requires-clause-within
add_chain-requires-clause-within g c = grind arith

pub term_of-term-requires-clause-tree : goal.term_of-term-requires-clause-tree
term_of-term-requires-clause-tree g c = grind arith

pub term_of-term-requires-clause-within : goal.term_of-term-requires-clause-within
term_of-term-requires-clause-within g c = grind arith

pub returns-in_err-add_item-in-Term-Not-default : goal.returns-in_err-add_item-in-Term-Not-default
returns-in_err-add_item-in-Term-Not-default g c = grind arith

pub equality-requires-clause-tree : goal.equality-requires-clause-tree
equality-requires-clause-tree g c = grind arith

pub equality-requires-clause-within : goal.equality-requires-clause-within
equality-requires-clause-within g c = grind arith

pub returns-in-Term-And-default : goal.returns-in-Term-And-default
returns-in-Term-And-default g c = grind arith

pub returns-in-Term-Or-default : goal.returns-in-Term-Or-default
returns-in-Term-Or-default g c = grind (arith, common_steps)

pub returns-in-Term-Optional-default : goal.returns-in-Term-Optional-default
returns-in-Term-Optional-default g c = grind arith

pub returns-in_ok-add_item-in-Term-Not-default : goal.returns-in_ok-add_item-in-Term-Not-default
returns-in_ok-add_item-in-Term-Not-default g c = grind (arith, common_steps)

pub returns-in-Opened : goal.returns-in-Opened
returns-in-Opened g c = grind arith

pub returns-in-Closed : goal.returns-in-Closed
returns-in-Closed g c = grind arith

pub returns-in-Equality : goal.returns-in-Equality
returns-in-Equality g c = grind arith
