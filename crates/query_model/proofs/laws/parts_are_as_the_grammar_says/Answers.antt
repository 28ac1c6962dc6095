use Rattle.query_model.proofs.SyntaxFaults.{parts_are_grammatical}
use Rattle.query_model.proofs.laws.parts_are_as_the_grammar_says.Goals as goal

pub returns : goal.returns
returns c = parts_are_grammatical
