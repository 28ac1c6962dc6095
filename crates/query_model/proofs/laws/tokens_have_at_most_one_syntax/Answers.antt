use Rattle.query_model.proofs.SyntaxFaults.{one_syntax}
use Rattle.query_model.proofs.laws.tokens_have_at_most_one_syntax.Goals as goal

pub returns : goal.returns
returns c = one_syntax
