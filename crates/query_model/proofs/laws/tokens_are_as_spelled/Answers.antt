use Rattle.query_model.proofs.TokenSpelling.{tokens_are_spelled}
use Rattle.query_model.proofs.laws.tokens_are_as_spelled.Goals as goal

pub returns : goal.returns
returns c = tokens_are_spelled
