use Rattle.query_model.proofs.TokenSpelling.{one_spelling}
use Rattle.query_model.proofs.laws.a_text_spells_at_most_one_token_list.Goals as goal

pub returns : goal.returns
returns c = one_spelling
