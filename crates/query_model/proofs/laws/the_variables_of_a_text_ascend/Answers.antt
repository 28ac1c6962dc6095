use Rattle.query_model.proofs.TextOrder.{query_ascends}
use Rattle.query_model.proofs.laws.the_variables_of_a_text_ascend.Goals as goal

pub returns : goal.returns
returns c = query_ascends
