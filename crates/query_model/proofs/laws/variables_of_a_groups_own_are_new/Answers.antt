use Rattle.query_model.proofs.FreshVariables.{own_variables_are_new}
use Rattle.query_model.proofs.laws.variables_of_a_groups_own_are_new.Goals as goal

pub returns : goal.returns
returns c = own_variables_are_new
