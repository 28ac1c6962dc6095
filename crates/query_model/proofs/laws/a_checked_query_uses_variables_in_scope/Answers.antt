use Rattle.query_model.proofs.ScopedVariables.{queries_are_scoped, queries_of_texts_are_scoped}
use Rattle.query_model.proofs.laws.a_checked_query_uses_variables_in_scope.Goals as goal

pub returns-clause-of_syntaxes : goal.returns-clause-of_syntaxes
returns-clause-of_syntaxes c = queries_are_scoped

pub returns-clause-of_texts : goal.returns-clause-of_texts
returns-clause-of_texts c = queries_of_texts_are_scoped
