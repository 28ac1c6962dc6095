use Rattle.query_model.proofs.FirstOccurrence.{first_suffices}
use Rattle.query_model.proofs.TextOrder.{first_suffices_in_texts}
use Rattle.query_model.proofs.laws.a_variable_is_told_at_its_first_occurrence.Goals as goal

pub returns-clause-of_texts : goal.returns-clause-of_texts
returns-clause-of_texts c = first_suffices_in_texts

pub returns-clause-of_parts : goal.returns-clause-of_parts
returns-clause-of_parts c = first_suffices
