use Rattle.query_meaning.proofs.Plans.{rows_are_answers}
use Rattle.query_meaning.proofs.laws.rows_are_those_of_the_answers.Goals as goal

pub returns : goal.returns
returns c = rows_are_answers
