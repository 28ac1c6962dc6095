use Rattle.query_meaning.proofs.Plans.{plans_give_rows}
use Rattle.query_meaning.proofs.laws.every_valid_plan_gives_the_answers.Goals as goal

pub returns : goal.returns
returns c = plans_give_rows
