use Rattle.query_meaning.proofs.Plans.{plans_give_all_rows}
use Rattle.query_meaning.proofs.laws.every_valid_plan_gives_all_rows.Goals as goal

pub returns : goal.returns
returns c = plans_give_all_rows
