use Rattle.std.proofs.Common.{rules}
use Rattle.script_line.proofs.Fronts.{opened_add, opened_set}
use Rattle.script_line.proofs.line_forms.opened_at_once.Goals as goal

pub returns-in-115 : goal.returns-in-115
returns-in-115 c = opened_set c.args.text.now c.behind.result.now (search rules) (search rules) (search rules) (search rules) (search rules) (search rules)

pub returns-in-97 : goal.returns-in-97
returns-in-97 c = opened_add c.args.text.now c.behind-in-97.result.now (search rules) (search rules) (search rules) (search rules) (search rules) (search rules)
