use Rattle.std.proofs.Common.{rules}
use Rattle.script_line.proofs.Fronts.{opened_delete, opened_entity, opened_new, opened_remove}
use Rattle.script_line.proofs.line_forms.longer_opened_at_once.Goals as goal

pub returns-in-114 : goal.returns-in-114
returns-in-114 c = opened_remove c.args.text.now c.behind-in-114.result.now (search rules) (search rules) (search rules) (search rules) (search rules) (search rules) (search rules) (search rules) (search rules)

pub returns-in-101 : goal.returns-in-101
returns-in-101 c = opened_entity c.args.text.now c.behind.result.now (search rules) (search rules) (search rules) (search rules) (search rules) (search rules) (search rules) (search rules) (search rules)

pub returns-in-100 : goal.returns-in-100
returns-in-100 c = opened_delete c.args.text.now c.behind-in-100.result.now (search rules) (search rules) (search rules) (search rules) (search rules) (search rules) (search rules) (search rules) (search rules)

pub returns-in-110 : goal.returns-in-110
returns-in-110 c = opened_new c.args.text.now (search rules) (search rules) (search rules) (search rules)
