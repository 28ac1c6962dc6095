use Rattle.rel_travel.proofs.WorkLists.{IsFollowed-none}
use Rattle.rel_travel.proofs.work_list.gather_until.Goals as goal

pub returns-clause-reached : goal.returns-clause-reached
returns-clause-reached g c = c.go_on_until.ensures.reached c.args.found.now.items (IsFollowed-none (g.R.Rule.next c.args.rule.now) c.args.found.now.items)
