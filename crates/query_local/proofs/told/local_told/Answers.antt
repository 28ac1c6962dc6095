use Rattle.query_local.proofs.LocalTellings.{entered_told, left_told}
use Rattle.query_local.proofs.told.local_told.Goals as goal

pub returns-clause-left : goal.returns-clause-left
returns-clause-left g c = left_told c.args.query.now c.requires.local c.args.touched.now c.requires.ascends _ c.told_of.ensures.left

pub returns-clause-entered : goal.returns-clause-entered
returns-clause-entered g c = entered_told c.args.query.now c.requires.local c.args.touched.now c.requires.ascends _ c.told_of.ensures.entered
