-- All is written where nothing can be sent.
use Rattle.std.proofs.Common.{arith}
use Rattle.world_query.specs.Sent.{most_usize}
use Rattle.world_query.proofs.SentTexts.{sent_nowhere}
use Rattle.ecs_observe.specs.Standing.{session_of}
use Rattle.ecs_observe.proofs.SentRows.{refused_nowhere, stopped_nowhere}
use Rattle.ecs_observe.proofs.session.Session.write_kept_rows.Goals as goal

pub returns-in-Ok-clause-rows : goal.returns-in-Ok-clause-rows
returns-in-Ok-clause-rows g c = let rows = c.in-Ok.ensures.rows in (rows.0, rows.1, sent_nowhere _ _ _ rows.2)

pub returns-in-Err-Refused-clause-rows : goal.returns-in-Err-Refused-clause-rows
returns-in-Err-Refused-clause-rows g c =
    refused_nowhere most_usize (session_of c.args.self.now) c.args.name.now c.args.out.now.items c.send_kept_rows.new.out.items c.in-Err-Refused.reason (rw c.in-Err-Refused.field-0-is at c.in-Err-Refused.ensures.rows)

pub returns-in-Err-Unsent-clause-rows : goal.returns-in-Err-Unsent-clause-rows
returns-in-Err-Unsent-clause-rows g c =
    stopped_nowhere most_usize (session_of c.args.self.now) c.args.name.now c.args.out.now.items c.send_kept_rows.new.out.items c.in-Err-Unsent.field-0-0 (rw c.in-Err-Unsent.field-0-is at c.in-Err-Unsent.ensures.rows)

pub returns-in-Ok-clause-same : goal.returns-in-Ok-clause-same
returns-in-Ok-clause-same g c = grind arith

pub returns-in-Ok-clause-lists : goal.returns-in-Ok-clause-lists
returns-in-Ok-clause-lists g c = grind arith

pub returns-in-Ok-clause-planned : goal.returns-in-Ok-clause-planned
returns-in-Ok-clause-planned g c = grind arith

pub returns-in-Ok-clause-fitting : goal.returns-in-Ok-clause-fitting
returns-in-Ok-clause-fitting g c = grind arith

pub returns-in-Ok-clause-reads : goal.returns-in-Ok-clause-reads
returns-in-Ok-clause-reads g c = grind arith

pub returns-in-Ok-clause-found : goal.returns-in-Ok-clause-found
returns-in-Ok-clause-found g c = grind arith

pub returns-in-Err-Refused-clause-same : goal.returns-in-Err-Refused-clause-same
returns-in-Err-Refused-clause-same g c = grind arith

pub returns-in-Err-Refused-clause-lists : goal.returns-in-Err-Refused-clause-lists
returns-in-Err-Refused-clause-lists g c = grind arith

pub returns-in-Err-Refused-clause-planned : goal.returns-in-Err-Refused-clause-planned
returns-in-Err-Refused-clause-planned g c = grind arith

pub returns-in-Err-Unsent-clause-same : goal.returns-in-Err-Unsent-clause-same
returns-in-Err-Unsent-clause-same g c = grind arith

pub returns-in-Err-Unsent-clause-lists : goal.returns-in-Err-Unsent-clause-lists
returns-in-Err-Unsent-clause-lists g c = grind arith

pub returns-in-Err-Unsent-clause-planned : goal.returns-in-Err-Unsent-clause-planned
returns-in-Err-Unsent-clause-planned g c = grind arith
