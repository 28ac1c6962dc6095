-- A query that goes up without cycles has steps that do, and no probe is made beyond the run's limit.
use Rattle.std.proofs.Common.{List, ap, arith, subst, sym}
use Rattle.plan_steps.specs.Instructions.{instructions_of}
use Rattle.plan_exec.specs.Room.{Room}
use Rattle.plan_steps.specs.TableProbes.{JudgesTables}
use Rattle.plan_steps.specs.Tables.{by_tables}
use Rattle.plan_steps.specs.Width.{width_of}
use Rattle.query_meaning.specs.Names.{GoesUpWithoutCycles}
use Rattle.query_meaning.specs.declared.steps.Step.{Step}
use Rattle.query_model.specs.Query.{Query}
use Rattle.test_queries.proofs.probes.probes_over.Goals as goal

pub start-run-requires-clause-acyclic : goal.start-run-requires-clause-acyclic
start-run-requires-clause-acyclic g c =
    let v = g.F.Facts.reading c.args.facts.now in
    let rises = subst (GoesUpWithoutCycles v.view) (sym c.query.ensures) c.requires in
    c.rising_queries_start.ensures.acyclic v.view c.query.result.now c.steps.result.now c.in_ok-frames.frames.steps (ap (λ (r : Room). r.steps) c.in_ok-frames.ensures.room) rises

pub returns-clause-within : goal.returns-clause-within
returns-clause-within g c =
    let v = g.F.Facts.reading c.args.facts.now in
    let plan = c.args.plan.now in
    let limit = c.start-run.result.limit in
    let room = subst (λ (r : Room). JudgesTables v r.width r.steps limit) c.in_ok-frames.ensures.room c.start-run.ensures.tables in
    let of_query = subst (λ (q : Query). JudgesTables v (width_of q) (by_tables (instructions_of q c.steps.result.now)) limit) c.query.ensures room in
    let judges = subst (λ (ss : List Step). JudgesTables v (width_of plan.query) (by_tables (instructions_of plan.query ss)) limit) c.steps.ensures.steps of_query in
    (limit, judges, omega (arith, c.pull.ensures, c.probes.ensures.limit))
