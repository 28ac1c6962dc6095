-- A query that goes up without cycles has steps and fields that do.
use Rattle.test_queries.proofs.runs.run_frames.Goals as goal

pub start-run-requires-clause-acyclic : goal.start-run-requires-clause-acyclic
start-run-requires-clause-acyclic g c =
    let plan = c.args.plan.now in
    c.rising_queries_start.ensures.acyclic (g.F.Facts.reading c.args.facts.now).view plan.query plan.steps c.args.frames.frames.steps c.requires.steps c.requires.rises

pub start-run-requires-clause-rises : goal.start-run-requires-clause-rises
start-run-requires-clause-rises g c = c.rising_queries_start.ensures.rises (g.F.Facts.reading c.args.facts.now).view (c.args.plan.now).query c.args.frames.items c.requires.items c.requires.rises
