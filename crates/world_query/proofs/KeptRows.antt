-- What is judged in given tables stays within these, of a simple query.
use Rattle.std.proofs.Common.{arith}
use Rattle.plan_steps.proofs.TableProbes.{judges_given_tables}
use Rattle.plan_steps.specs.Width.{width_of}
use Rattle.query_answers.specs.Answered.{judged_in_tables}
use Rattle.world_facts.specs.Shown.{reading_of}
use Rattle.world_query.specs.Probes.{KeptRowsStayWithin, instructions_by}
use Rattle.world_query.proofs.Chains.{asked_queries_have_terms}
use Rattle.world_query.proofs.Probes.{kept_queries_stay_within}

pub kept_rows_stay_within : KeptRowsStayWithin
kept_rows_stay_within w p lists tables probes simple asked planned stays =
    let v = reading_of stays.shown in
    let q = p.query in
    let judges = judges_given_tables v (width_of q) q.has_this (instructions_by q p.steps) tables in
    omega (arith, stays.within, kept_queries_stay_within v q lists p.steps tables (judged_in_tables v q p.steps tables) simple (asked_queries_have_terms q asked) planned judges)
