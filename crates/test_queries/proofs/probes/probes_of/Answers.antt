-- The laws give the bound of the run's limit, and no probe is made beyond that.
use Rattle.std.proofs.Common.{◌≡◌, ◌≤◌, ◌*◌, ap, arith, length, subst, sym, ◌∙◌}
use Rattle.std.proofs.lemmas.Result.{IfOk-weaker}
use Rattle.std.specs.Prelude.{slice_index}
use Rattle.ecs_model.specs.rows.View.{view_of}
use Rattle.ecs_world.specs.Standing.{Standing}
use Rattle.plan_steps.specs.Instructions.{instructions_of}
use Rattle.plan_steps.specs.TableProbes.{JudgesTables}
use Rattle.plan_steps.specs.Tables.{by_tables}
use Rattle.plan_steps.specs.Width.{width_of}
use Rattle.query_meaning.specs.Variables.{entries}
use Rattle.query_model.specs.Query.{Query}
use Rattle.test_queries.specs.Probes.{StaysWithinSteps}
use Rattle.world_facts.specs.Shown.{Shown, reading_of}
use Rattle.world_query.specs.Answerable.{table_counts}
use Rattle.world_query.proofs.AskedQueries.{answerable, as_answerable}
use Rattle.test_queries.proofs.probes.probes_of.Goals as goal

pub plan_in-requires : goal.plan_in-requires
plan_in-requires c = record { sound = (answerable c.args.world.now.state c.args.query c.keeps.ensures c.requires.asked).sound }

pub probes_over-probes-requires : goal.probes_over-probes-requires
probes_over-probes-requires c =
    (as_answerable (view_of c.args.world.now.state) (view_of c.new-facts.result.world.state) c.args.query c.in_ok-plan.plan.query (ap (λ (x : Standing). view_of x.state) c.new-facts.ensures) c.in_ok-plan.ensures.query
    (answerable c.args.world.now.state c.args.query c.keeps.ensures c.requires.asked)).rises

pub returns : goal.returns
returns c =
    let seen : Shown = c.new-facts.result in
    IfOk-weaker c.probes_over-probes.result (StaysWithinSteps (reading_of seen) c.in_ok-plan.plan) _ (λ probes within s same lists j leading.
    let w : Standing = c.args.world.now in
    let q : Query = c.args.query in
    let v = reading_of seen in
    let limit = within.0 in
    let judges = subst (λ (x : Query). JudgesTables v (width_of x) (by_tables (instructions_of x (c.in_ok-plan.plan).steps)) limit) c.in_ok-plan.ensures.query within.1 in
    let terms = c.asked_queries_have_terms.ensures q (w.state, c.requires.asked.text, c.requires.asked.asks) in
    let names = (answerable w.state q c.keeps.ensures c.requires.asked).names in
    let bound : limit ≤ length (entries q) * slice_index (table_counts v q) j =
    c.planned_queries_stay_within_their_probes.ensures w q c.in_ok-plan.plan seen limit c.in_ok-plan.ensures.planned c.new-facts.ensures c.keeps_lists.ensures c.probes_over-probes.ensures.factual names c.requires.simple terms judges j leading in
    let counts : table_counts v q ≡ table_counts (reading_of s) q = c.facts_count_alike.ensures seen s q (c.new-facts.ensures ∙ sym same) c.keeps_lists.ensures lists in
    let alike : limit ≤ length (entries q) * slice_index (table_counts (reading_of s) q) j = subst (λ ns. limit ≤ length (entries q) * slice_index ns j) counts bound in
    omega (arith, alike, within.2)) c.probes_over-probes.ensures.within
