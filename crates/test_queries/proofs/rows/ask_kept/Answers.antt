-- The list is of the query that is asked, in the world that is seen.
use Rattle.std.proofs.Common.{subst, sym}
use Rattle.ecs_world.specs.Standing.{Standing}
use Rattle.query_model.specs.Query.{Query}
use Rattle.world_facts.specs.Kept.{AreTablesOf}
use Rattle.test_queries.proofs.rows.ask_kept.Goals as goal

pub rows_in-rows-requires-clause-tables : goal.rows_in-rows-requires-clause-tables
rows_in-rows-requires-clause-tables g c =
    subst (λ (q : Query). AreTablesOf q (c.args.view.now).world.tables c.as_slice.result.now) c.query.ensures
    (subst (λ (w : Standing). AreTablesOf c.query.result.now w.tables c.as_slice.result.now) c.world.ensures
    (subst (AreTablesOf c.query.result.now (c.world.result.now).tables) (sym c.as_slice.ensures.value) c.tables_in-tables.ensures))
