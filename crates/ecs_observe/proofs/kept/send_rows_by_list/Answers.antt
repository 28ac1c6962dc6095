use Rattle.std.proofs.Common.{List, ap, arith, subst, sym, ◌++◌, ◌∙◌}
use Rattle.std.proofs.lemmas.Result.{IfOk-weaker}
use Rattle.std.specs.Prelude.{IsTrue, filter}
use Rattle.ecs_id.specs.declared.TableKey.{TableKey}
use Rattle.ecs_print.proofs.Stops.{on_err_anyway, stops_before}
use Rattle.query_cache.specs.Kept.{has_rows, stands}
use Rattle.table_store.specs.Store.{Store}
use Rattle.world_facts.specs.Kept.{AreFilledTablesOf}
use Rattle.world_query.specs.Probes.{StaysInTables}
use Rattle.world_query.proofs.SentTexts.{fault_memory, stops_here}
use Rattle.ecs_observe.proofs.FilledLists.{listed_stand, stays_in_filled, those_filled}
use Rattle.ecs_observe.proofs.kept.send_rows_by_list.Goals as goal

pub push_filled-requires : goal.push_filled-requires
push_filled-requires g c = record {
  stand = λ k has.
      subst (λ (s : Store). IsTrue (stands s k)) (sym (c.store.ensures.store ∙ c.graph.ensures.tables))
      (listed_stand (c.args.plan.now).query (c.args.world.now).tables c.args.list.now.keys c.requires.tables k has);
}

pub send_rows_from-requires-clause-tables : goal.send_rows_from-requires-clause-tables
send_rows_from-requires-clause-tables g c =
    let w = c.args.world.now in
    let keys = c.args.list.now.keys in
    let pushed = c.as_slice.ensures.value ∙ c.in_ok-push_filled.ensures.pushed ∙ ap (λ ks. ks ++ filter (has_rows c.store.result.now) keys) c.new-tables.ensures.items in
    let filled = pushed ∙ ap (λ (s : Store). filter (has_rows s) keys) (c.store.ensures.store ∙ c.graph.ensures.tables) in
    subst (AreFilledTablesOf (c.args.plan.now).query w.tables) (sym filled) (those_filled (c.args.plan.now).query w.tables keys c.requires.tables)

-- where memory is refused before a row is written
pub returns-in_err-push_filled-clause-front : goal.returns-in_err-push_filled-clause-front
returns-in_err-push_filled-clause-front g c = on_err_anyway _ (stops_here _ _ _ _ (stops_before _ _))

pub returns-in_err-push_filled-clause-held : goal.returns-in_err-push_filled-clause-held
returns-in_err-push_filled-clause-held g c = fault_memory _ _ _ _ c.from_residual.ensures.1

pub returns-in_err-push_filled-clause-rows : goal.returns-in_err-push_filled-clause-rows
returns-in_err-push_filled-clause-rows g c = grind arith

pub returns-in_err-push_filled-clause-unsent : goal.returns-in_err-push_filled-clause-unsent
returns-in_err-push_filled-clause-unsent g c = grind arith

pub returns-in_err-push_filled-clause-writes : goal.returns-in_err-push_filled-clause-writes
returns-in_err-push_filled-clause-writes g c = grind arith

pub returns-in_err-push_filled-clause-kept : goal.returns-in_err-push_filled-clause-kept
returns-in_err-push_filled-clause-kept g c = grind arith

pub returns-in_err-push_filled-clause-probes : goal.returns-in_err-push_filled-clause-probes
returns-in_err-push_filled-clause-probes g c = grind arith

pub returns-clause-rows : goal.returns-clause-rows
returns-clause-rows g c = c.send_rows_from.ensures.rows

pub returns-clause-unsent : goal.returns-clause-unsent
returns-clause-unsent g c = c.send_rows_from.ensures.unsent

pub returns-clause-front : goal.returns-clause-front
returns-clause-front g c = c.send_rows_from.ensures.front

pub returns-clause-held : goal.returns-clause-held
returns-clause-held g c = c.send_rows_from.ensures.held

pub returns-clause-writes : goal.returns-clause-writes
returns-clause-writes g c = c.send_rows_from.ensures.writes

pub returns-clause-kept : goal.returns-clause-kept
returns-clause-kept g c = c.send_rows_from.ensures.kept

pub returns-clause-probes : goal.returns-clause-probes
returns-clause-probes g c =
    let w = c.args.world.now in
    let keys = c.args.list.now.keys in
    let pushed = c.as_slice.ensures.value ∙ c.in_ok-push_filled.ensures.pushed ∙ ap (λ ks. ks ++ filter (has_rows c.store.result.now) keys) c.new-tables.ensures.items in
    let filled = pushed ∙ ap (λ (s : Store). filter (has_rows s) keys) (c.store.ensures.store ∙ c.graph.ensures.tables) in
    IfOk-weaker c.send_rows_from.result _ _
    (λ probes stays. stays_in_filled w c.args.plan.now keys probes (subst (λ (ks : List TableKey). StaysInTables w c.args.plan.now ks probes) filled stays)) c.send_rows_from.ensures.probes
