-- The query of the plan stays, whether it is planned again or not.
use Rattle.std.proofs.Common.{ap, length, refl, sym, subst, ◌∙◌, true≢false}
use Rattle.std.specs.Prelude.{max}
use Rattle.ecs_model.specs.rows.Text.{rows_text}
use Rattle.ecs_model.specs.rows.View.{view_of}
use Rattle.query_model.specs.Query.{Query}
use Rattle.query_plan.specs.Plans.{Plan}
use Rattle.world_facts.specs.Kept.{AreTablesOf}
use Rattle.ecs_print.proofs.Stops.{on_err_anyway, stops_before}
use Rattle.world_query.specs.Answerable.{IsAnswerable}
use Rattle.world_query.specs.Lines.{lines_of_rows}
use Rattle.world_query.specs.Probes.{StaysInTables}
use Rattle.world_query.specs.Sent.{HoldsAtFault, StopsSending}
use Rattle.world_query.proofs.SentTexts.{calm_ok, calm_still, fails_same, fault_memory, fault_same, passed_on, stops_by, stops_here}
use Rattle.watch_stored.proofs.AnswerableQueries.{asked_is_sound, current_answerable}
use Rattle.ecs_observe.specs.Following.{IsUpToDate}
use Rattle.ecs_observe.proofs.TableSyncs.{follows_again}
use Rattle.ecs_observe.proofs.kept.send_listed_rows.Goals as goal

pub plan_if_outgrown-requires-clause-sound : goal.plan_if_outgrown-requires-clause-sound
plan_if_outgrown-requires-clause-sound g c = asked_is_sound (c.args.plan.now).query c.requires.current.asked

pub send_unlisted_rows-requires : goal.send_unlisted_rows-requires
send_unlisted_rows-requires g c = record {
  answerable = subst (λ (q : Query). IsAnswerable (view_of c.args.world.now.state) q) (sym (ap (λ (p : Plan). p.query) c.plan.ensures ∙ c.plan_if_outgrown.ensures.query))
      (current_answerable c.args.world.now.state (c.args.plan.now).query c.keeps.ensures c.requires.current);
}

pub sync-requires : goal.sync-requires
sync-requires g c = c.plan_if_outgrown.ensures.list.fits

pub send_rows_by_list-requires-clause-answerable : goal.send_rows_by_list-requires-clause-answerable
send_rows_by_list-requires-clause-answerable g c =
    subst (λ (q : Query). IsAnswerable (view_of c.args.world.now.state) q) (sym (ap (λ (p : Plan). p.query) c.plan-2.ensures ∙ c.plan_if_outgrown.ensures.query))
    (current_answerable c.args.world.now.state (c.args.plan.now).query c.keeps.ensures c.requires.current)

pub send_rows_by_list-requires-clause-tables : goal.send_rows_by_list-requires-clause-tables
send_rows_by_list-requires-clause-tables g c =
    let q = (c.args.plan.now).query in
    subst (λ (x : Query). AreTablesOf x (c.args.world.now).tables c.sync.new.list.keys) (sym (ap (λ (p : Plan). p.query) c.plan-2.ensures ∙ c.plan_if_outgrown.ensures.query))
    (record { listed = c.in_ok-sync.ensures.listed q c.plan_if_outgrown.ensures.list.patterns; rising = c.sync.ensures.once })

pub returns-in_err-sync-clause-follows : goal.returns-in_err-sync-clause-follows
returns-in_err-sync-clause-follows g c =
    follows_again c.args.world.now.tables c.args.list.now c.plan_if_outgrown.new.list c.sync.new.list c.sync.result
    (record { fits = c.plan_if_outgrown.ensures.list.fits; patterns = c.sync.ensures.patterns; exact = c.sync.ensures.exact; synced = c.sync.ensures.synced; refused = c.sync.ensures.refused; judges = c.sync.ensures.judged; again = c.sync.ensures.again }) c.plan_if_outgrown.ensures.follows c.in_ok-plan_if_outgrown.ensures.synced

pub returns-clause-follows : goal.returns-clause-follows
returns-clause-follows g c =
    follows_again c.args.world.now.tables c.args.list.now c.plan_if_outgrown.new.list c.sync.new.list c.sync.result
    (record { fits = c.plan_if_outgrown.ensures.list.fits; patterns = c.sync.ensures.patterns; exact = c.sync.ensures.exact; synced = c.sync.ensures.synced; refused = c.sync.ensures.refused; judges = c.sync.ensures.judged; again = c.sync.ensures.again }) c.plan_if_outgrown.ensures.follows c.in_ok-plan_if_outgrown.ensures.synced

pub returns-then-not-begins_in_tables-clause-reads : goal.returns-then-not-begins_in_tables-clause-reads
returns-then-not-begins_in_tables-clause-reads g c =
    λ begins. absurd (true≢false (sym begins ∙ (sym c.begins_in_tables.ensures ∙ c.if-not-begins_in_tables.true)))

pub returns-clause-reads : goal.returns-clause-reads
returns-clause-reads g c =
    let q = (c.args.plan.now).query in
    λ begins.
    subst (λ (x : Query). IsUpToDate x (c.args.world.now).tables c.sync.new.list) (sym c.plan_if_outgrown.ensures.query)
    (record { synced = c.in_ok-sync.ensures.synced; tables = record { listed = c.in_ok-sync.ensures.listed q c.plan_if_outgrown.ensures.list.patterns; rising = c.sync.ensures.once } })

-- where memory is refused before a row is written
pub returns-in_err-plan_if_outgrown-clause-front : goal.returns-in_err-plan_if_outgrown-clause-front
returns-in_err-plan_if_outgrown-clause-front g c = on_err_anyway _ (stops_here _ _ _ _ (stops_before _ _))

pub returns-in_err-sync-clause-front : goal.returns-in_err-sync-clause-front
returns-in_err-sync-clause-front g c = on_err_anyway _ (stops_here _ _ _ _ (stops_before _ _))

pub returns-in_err-plan_if_outgrown-clause-held : goal.returns-in_err-plan_if_outgrown-clause-held
returns-in_err-plan_if_outgrown-clause-held g c = fault_memory _ _ _ _ c.from_residual.ensures.1

pub returns-in_err-sync-clause-held : goal.returns-in_err-sync-clause-held
returns-in_err-sync-clause-held g c = fault_memory _ _ _ _ c.from_residual-in_err-sync.ensures.1

-- one more exit after each of the two calls that send rows
pub returns-in_err-send_unlisted_rows-clause-follows : goal.returns-in_err-send_unlisted_rows-clause-follows
returns-in_err-send_unlisted_rows-clause-follows g c = c.plan_if_outgrown.ensures.follows

pub returns-in_err-send_rows_by_list-clause-follows : goal.returns-in_err-send_rows_by_list-clause-follows
returns-in_err-send_rows_by_list-clause-follows g c =
    follows_again c.args.world.now.tables c.args.list.now c.plan_if_outgrown.new.list c.sync.new.list c.sync.result
    (record { fits = c.plan_if_outgrown.ensures.list.fits; patterns = c.sync.ensures.patterns; exact = c.sync.ensures.exact; synced = c.sync.ensures.synced; refused = c.sync.ensures.refused; judges = c.sync.ensures.judged; again = c.sync.ensures.again }) c.plan_if_outgrown.ensures.follows c.in_ok-plan_if_outgrown.ensures.synced

pub returns-in_err-send_unlisted_rows-clause-front : goal.returns-in_err-send_unlisted_rows-clause-front
returns-in_err-send_unlisted_rows-clause-front g c =
    let same = ap (λ (p : Plan). p.query) c.plan.ensures ∙ c.plan_if_outgrown.ensures.query in
    on_err_anyway _ (stops_by _ _ _ _ _ (passed_on _ _ c.from_residual-in_err-send_unlisted_rows.ensures.1) (subst (StopsSending _ _ _ _ _) (ap (rows_text c.args.world.now.state) same) c.in_err-send_unlisted_rows.ensures.front))

pub returns-in_err-send_unlisted_rows-clause-held : goal.returns-in_err-send_unlisted_rows-clause-held
returns-in_err-send_unlisted_rows-clause-held g c =
    let same = ap (λ (p : Plan). p.query) c.plan.ensures ∙ c.plan_if_outgrown.ensures.query in
    let most = max c.args.most (length c.args.out.now.items) in
    fault_same c.in_err-send_unlisted_rows.field-0.0 _ _ c.send_unlisted_rows.result _ _ c.in_err-send_unlisted_rows.was c.from_residual-in_err-send_unlisted_rows.ensures.1
    (subst (λ (q : Query). HoldsAtFault most (lines_of_rows c.args.world.now.state q) c.send_unlisted_rows.result c.send_unlisted_rows.new.out.items) same c.send_unlisted_rows.ensures.held)

pub returns-in_err-send_unlisted_rows-clause-writes : goal.returns-in_err-send_unlisted_rows-clause-writes
returns-in_err-send_unlisted_rows-clause-writes g c =
    fails_same c.in_err-send_unlisted_rows.field-0.0 _ _ _ c.send_unlisted_rows.result _ (λ calm. calm) c.in_err-send_unlisted_rows.was c.from_residual-in_err-send_unlisted_rows.ensures.1 c.send_unlisted_rows.ensures.writes

pub returns-in_err-send_rows_by_list-clause-front : goal.returns-in_err-send_rows_by_list-clause-front
returns-in_err-send_rows_by_list-clause-front g c =
    let same = ap (λ (p : Plan). p.query) c.plan-2.ensures ∙ c.plan_if_outgrown.ensures.query in
    on_err_anyway _ (stops_by _ _ _ _ _ (passed_on _ _ c.from_residual-in_err-send_rows_by_list.ensures.1) (subst (StopsSending _ _ _ _ _) (ap (rows_text c.args.world.now.state) same) c.in_err-send_rows_by_list.ensures.front))

pub returns-in_err-send_rows_by_list-clause-held : goal.returns-in_err-send_rows_by_list-clause-held
returns-in_err-send_rows_by_list-clause-held g c =
    let same = ap (λ (p : Plan). p.query) c.plan-2.ensures ∙ c.plan_if_outgrown.ensures.query in
    let most = max c.args.most (length c.args.out.now.items) in
    fault_same c.in_err-send_rows_by_list.field-0.0 _ _ c.send_rows_by_list.result _ _ c.in_err-send_rows_by_list.was c.from_residual-in_err-send_rows_by_list.ensures.1
    (subst (λ (q : Query). HoldsAtFault most (lines_of_rows c.args.world.now.state q) c.send_rows_by_list.result c.send_rows_by_list.new.out.items) same c.send_rows_by_list.ensures.held)

pub returns-in_err-send_rows_by_list-clause-writes : goal.returns-in_err-send_rows_by_list-clause-writes
returns-in_err-send_rows_by_list-clause-writes g c =
    fails_same c.in_err-send_rows_by_list.field-0.0 _ _ _ c.send_rows_by_list.result _ (λ calm. calm) c.in_err-send_rows_by_list.was c.from_residual-in_err-send_rows_by_list.ensures.1 c.send_rows_by_list.ensures.writes

pub returns-then-not-begins_in_tables-clause-writes : goal.returns-then-not-begins_in_tables-clause-writes
returns-then-not-begins_in_tables-clause-writes g c = calm_ok _ _ _ (calm_still _ _ _ c.in_ok-send_unlisted_rows.ensures.writes)

pub returns-clause-writes : goal.returns-clause-writes
returns-clause-writes g c = calm_ok _ _ _ (calm_still _ _ _ c.in_ok-send_rows_by_list.ensures.writes)

-- how the rows were found
pub returns-then-not-begins_in_tables-clause-found : goal.returns-then-not-begins_in_tables-clause-found
returns-then-not-begins_in_tables-clause-found g c = sym c.begins_in_tables.ensures ∙ c.if-not-begins_in_tables.true

pub returns-clause-found : goal.returns-clause-found
returns-clause-found g c = (
  sym c.begins_in_tables.ensures ∙ c.if-not-begins_in_tables.false,
  (
    c.sync.new.list,
    refl,
    subst (λ (p : Plan). StaysInTables c.args.world.now p c.sync.new.list.keys c.in_ok-send_rows_by_list.field-0) c.plan-2.ensures c.in_ok-send_rows_by_list.ensures.probes,
  ),
)
