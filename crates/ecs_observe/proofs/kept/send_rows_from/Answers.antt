-- A query without answers prints its count alone.
use Rattle.std.proofs.Common.{[], ◌≤◌, append-nil, arith, length, refl, subst, ◌∙◌}
use Rattle.std.specs.Prelude.{codes, max}
use Rattle.ecs_model.specs.rows.Text.{rows_text}
use Rattle.ecs_model.specs.rows.View.{view_of}
use Rattle.query_answers.proofs.ShownRows.{none_in_order}
use Rattle.ecs_print.proofs.Stops.{on_err_anyway, stops_before, stops_same}
use Rattle.world_query.specs.Sent.{IsSent, StopsSending}
use Rattle.world_query.proofs.RowLines.{none_among}
use Rattle.world_query.proofs.SentTexts.{calm_ok, calm_still, fails_same, fault_anyway, fault_memory, passed_on, sent_here, sent_then, stops_by, stops_here, stops_then}
use Rattle.ecs_observe.proofs.NoRows.{no_lines}
use Rattle.ecs_observe.proofs.kept.send_rows_from.Goals as goal

pub returns-in_err-extend_from_slice-clause-front : goal.returns-in_err-extend_from_slice-clause-front
returns-in_err-extend_from_slice-clause-front g c =
    let old = c.args.out.now.items in
    on_err_anyway _ (stops_here _ old _ _ (stops_same old _ _ c.in_err-extend_from_slice.ensures.items))

pub returns-in_err-extend_from_slice-clause-held : goal.returns-in_err-extend_from_slice-clause-held
returns-in_err-extend_from_slice-clause-held g c = fault_memory _ _ _ _ c.from_residual.ensures.1

pub returns-then-has_nobody-clause-rows : goal.returns-then-has_nobody-clause-rows
returns-then-has_nobody-clause-rows g c =
    let text = rows_text c.args.world.now.state (c.args.plan.now).query in
    let is = no_lines c.args.world.now.state (c.args.plan.now).query (c.has_nobody.ensures.none c.if-has_nobody.true) c.args.out.now.items c.extend_from_slice.new.self.items c.in_ok-extend_from_slice.ensures.items in
    subst (IsSent _ _ _ _) (append-nil text) (sent_then _ _ _ _ _ _ text [] (sent_here _ _ _ _ is) c.in_ok-send_list.ensures.sent)

pub returns-in_err-send_list-clause-front : goal.returns-in_err-send_list-clause-front
returns-in_err-send_list-clause-front g c =
    let text = rows_text c.args.world.now.state (c.args.plan.now).query in
    let is = no_lines c.args.world.now.state (c.args.plan.now).query (c.has_nobody.ensures.none c.if-has_nobody.true) c.args.out.now.items c.extend_from_slice.new.self.items c.in_ok-extend_from_slice.ensures.items in
    on_err_anyway _ (stops_by _ _ _ _ _ (passed_on _ _ c.from_residual-in_err-send_list.ensures.1)
    (subst (StopsSending _ _ _ _ _) (append-nil text) (stops_then _ _ _ _ _ _ text [] (sent_here _ _ _ _ is) (c.in_err-send_list.ensures.front []))))

pub returns-in_err-send_list-clause-held : goal.returns-in_err-send_list-clause-held
returns-in_err-send_list-clause-held g c =
    let w = c.args.world.now.state in
    let q = (c.args.plan.now).query in
    let old = c.args.out.now.items in
    let few : length old ≤ max c.args.most (length old) = omega arith in
    fault_anyway _ _ _ _
    (record {
      held = old;
      line = codes "rows 0\n";
      is = c.in_err-send_list.ensures.same ∙ c.in_ok-extend_from_slice.ensures.items;
      few = few;
      one = none_among w q [] (none_in_order (view_of w) q (c.has_nobody.ensures.none c.if-has_nobody.true)) refl;
    })

pub returns-in_err-room-clause-front : goal.returns-in_err-room-clause-front
returns-in_err-room-clause-front g c = on_err_anyway _ (stops_here _ _ _ _ (stops_before _ _))

pub returns-in_err-room-clause-held : goal.returns-in_err-room-clause-held
returns-in_err-room-clause-held g c = fault_memory _ _ _ _ c.from_residual-in_err-room.ensures.1

pub returns-in_err-send_list-clause-writes : goal.returns-in_err-send_list-clause-writes
returns-in_err-send_list-clause-writes g c =
    fails_same c.in_err-send_list.field-0.0 _ _ _ c.send_list.result _ (λ calm. calm) c.in_err-send_list.was c.from_residual-in_err-send_list.ensures.1 c.send_list.ensures.writes

pub returns-then-has_nobody-clause-writes : goal.returns-then-has_nobody-clause-writes
returns-then-has_nobody-clause-writes g c = calm_ok _ _ _ (calm_still _ _ _ c.in_ok-send_list.ensures.writes)

pub returns-then-has_nobody-clause-probes : goal.returns-then-has_nobody-clause-probes
returns-then-has_nobody-clause-probes g c = c.has_nobody.ensures.probes c.if-has_nobody.true

pub has_nobody-requires-clause-answerable : goal.has_nobody-requires-clause-answerable
has_nobody-requires-clause-answerable g c = grind arith

pub has_nobody-requires-clause-tables : goal.has_nobody-requires-clause-tables
has_nobody-requires-clause-tables g c = grind arith

pub returns-in_err-send_list-clause-rows : goal.returns-in_err-send_list-clause-rows
returns-in_err-send_list-clause-rows g c = grind arith

pub returns-in_err-send_list-clause-unsent : goal.returns-in_err-send_list-clause-unsent
returns-in_err-send_list-clause-unsent g c = grind arith

pub returns-in_err-send_list-clause-kept : goal.returns-in_err-send_list-clause-kept
returns-in_err-send_list-clause-kept g c = grind arith

pub returns-in_err-send_list-clause-probes : goal.returns-in_err-send_list-clause-probes
returns-in_err-send_list-clause-probes g c = grind arith

pub returns-then-has_nobody-clause-unsent : goal.returns-then-has_nobody-clause-unsent
returns-then-has_nobody-clause-unsent g c = grind arith

pub returns-then-has_nobody-clause-kept : goal.returns-then-has_nobody-clause-kept
returns-then-has_nobody-clause-kept g c = grind arith

pub returns-in_err-room-clause-rows : goal.returns-in_err-room-clause-rows
returns-in_err-room-clause-rows g c = grind arith

pub returns-in_err-room-clause-unsent : goal.returns-in_err-room-clause-unsent
returns-in_err-room-clause-unsent g c = grind arith

pub returns-in_err-room-clause-writes : goal.returns-in_err-room-clause-writes
returns-in_err-room-clause-writes g c = grind arith

pub returns-in_err-room-clause-kept : goal.returns-in_err-room-clause-kept
returns-in_err-room-clause-kept g c = grind arith

pub returns-in_err-room-clause-probes : goal.returns-in_err-room-clause-probes
returns-in_err-room-clause-probes g c = grind arith

pub send_rows_in-requires-clause-answerable : goal.send_rows_in-requires-clause-answerable
send_rows_in-requires-clause-answerable g c = grind arith

pub send_rows_in-requires-clause-tables : goal.send_rows_in-requires-clause-tables
send_rows_in-requires-clause-tables g c = grind arith

pub returns-clause-rows : goal.returns-clause-rows
returns-clause-rows g c = grind arith

pub returns-clause-unsent : goal.returns-clause-unsent
returns-clause-unsent g c = grind arith

pub returns-clause-front : goal.returns-clause-front
returns-clause-front g c = grind arith

pub returns-clause-held : goal.returns-clause-held
returns-clause-held g c = grind arith

pub returns-clause-writes : goal.returns-clause-writes
returns-clause-writes g c = grind arith

pub returns-clause-kept : goal.returns-clause-kept
returns-clause-kept g c = grind arith

pub returns-clause-probes : goal.returns-clause-probes
returns-clause-probes g c = grind arith
