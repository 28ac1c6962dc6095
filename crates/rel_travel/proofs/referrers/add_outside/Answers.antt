use Rattle.std.proofs.Common.{◌∙◌, ap, arith, take_all}
use Rattle.std.specs.Prelude.{map}
use Rattle.std.specs.List.{filter, flat_map}
use Rattle.ecs_id.specs.declared.EntityId.{EntityId}
use Rattle.ecs_id.specs.declared.TableKey.{TableKey}
use Rattle.rel_travel.specs.Growing.{IsGrownBy}
use Rattle.rel_travel.specs.Outside.{is_outside}
use Rattle.rel_travel.proofs.Growth.{IsGrownWhere-same}
use Rattle.rel_travel.proofs.Mentions.{holders_below, outside_alike}
use Rattle.rel_travel.proofs.Rows.{rows_below, table_added}
use Rattle.rel_travel.proofs.referrers.add_outside.Goals as goal

pub add_rows_outside-requires-clause-covered : goal.add_rows_outside-requires-clause-covered
add_rows_outside-requires-clause-covered g c =
    let table = c.table-item.result in
    rw c.loop-table.invariant.size
    (rows_below (g.G.Holders.rows c.args.graph.now) c.tables_of-table-items.result.now c.loop-table.table-index table c.args.found.now.size (λ (e : EntityId). e.index) c.rows.result.now (omega arith) (c.rows.ensures ∙ ap (g.G.Holders.rows c.args.graph.now) c.table-item.is)
    (λ y h. holders_below c.size.ensures.links c.args.found.now.size c.requires.covered c.args.pattern y ((c.tables_of-table-items.ensures.holders y).0 h)))

pub add_rows_outside-requires-clause-members : goal.add_rows_outside-requires-clause-members
add_rows_outside-requires-clause-members g c =
    let table = c.table-item.result in
    rows_below (g.G.Holders.rows c.args.graph.now) c.tables_of-table-items.result.now c.loop-table.table-index table c.args.members.now.size (λ (e : EntityId). e.index) c.rows.result.now (omega arith) (c.rows.ensures ∙ ap (g.G.Holders.rows c.args.graph.now) c.table-item.is)
    (λ y h. holders_below c.size.ensures.links c.args.members.now.size c.requires.members c.args.pattern y ((c.tables_of-table-items.ensures.holders y).0 h))

pub loop-table-preserved : goal.loop-table-preserved
loop-table-preserved g c =
    let table = c.table-item.result in
    let members = c.args.members.now.items in
    let outside = filter (is_outside members) in
    record {
      size = c.add_rows_outside.ensures.size ∙ c.loop-table.invariant.size;
      grown =
          table_added (λ (t : TableKey). outside (g.G.Holders.rows c.args.graph.now t)) c.tables_of-table-items.result.now c.loop-table.table-index table (outside (map (λ (e : EntityId). e.index) c.rows.result.now)) c.args.found.now.items c.loop-table.found.items
          c.add_rows_outside.new.found.items (omega arith) (ap outside (c.rows.ensures ∙ ap (g.G.Holders.rows c.args.graph.now) c.table-item.is)) c.loop-table.invariant.grown c.add_rows_outside.ensures.grown;
    }

pub returns-clause-grown : goal.returns-clause-grown
returns-clause-grown g c =
    let tables = c.tables_of-table-items.result.now in
    let members = c.args.members.now.items in
    let rows = g.G.Holders.rows c.args.graph.now in
    let all : IsGrownBy (flat_map (λ (t : TableKey). filter (is_outside members) (rows t)) tables) c.args.found.now.items c.loop-table.found.items =
    rw (← take_all c.loop-table.table-index tables (omega arith)) c.loop-table.invariant.grown in
    IsGrownWhere-same c.args.found.now.items c.loop-table.found.items (outside_alike members rows tables _ c.tables_of-table-items.ensures.holders) all
