use Rattle.std.proofs.Common.{◌<◌, ◌∙◌, List, ap, arith}
use Rattle.std.specs.Prelude.{map}
use Rattle.std.specs.List.{flat_map}
use Rattle.ecs_id.specs.declared.EntityId.{EntityId}
use Rattle.ecs_id.specs.declared.TableKey.{TableKey}
use Rattle.std.proofs.lemmas.List.Elements.{All-contains}
use Rattle.rel_travel.specs.Holders.{holders}
use Rattle.rel_travel.proofs.Growth.{IsGrownWhere-same}
use Rattle.rel_travel.proofs.AddedLists.{found_all, found_table, grown_so}
use Rattle.rel_travel.proofs.Rows.{rows_below}
use Rattle.rel_travel.proofs.holders.add_holders.Goals as goal

pub add_rows-requires : goal.add_rows-requires
add_rows-requires g c =
    let table = c.table-item.result in
    rw c.loop-table.invariant.size
    (rows_below (g.G.Holders.rows c.args.graph.now) c.tables_of-table-items.result.now c.loop-table.table-index table c.args.found.now.size (λ (e : EntityId). e.index) c.rows.result.now (omega arith) (c.rows.ensures ∙ ap (g.G.Holders.rows c.args.graph.now) c.table-item.is)
    (λ y h. All-contains (λ x. x < c.args.found.now.size) (holders (g.G.Graph.entities c.args.graph.now) (g.G.Graph.ids c.args.graph.now) c.args.pattern) y c.requires ((c.tables_of-table-items.ensures.holders y).0 h)))

pub loop-table-preserved : goal.loop-table-preserved
loop-table-preserved g c =
    let table = c.table-item.result in
    record {
      size = c.add_rows.ensures.size ∙ c.loop-table.invariant.size;
      items =
          found_table (g.G.Holders.rows c.args.graph.now) c.tables_of-table-items.result.now c.loop-table.table-index table (map (λ (e : EntityId). e.index) c.rows.result.now) c.args.found.now.items c.loop-table.found.items c.add_rows.new.found.items
          (omega arith) (c.rows.ensures ∙ ap (g.G.Holders.rows c.args.graph.now) c.table-item.is) c.loop-table.invariant.items c.add_rows.ensures.items;
    }

pub returns-clause-grown : goal.returns-clause-grown
returns-clause-grown g c =
    let rows = g.G.Holders.rows c.args.graph.now in
    let tables = c.tables_of-table-items.result.now in
    let items = found_all (λ (ts : List TableKey). flat_map rows ts) tables c.loop-table.table-index c.args.found.now.items c.loop-table.found.items (omega arith) c.loop-table.invariant.items in
    IsGrownWhere-same c.args.found.now.items c.loop-table.found.items c.tables_of-table-items.ensures.holders (grown_so (flat_map rows tables) c.args.found.now.items c.loop-table.found.items items)

pub returns-clause-items : goal.returns-clause-items
returns-clause-items g c =
    let rows = g.G.Holders.rows c.args.graph.now in
    let tables = c.tables_of-table-items.result.now in
    rw (← c.tables_of-table-items.ensures.listed)
    (found_all (λ (ts : List TableKey). flat_map rows ts) tables c.loop-table.table-index c.args.found.now.items c.loop-table.found.items (omega arith) c.loop-table.invariant.items)
