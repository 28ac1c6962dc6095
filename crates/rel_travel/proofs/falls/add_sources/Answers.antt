use Rattle.std.proofs.Common.{◌<◌, ◌∙◌, ap, arith, sym, take_all}
use Rattle.std.specs.List.{flat_map}
use Rattle.std.proofs.lemmas.List.Folds.{flat_map-map}
use Rattle.ecs_id.specs.declared.EntityId.{EntityId}
use Rattle.ecs_id.specs.declared.TableKey.{TableKey}
use Rattle.rel_travel.specs.Holders.{holders_of_pair}
use Rattle.rel_travel.specs.Growing.{IsGrownBy}
use Rattle.std.proofs.lemmas.Bool.Decides.{nat_tests}
use Rattle.std.proofs.lemmas.Grind.{common_steps}
use Rattle.ecs_model.proofs.Members.{from_flat_map}
use Rattle.rel_travel.proofs.Cleanup.{All-alike, flat_map_alike, flat_map_twice, one_of_all, sources_any}
use Rattle.rel_travel.proofs.Growth.{IsGrownBy-none, IsGrownWhere-same}
use Rattle.rel_travel.proofs.Rows.{table_added}
use Rattle.rel_travel.proofs.falls.add_sources.Goals as goal

pub returns-then-is_empty-clause-grown : goal.returns-then-is_empty-clause-grown
returns-then-is_empty-clause-grown g c =
    let entities = g.G.Graph.entities c.args.graph.now in
    let ids = g.G.Graph.ids c.args.graph.now in
    let tables = c.tables_of.result.now in
    IsGrownWhere-same c.args.found.now.items c.args.found.now.items
    (λ y. (
      λ none. absurd (omega (arith, none.1)),
      λ h.
          let held = (c.tables_of.ensures.holders y).1 (sources_any entities ids c.args.target y h) in
          let t = from_flat_map (g.G.Holders.rows c.args.graph.now) tables y held in
          let inside = t.1.1 in
          let empty = c.is_empty.ensures in
          let is = c.if-is_empty.true in
          absurd (grind (arith, common_steps, nat_tests)),
    ))
    (IsGrownBy-none c.args.found.now.items)

pub add_pairs-requires : goal.add_pairs-requires
add_pairs-requires g c =
    let table = c.table-item.result in
    let index = λ (e : EntityId). e.index in
    let pairs = holders_of_pair (g.G.Graph.entities c.args.graph.now) (g.G.Graph.ids c.args.graph.now) c.args.target in
    let deleting = holders_of_pair (g.G.Graph.entities c.args.graph.now) (g.G.Graph.ids c.args.graph.now) 17 15 in
    let tables = c.tables_of-table-items.result.now in
    rw c.loop-table.invariant.size
    (All-alike (λ y. y < c.args.found.now.size) (flat_map (λ e. pairs (index e)) c.rows.result.now) (flat_map pairs deleting)
    (one_of_all pairs (g.G.Holders.rows c.args.graph.now) tables c.loop-table.table-index table index c.rows.result.now deleting (omega arith) (c.rows.ensures ∙ ap (g.G.Holders.rows c.args.graph.now) c.table-item.is) (λ r. (c.tables_of-table-items.ensures.holders r).0))
    c.requires)

pub loop-table-preserved : goal.loop-table-preserved
loop-table-preserved g c =
    let table = c.table-item.result in
    let index = λ (e : EntityId). e.index in
    let pairs = holders_of_pair (g.G.Graph.entities c.args.graph.now) (g.G.Graph.ids c.args.graph.now) c.args.target in
    let es = c.rows.result.now in
    record {
      size = c.add_pairs.ensures.size ∙ c.loop-table.invariant.size;
      grown =
          table_added (λ (t : TableKey). flat_map pairs (g.G.Holders.rows c.args.graph.now t)) c.tables_of-table-items.result.now c.loop-table.table-index table (flat_map (λ e. pairs (index e)) es)
          c.args.found.now.items c.loop-table.found.items c.add_pairs.new.found.items (omega arith) (sym (flat_map-map pairs index es) ∙ ap (flat_map pairs) (c.rows.ensures ∙ ap (g.G.Holders.rows c.args.graph.now) c.table-item.is)) c.loop-table.invariant.grown c.add_pairs.ensures.grown;
    }

pub returns-clause-grown : goal.returns-clause-grown
returns-clause-grown g c =
    let rows = g.G.Holders.rows c.args.graph.now in
    let pairs = holders_of_pair (g.G.Graph.entities c.args.graph.now) (g.G.Graph.ids c.args.graph.now) c.args.target in
    let deleting = holders_of_pair (g.G.Graph.entities c.args.graph.now) (g.G.Graph.ids c.args.graph.now) 17 15 in
    let tables = c.tables_of-table-items.result.now in
    let same = c.tables_of-table-items.ensures.holders in
    let all : IsGrownBy (flat_map (λ (t : TableKey). flat_map pairs (rows t)) tables) c.args.found.now.items c.loop-table.found.items =
    rw (← take_all c.loop-table.table-index tables (omega arith)) c.loop-table.invariant.grown in
    let joined : IsGrownBy (flat_map pairs (flat_map rows tables)) c.args.found.now.items c.loop-table.found.items = rw (← flat_map_twice pairs rows tables) all in
    IsGrownWhere-same c.args.found.now.items c.loop-table.found.items
    (λ y. (flat_map_alike pairs (flat_map rows tables) deleting (λ r. (same r).0) y, flat_map_alike pairs deleting (flat_map rows tables) (λ r. (same r).1) y))
    joined
