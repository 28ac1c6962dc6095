use Rattle.std.specs.Prelude.{filter, flat_map}
use Rattle.std.specs.List.{Contains, list_any}
use Rattle.std.proofs.Common.{◌≡◌, subst, sym, ap, ℕ, List, ◌∙◌}
use Rattle.id_pattern.specs.Patterns.{matches}
use Rattle.ecs_archetypes.specs.Linked.{rows_under}
use Rattle.table_store.specs.Store.{Store}
use Rattle.watch_touched.specs.Leaning.{Adds, HoldTheirs, leaning, leans, pairs_to, standing_in}
use Rattle.watch_touched.specs.Searches.{is_looked_for}
use Rattle.watch_touched.proofs.TableMates.{theirs_by_tables}
use Rattle.watch_touched.proofs.GrownLists.{fewer, leaning_are_holders}
use Rattle.watch_touched.proofs.leaning.Leaners.push_leaning.Goals as goal

pub returns : goal.returns
returns g c done =
    let p = is_looked_for c.args.self.now in
    let w = c.args.self.now.world.now.state in
    let x = c.args.target in
    let l = c.links-links.result in
    let sees = c.links-links.ensures.sees in
    let tables = c.tables_of-tables.result.now in
    let holders = flat_map (rows_under l) tables in
    let after = c.push_from_tables.new.found.items in
    let same : c.store-store.result.now ≡ (l.housing).tables = c.store-store.ensures.store ∙ ap (λ h. h.tables) c.tables.ensures.tables in
    let theirs = theirs_by_tables l (rw (← c.tables.ensures.tables) c.store-store.ensures.rows) w sees.ids_are in
    let added = subst (λ (s : Store). Adds (filter (leans p w x) (flat_map (standing_in s) tables)) c.args.found.now.items after) same
    (c.in_ok-push_from_tables.ensures c.if-not-branch.false w (subst (HoldTheirs w) (sym same) theirs)) in
    fewer (filter (leans p w x) holders) (leaning p w x) c.args.found.now.items after added
    (leaning_are_holders p w x holders (λ e h. (c.tables_of-tables.ensures.holders e).1 (subst (λ (es : List ℕ). Contains es e) (λ i. filter (λ y. list_any (matches (pairs_to x)) (sees.ids_are y i)) (sees.live_are i)) h)))
