use Rattle.std.specs.Prelude.{filter, flat_map}
use Rattle.std.specs.List.{Contains, list_any}
use Rattle.std.proofs.Common.{◌≡◌, subst, sym, ap, ℕ, List, ◌∙◌}
use Rattle.std.proofs.lemmas.Result.{IfOk-weaker}
use Rattle.id_pattern.specs.Patterns.{matches}
use Rattle.ecs_archetypes.specs.Linked.{rows_under}
use Rattle.table_store.specs.Store.{Store}
use Rattle.watch_touched.specs.Leaning.{Adds, HoldTheirs, leaning, leans, standing_in}
use Rattle.watch_touched.specs.Steps.{leads_by}
use Rattle.watch_touched.proofs.TableMates.{theirs_by_tables}
use Rattle.watch_touched.proofs.GrownLists.{fewer}
use Rattle.watch_touched.proofs.StepsBack.{leading_are_listed}
use Rattle.watch_touched.proofs.roles.Walk.push_holders.Goals as goal

pub returns : goal.returns
returns g c =
    let q = c.args.self.now.query.now in
    let others = (c.args.self.now.asked.now.others).items in
    let p = leads_by q others c.args.self.now.changes.now.went c.args.back.step.now in
    let w = c.args.self.now.world.now.state in
    let x = c.args.back.entity in
    let l = c.links-links.result in
    let sees = c.links-links.ensures.sees in
    let tables = c.tables_of-tables.result.now in
    let asked = c.pairs_with.result in
    let holders = flat_map (rows_under l) tables in
    let after = c.push_holders_in.new.found.items in
    let same : c.store-store.result.now ≡ (l.housing).tables = c.store-store.ensures.store ∙ ap (λ h. h.tables) c.tables.ensures.tables in
    let theirs = theirs_by_tables l (rw (← c.tables.ensures.tables) c.store-store.ensures.rows) w sees.ids_are in
    let listed = leading_are_listed q others c.args.self.now.changes.now.went c.args.back.step.now w x asked c.pairs_with.ensures holders
    (λ e h. (c.tables_of-tables.ensures.holders e).1 (subst (λ (es : List ℕ). Contains es e) (λ i. filter (λ y. list_any (matches asked) (sees.ids_are y i)) (sees.live_are i)) h)) in
    IfOk-weaker c.push_holders_in.result _ _
    (λ b adds done.
    let added = subst (λ (s : Store). Adds (filter (leans p w x) (flat_map (standing_in s) tables)) c.args.found.now.items after) same (adds done w (subst (HoldTheirs w) (sym same) theirs)) in
    fewer (filter (leans p w x) holders) (leaning p w x) c.args.found.now.items after added listed)
    c.push_holders_in.ensures
