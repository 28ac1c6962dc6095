-- A table that is new is entered, or released again.
use Rattle.std.proofs.Common.{◌≡◌, ◌∙◌, Some, None, ap, option_map, subst, sym}
use Rattle.std.proofs.lemmas.Option.{MatchOption-at_some}
use Rattle.table_store.specs.Store.{table_at}
use Rattle.ecs_archetypes.specs.Housing.{AreEntered, HaveGrown}
use Rattle.ecs_archetypes.proofs.EnteredTables.{kept_entered, kept_released}
use Rattle.ecs_archetypes.proofs.tables.enter_new.Goals as goal

pub returns-in_default-clause-kept : goal.returns-in_default-clause-kept
returns-in_default-clause-kept g c = λ s f added newer made are sizes.
    subst (λ x. HaveGrown added s c.release.new.self × AreEntered c.release.new.self x) (sym c.in_default.ensures.refused) (kept_released added s c.args.store.now c.args.key f made c.args.index.now are sizes c.release.new.self c.release.ensures.tables newer c.release.ensures.last c.release.ensures.rows c.release.ensures.whole)

pub returns-clause-kept : goal.returns-clause-kept
returns-clause-kept g c = λ s f added newer made are sizes.
    kept_entered added s c.args.store.now c.args.key f made c.args.index.now are sizes c.enter.new.self c.ids.result.now c.in-Ok.ensures.entered
    (ap (option_map (λ t. t.ids)) (MatchOption-at_some (table_at c.args.store.now c.args.key ≡ None) (λ t. table_at c.args.store.now c.args.key ≡ Some t.now) c.unwrap-table.result c.unwrap-table.ensures c.get.ensures.table)
    ∙ ap Some (sym c.ids.ensures.value))
    c.get.ensures.whole
