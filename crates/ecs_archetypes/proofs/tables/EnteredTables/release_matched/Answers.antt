-- Each table that is listed goes with its entry, until none is.
use Rattle.std.proofs.Common.{◌≡◌, ◌∙◌, Some, None, ap, option_map, subst, sym}
use Rattle.std.proofs.lemmas.Option.{MatchOption-at_some}
use Rattle.std.specs.List.{Contains}
use Rattle.std.specs.Option.{option_copied}
use Rattle.ecs_id.specs.declared.TableKey.{TableKey}
use Rattle.table_store.specs.Rows.{IsStored, rows_in}
use Rattle.table_store.specs.Store.{table_at}
use Rattle.ecs_archetypes.specs.Scans.{HasMatch}
use Rattle.ecs_archetypes.proofs.EnteredTables.{entered_released}
use Rattle.ecs_archetypes.proofs.Releases.{all_matched, first_in, found_there, matched_empty, matched_stands, none_in, one_less, released_more, released_none}
use Rattle.ecs_archetypes.proofs.tables.EnteredTables.release_matched.Goals as goal

pub loop-listed-init : goal.loop-listed-init
loop-listed-init g c = released_none c.args.pattern c.self.inside.store c.self.inside.index c.self.invariant (subst IsStored (sym c.self.view_is) c.requires.stored)

pub unwrap-table-requires : goal.unwrap-table-requires
unwrap-table-requires g c =
    let now = c.loop-listed.self-inside in
    let in_list : Contains c.tables_of.result.now c.key-key.result = rw c.key-key.ensures (first_in c.tables_of.result.now c.in-Some.listed.now (sym c.first.ensures.value ∙ ap option_copied c.in-Some.is)) in
    let has = (all_matched now.store now.index c.loop-listed.invariant.entered c.args.pattern c.tables_of.result.now c.tables_of.ensures.listed c.key-key.result).0 in_list in
    found_there c.get.result (table_at now.store c.key-key.result) _ c.get.ensures.table (matched_stands c.args.pattern c.self.inside.store now.store now.index c.loop-listed.invariant c.key-key.result has)

pub leave-requires : goal.leave-requires
leave-requires g c =
    let now = c.loop-listed.self-inside in
    c.loop-listed.invariant.entered c.key-key.result
    ∙ ap (option_map (λ t. t.ids)) (MatchOption-at_some (table_at now.store c.key-key.result ≡ None) (λ t. table_at now.store c.key-key.result ≡ Some t.now) c.unwrap-table.result c.unwrap-table.ensures c.get.ensures.table)
    ∙ ap Some (sym c.ids.ensures.value)

pub release-requires : goal.release-requires
release-requires g c =
    let now = c.loop-listed.self-inside in
    let in_list : Contains c.tables_of.result.now c.key-key.result = rw c.key-key.ensures (first_in c.tables_of.result.now c.in-Some.listed.now (sym c.first.ensures.value ∙ ap option_copied c.in-Some.is)) in
    let has = (all_matched now.store now.index c.loop-listed.invariant.entered c.args.pattern c.tables_of.result.now c.tables_of.ensures.listed c.key-key.result).0 in_list in
    let empty = subst (λ s. (k : TableKey) → HasMatch s c.args.pattern k → rows_in s k ≡ 0) (sym c.self.view_is) c.requires.empty in
    record { empty = matched_empty c.args.pattern c.self.inside.store now.store now.index c.loop-listed.invariant empty c.key-key.result has }

pub loop-listed-preserved : goal.loop-listed-preserved
loop-listed-preserved g c =
    let now = c.loop-listed.self-inside in
    let in_list : Contains c.tables_of.result.now c.key-key.result = rw c.key-key.ensures (first_in c.tables_of.result.now c.in-Some.listed.now (sym c.first.ensures.value ∙ ap option_copied c.in-Some.is)) in
    let has = (all_matched now.store now.index c.loop-listed.invariant.entered c.args.pattern c.tables_of.result.now c.tables_of.ensures.listed c.key-key.result).0 in_list in
    released_more c.args.pattern c.self.inside.store now.store now.index c.loop-listed.invariant c.release.new.self c.leave.new.self c.key-key.result has c.release.ensures.tables
    (entered_released now.store c.release.new.self c.key-key.result now.index c.leave.new.self c.release.ensures.tables c.loop-listed.invariant.entered c.leave.ensures.left)
    c.release.ensures.whole c.release.ensures.last c.release.ensures.rows

pub loop-listed-smaller : goal.loop-listed-smaller
loop-listed-smaller g c =
    let now = c.loop-listed.self-inside in
    let in_list : Contains c.tables_of.result.now c.key-key.result = rw c.key-key.ensures (first_in c.tables_of.result.now c.in-Some.listed.now (sym c.first.ensures.value ∙ ap option_copied c.in-Some.is)) in
    let has = (all_matched now.store now.index c.loop-listed.invariant.entered c.args.pattern c.tables_of.result.now c.tables_of.ensures.listed c.key-key.result).0 in_list in
    one_less now.store c.key-key.result now.index c.leave.new.self c.loop-listed.invariant.entered (matched_stands c.args.pattern c.self.inside.store now.store now.index c.loop-listed.invariant c.key-key.result has) c.leave.ensures.left

pub invariant_of-self : goal.invariant_of-self
invariant_of-self g c = c.loop-listed.invariant.entered

pub returns-clause-gone : goal.returns-clause-gone
returns-clause-gone g c k has =
    let now = c.loop-listed.self-inside in
    none_in c.tables_of.result.now (sym c.first.ensures.value ∙ ap option_copied c.in_default.is) k
    ((all_matched now.store now.index c.loop-listed.invariant.entered c.args.pattern c.tables_of.result.now c.tables_of.ensures.listed k).1 has)

pub returns-clause-others : goal.returns-clause-others
returns-clause-others g c = rw (← c.self.view_is) c.loop-listed.invariant.apart

pub returns-clause-rows : goal.returns-clause-rows
returns-clause-rows g c = rw (← c.self.view_is) c.loop-listed.invariant.rows

pub returns-clause-whole : goal.returns-clause-whole
returns-clause-whole g c = c.loop-listed.invariant.stored
