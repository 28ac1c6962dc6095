use Rattle.std.proofs.Common.{arith}
use Rattle.std.proofs.Common.{◌≡◌, ◌≢◌, ◌+◌, ◌<◌, option_map, List, ℕ, Ok, None, Some, false, length, map, sym, ap, subst, ◌∙◌, rules}
use Rattle.std.proofs.lemmas.Result.{err_from_is_err_and}
use Rattle.slab.specs.Slab as slots
use Rattle.slab.specs.Slab.{Slab}
use Rattle.ecs_id.specs.Id.{Id}
use Rattle.ecs_id.specs.declared.TableKey.{TableKey}
use Rattle.ecs_table.specs.Archetype.{Archetype}
use Rattle.table_store.specs.Kept.{AreMarked, Held, IsKept, IsPut, serial_at, store_of}
use Rattle.table_store.specs.Store.{ids_at}
use Rattle.table_store.specs.ByIds.{HasSlot, has_ids, ids_hash}
use Rattle.table_store.proofs.Indexes.{some_held}
use Rattle.table_store.proofs.Marks.{marked_grown, marked_made}
use Rattle.table_store.proofs.Turns.{turns_grown, turns_made, turns_noted}
use Rattle.table_store.proofs.FoundTables.{IsKept-grown, found_known, is_refused, is_kept, is_put, not_there, put_kept}
use Rattle.table_store.proofs.store.TableStore.put_by.Goals as goal

pub returns-in_err-set_ids : goal.returns-in_err-set_ids
returns-in_err-set_ids g c = rw (err_from_is_err_and c.from_residual.result c.from_residual.ensures.1).1 (is_kept c.self.inside.tables c.self.inside.by_ids c.self.inside.by_serial c.self.inside.last c.args.self.now c.self.view_is c.self.invariant.0 c.args.cells.now _)

pub key_in-known-requires : goal.key_in-known-requires
key_in-known-requires g c = some_held (slots.get c.self.inside.tables c.self.inside.recent) c.as_slice-ids.result.now (sym c.has_ids.ensures ∙ c.if-has_ids.true)

pub returns-then-has_ids : goal.returns-then-has_ids
returns-then-has_ids g c =
    found_known c.self.inside.tables c.self.inside.by_ids c.self.inside.by_serial c.self.inside.last c.args.self.now c.self.view_is c.self.invariant.0 c.args.cells.now c.self.inside.recent c.as_slice-ids.result.now (c.as_slice-ids.ensures.value ∙ c.in_ok-set_ids.ensures)
    (sym c.has_ids.ensures ∙ c.if-has_ids.true) c.key_in-known.result c.key_in-known.ensures.slot c.key_in-known.ensures.serial c.requires.sizes

pub key_in-found-requires : goal.key_in-found-requires
key_in-found-requires g c = some_held (slots.get c.self.inside.tables c.in-Some.slot) c.as_slice-ids.result.now c.in-Some.ensures

pub returns-in-Some : goal.returns-in-Some
returns-in-Some g c =
    found_known c.self.inside.tables c.self.inside.by_ids c.self.inside.by_serial c.self.inside.last c.args.self.now c.self.view_is c.self.invariant.0 c.args.cells.now c.in-Some.slot c.as_slice-ids.result.now (c.as_slice-ids.ensures.value ∙ c.in_ok-set_ids.ensures)
    c.in-Some.ensures c.key_in-found.result c.key_in-found.ensures.slot c.key_in-found.ensures.serial c.requires.sizes

pub returns-in_err-key : goal.returns-in_err-key
returns-in_err-key g c = rw (err_from_is_err_and c.from_residual-in_err-key.result c.from_residual-in_err-key.ensures.1).1 (is_kept c.self.inside.tables c.self.inside.by_ids c.self.inside.by_serial c.self.inside.last c.args.self.now c.self.view_is c.self.invariant.0 c.args.cells.now _)

pub prepare-requires-clause-ids : goal.prepare-requires-clause-ids
prepare-requires-clause-ids g c = c.as_slice-ids.ensures.value ∙ c.in_ok-set_ids.ensures

pub prepare-requires-clause-small : goal.prepare-requires-clause-small
prepare-requires-clause-small g c = c.requires.small

pub prepare-requires-clause-slot : goal.prepare-requires-clause-slot
prepare-requires-clause-slot g c = c.in_ok-key.ensures.numbered

pub invariant_of-self : goal.invariant_of-self
invariant_of-self g c = (
  IsKept-grown c.self.inside.tables c.prepare.new.tables c.self.inside.by_ids c.prepare.new.by_ids c.self.inside.by_serial c.prepare.new.by_serial c.self.inside.last
      (ap (λ (t : Slab _). t.slots) c.prepare.ensures.tables) c.prepare.ensures.by_ids c.in_err-slot.ensures.by_serial c.self.invariant.0,
  marked_grown c.self.inside.tables c.prepare.new.tables (ap (λ (t : Slab _). t.slots) c.prepare.ensures.tables) c.self.inside.marks.filled c.prepare.new.marks.filled c.prepare.ensures.marks.filled.longer c.prepare.ensures.marks.filled.same c.self.invariant.1,
  turns_grown c.self.inside.tables c.prepare.new.tables (ap (λ (t : Slab _). t.slots) c.prepare.ensures.tables) c.self.inside.marks.in_turn c.prepare.new.marks.in_turn c.prepare.ensures.marks.in_turn c.self.invariant.2,
)

pub returns-in_err-slot : goal.returns-in_err-slot
returns-in_err-slot g c = rw (err_from_is_err_and c.from_residual-in_err-slot.result c.from_residual-in_err-slot.ensures.1).1 (is_refused c.self.inside.tables c.prepare.new.tables c.self.inside.by_ids c.prepare.new.by_ids c.self.inside.by_serial c.prepare.new.by_serial c.self.inside.last c.args.self.now c.self.view_is
    (IsKept-grown c.self.inside.tables c.prepare.new.tables c.self.inside.by_ids c.prepare.new.by_ids c.self.inside.by_serial c.prepare.new.by_serial c.self.inside.last (ap (λ (t : Slab _). t.slots) c.prepare.ensures.tables) c.prepare.ensures.by_ids c.in_err-slot.ensures.by_serial c.self.invariant.0)
    c.prepare.ensures.tables c.args.cells.now _)

pub insert_reserved-requires : goal.insert_reserved-requires
insert_reserved-requires g c = c.in_ok-slot.ensures.slot

pub note_turn-requires : goal.note_turn-requires
note_turn-requires g c = omega (arith, c.in_ok-slot.ensures.within.in_turn)

pub invariant_of-self-2 : goal.invariant_of-self-2
invariant_of-self-2 g c =
    let ids : c.as_slice-ids.result.now ≡ map (λ (v : Id × ℕ). v.0) c.args.cells.now = c.as_slice-ids.ensures.value ∙ c.in_ok-set_ids.ensures in
    let none : (slot : ℕ) → HasSlot c.self.inside.by_ids c.hash_of-hash.result slot → has_ids c.self.inside.tables c.as_slice-ids.result.now slot ≡ false = search rules in
    let missing = not_there c.self.inside.tables c.self.inside.by_ids c.self.inside.by_serial c.self.inside.last c.args.self.now c.self.view_is c.self.invariant.0 c.as_slice-ids.result.now c.hash_of-hash.result c.hash_of-hash.ensures none in
    let at : c.insert_reserved.result ≡ c.in_ok-key.key.slot = c.insert_reserved.ensures.key ∙ ap (λ (t : Slab _). t.vacant_key) c.prepare.ensures.tables ∙ sym c.in_ok-key.ensures.slot in
    let free : slots.get c.prepare.new.tables c.insert_reserved.result ≡ None = ap (slots.get c.prepare.new.tables) at ∙ ap (λ (t : Slab _). slots.get t c.in_ok-key.key.slot) c.prepare.ensures.tables ∙ c.in_ok-key.ensures.vacant in (
      subst (λ (k : TableKey). IsKept c.insert_reserved.new.self c.prepare.new.by_ids c.prepare.new.by_serial k.serial) (sym c.key-given.ensures) (
          put_kept c.self.inside.tables c.prepare.new.tables c.insert_reserved.new.self c.self.inside.by_ids c.prepare.new.by_ids c.self.inside.by_serial c.prepare.new.by_serial c.self.inside.last c.args.self.now c.self.view_is c.self.invariant.0 c.prepare.ensures.tables
          c.args.cells.now c.in_ok-key.key c.in_ok-slot.slot c.requires.ascend c.requires.small c.requires.sizes
          (subst (λ (l : List Id). (q : TableKey) → ids_at c.args.self.now q ≢ Some l) ids missing)
          c.in_ok-key.ensures.serial c.insert_reserved.result
          (c.insert_reserved.ensures.key ∙ ap (λ (t : Slab _). t.vacant_key) c.prepare.ensures.tables ∙ sym c.in_ok-key.ensures.slot) c.in_ok-key.ensures.vacant c.insert_reserved.ensures.updates
          c.in_ok-slot.ensures.serial c.in_ok-slot.ensures.table c.in_ok-slot.ensures.more c.in_ok-slot.ensures.less c.in_ok-key.ensures.numbered
          c.hash_of-hash.result (c.hash_of-hash.ensures ∙ ap (ids_hash c.self.inside.by_ids.hashing) ids) c.in_ok-slot.ensures.entered c.prepare.ensures.by_ids
          c.in_ok-slot.ensures.by_serial c.insert_reserved.ensures.len
          ),
      subst (AreMarked c.insert_reserved.new.self) (sym c.note_turn.ensures.filled) (
          marked_made c.prepare.new.tables c.insert_reserved.new.self c.insert_reserved.result c.in_ok-slot.slot free c.insert_reserved.ensures.updates (ap (λ (t : Archetype). length t.entities) c.in_ok-slot.ensures.table)
          c.prepare.new.marks.filled (subst (λ n. n < length c.prepare.new.marks.filled) (sym at) c.in_ok-slot.ensures.within.filled)
          (marked_grown c.self.inside.tables c.prepare.new.tables (ap (λ (t : Slab _). t.slots) c.prepare.ensures.tables) c.self.inside.marks.filled c.prepare.new.marks.filled c.prepare.ensures.marks.filled.longer c.prepare.ensures.marks.filled.same c.self.invariant.1)),
      turns_noted c.insert_reserved.new.self c.in_ok-key.key c.prepare.new.marks.in_turn c.note_turn.new.self.in_turn
          (turns_made c.prepare.new.tables c.insert_reserved.new.self c.insert_reserved.result c.in_ok-slot.slot free c.insert_reserved.ensures.updates c.prepare.new.marks.in_turn (turns_grown c.self.inside.tables c.prepare.new.tables (ap (λ (t : Slab _). t.slots) c.prepare.ensures.tables) c.self.inside.marks.in_turn c.prepare.new.marks.in_turn c.prepare.ensures.marks.in_turn c.self.invariant.2)
          (subst (λ n. n + 1 < length c.prepare.new.marks.in_turn) (sym at) c.in_ok-slot.ensures.within.in_turn))
          (omega (arith, c.in_ok-slot.ensures.within.in_turn))
          (ap (serial_at c.insert_reserved.new.self) (sym at) ∙ ap (option_map (λ (x : Held _). x.value.serial)) c.insert_reserved.ensures.updates.changed ∙ ap Some c.in_ok-slot.ensures.serial)
          c.note_turn.ensures.noted,
    )

pub returns : goal.returns
returns g c =
    let ids : c.as_slice-ids.result.now ≡ map (λ (v : Id × ℕ). v.0) c.args.cells.now = c.as_slice-ids.ensures.value ∙ c.in_ok-set_ids.ensures in
    let none : (slot : ℕ) → HasSlot c.self.inside.by_ids c.hash_of-hash.result slot → has_ids c.self.inside.tables c.as_slice-ids.result.now slot ≡ false = search rules in
    let missing = not_there c.self.inside.tables c.self.inside.by_ids c.self.inside.by_serial c.self.inside.last c.args.self.now c.self.view_is c.self.invariant.0 c.as_slice-ids.result.now c.hash_of-hash.result c.hash_of-hash.ensures none in
    subst (λ (k : TableKey). IsPut c.args.self.now c.args.cells.now (Ok k) (store_of c.insert_reserved.new.self k.serial)) (sym c.key-given.ensures) (
    is_put c.self.inside.tables c.prepare.new.tables c.insert_reserved.new.self c.self.inside.by_ids c.prepare.new.by_ids c.self.inside.by_serial c.prepare.new.by_serial c.self.inside.last c.args.self.now c.self.view_is c.self.invariant.0 c.prepare.ensures.tables
    c.args.cells.now c.in_ok-key.key c.in_ok-slot.slot c.requires.ascend c.requires.small c.requires.sizes
    (subst (λ (l : List Id). (q : TableKey) → ids_at c.args.self.now q ≢ Some l) ids missing)
    c.in_ok-key.ensures.serial c.insert_reserved.result
    (c.insert_reserved.ensures.key ∙ ap (λ (t : Slab _). t.vacant_key) c.prepare.ensures.tables ∙ sym c.in_ok-key.ensures.slot) c.in_ok-key.ensures.vacant c.insert_reserved.ensures.updates
    c.in_ok-slot.ensures.serial c.in_ok-slot.ensures.table c.in_ok-slot.ensures.more c.in_ok-slot.ensures.less c.in_ok-key.ensures.numbered
    c.hash_of-hash.result (c.hash_of-hash.ensures ∙ ap (ids_hash c.self.inside.by_ids.hashing) ids) c.in_ok-slot.ensures.entered c.prepare.ensures.by_ids
    c.in_ok-slot.ensures.by_serial c.insert_reserved.ensures.len
    )
