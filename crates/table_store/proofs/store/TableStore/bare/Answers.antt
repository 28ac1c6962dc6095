use Rattle.std.proofs.Common.{◌≡◌, ℕ, ◌≤◌, List, [], ◌∷◌, length, map, refl, sym, ◌∙◌, arith}
use Rattle.slab.specs.Slab as slots
use Rattle.table_store.proofs.Indexes.{some_held}
use Rattle.table_store.proofs.FoundTables.{found_known}
use Rattle.table_store.proofs.store.TableStore.bare.Goals as goal

none_mapped : {X Y : Type 0} (f : X → Y) (xs : List X) → length xs ≤ 0 → [] ≡ map f xs
none_mapped f [] h = refl
none_mapped f (x ∷ xs) h = absurd (omega arith)

pub key_in-requires : goal.key_in-requires
key_in-requires g c = some_held (slots.get c.self.inside.tables c.self.inside.recent) [] (sym c.has_ids.ensures ∙ c.if-has_ids.true)

pub returns-then-has_ids : goal.returns-then-has_ids
returns-then-has_ids g c =
    let put = found_known {E = ℕ} c.self.inside.tables c.self.inside.by_ids c.self.inside.by_serial c.self.inside.last c.args.self.now c.self.view_is c.self.invariant.0 c.args.cells.now c.self.inside.recent [] (none_mapped _ c.args.cells.now (omega arith))
    (sym c.has_ids.ensures ∙ c.if-has_ids.true) c.key_in.result c.key_in.ensures.slot c.key_in.ensures.serial c.requires in
    (put.ok, put.whole)
