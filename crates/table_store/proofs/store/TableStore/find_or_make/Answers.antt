use Rattle.std.proofs.Common.{◌≡◌, sym, subst}
use Rattle.raw_column.specs.declared.block.Memory.{Memory}
use Rattle.table_store.specs.Store.{Store}
use Rattle.table_store.specs.Kept.{IsPut, store_of}
use Rattle.table_store.proofs.store.TableStore.find_or_make.Goals as goal

pub returns : goal.returns
returns g c =
    let begun : store_of c.self.inside.tables c.self.inside.last ≡ c.args.self.now = c.self.view_is in
    let ended : store_of c.self-2.inside.tables c.self-2.inside.last ≡ c.put_by-put.new.self = c.self-2.view_is in
    subst (λ (s : Store). IsPut {E = Memory} s c.args.cells.now c.put_by-put.result (store_of c.self-2.inside.tables c.self-2.inside.last)) begun
    (subst (λ (n : Store). IsPut {E = Memory} (store_of c.self.inside.tables c.self.inside.last) c.args.cells.now c.put_by-put.result n) (sym ended) c.put_by-put.ensures)

pub returns-in-Some : goal.returns-in-Some
returns-in-Some g c = record { ok = c.in-Some.ensures.0; err = tt; whole = c.in-Some.ensures.1 }
