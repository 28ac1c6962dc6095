use Rattle.std.proofs.Common.{◌≡◌, Some, sym, subst}
use Rattle.raw_column.specs.declared.block.Memory.{Memory}
use Rattle.table_store.specs.Store.{Store, shape_at}
use Rattle.table_store.specs.Kept.{IsPut, store_of, stepped}
use Rattle.table_store.proofs.store.TableStore.step_anew.Goals as goal

pub returns : goal.returns
returns g c = λ f at.
    let begun : store_of c.self.inside.tables c.self.inside.last ≡ c.args.self.now = c.self.view_is in
    let ended : store_of c.self-2.inside.tables c.self-2.inside.last ≡ c.step_by-stepped.new.self = c.self-2.view_is in
    subst (λ (s : Store). IsPut {E = Memory} s (stepped f c.args.id c.args.added) c.step_by-stepped.result (store_of c.self-2.inside.tables c.self-2.inside.last)) begun
    (subst (λ (n : Store). IsPut {E = Memory} (store_of c.self.inside.tables c.self.inside.last) (stepped f c.args.id c.args.added) c.step_by-stepped.result n) (sym ended)
    (c.step_by-stepped.ensures f (subst (λ (s : Store). shape_at s c.args.key ≡ Some f) (sym begun) at)))
