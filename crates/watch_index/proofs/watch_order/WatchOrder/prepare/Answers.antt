use Rattle.std.specs.Prelude.{◌≡◌, false}
use Rattle.std.proofs.Common.{List, [], ap, subst, sym, ◌∙◌}
use Rattle.watch_index.specs.declared.name_order.Named.{Named}
use Rattle.watch_index.specs.NameOrder.{number_in}
use Rattle.watch_index.specs.Listed.{is_listed}
use Rattle.watch_index.specs.declared.watch_order.Watcher.{Watcher}
use Rattle.watch_index.specs.WatchOrder.{Boxed, IsIndexed, occasions_in}
use Rattle.watch_index.proofs.IndexedValues.{adds_as, entered, free}
use Rattle.watch_index.proofs.watch_order.WatchOrder.prepare.Goals as goal

pub enter-requires : goal.enter-requires
enter-requires g c =
    let bs : List (Boxed g.row.V.Denot g.row.A.Denot) = c.prepare.new.self.made.items in
    record {
      free = λ o.
          subst (λ n. is_listed c.args.self.now.index o n ≡ false) (sym (ap (λ (m : Named (Watcher g.row.V.Denot g.row.A.Denot) g.row.A.Denot). m.number) c.deref.ensures))
          (free number_in occasions_in c.args.self.now.index [] bs (subst (IsIndexed c.args.self.now.index) (sym c.prepare.ensures.same) c.requires.watched.index) (number_in c.in_ok-key.made)
          c.in_ok-key.ensures.ready.number o);
    }

pub returns-clause-open : goal.returns-clause-open
returns-clause-open g c =
    let bs : List (Boxed g.row.V.Denot g.row.A.Denot) = c.prepare.new.self.made.items in
    record {
      order = c.prepare.ensures.order;
      ready = c.in_ok-key.ensures.ready;
      index = entered number_in occasions_in c.args.self.now.index c.enter.new.self bs c.in_ok-key.made (subst (IsIndexed c.args.self.now.index) (sym c.prepare.ensures.same) c.requires.watched.index)
          (adds_as c.args.self.now.index c.enter.new.self _ _ _ _
          (c.as_slice.ensures.value ∙ ap (λ (m : Named (Watcher g.row.V.Denot g.row.A.Denot) g.row.A.Denot). m.value.occasions.items) c.deref-2.ensures)
          (ap (λ (m : Named (Watcher g.row.V.Denot g.row.A.Denot) g.row.A.Denot). m.number) c.deref.ensures) c.in_ok-enter.ensures.entered);
    }
