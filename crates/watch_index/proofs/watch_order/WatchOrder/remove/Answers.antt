use Rattle.std.proofs.Common.{List, ap, subst, sym, ◌∙◌}
use Rattle.watch_index.specs.declared.name_order.Named.{Named}
use Rattle.watch_index.specs.NameOrder.{number_in}
use Rattle.watch_index.specs.declared.watch_order.Watcher.{Watcher}
use Rattle.watch_index.specs.WatchOrder.{Boxed, IsIndexed, occasions_in}
use Rattle.watch_index.proofs.IndexedValues.{drops_as, taken_out}
use Rattle.watch_index.proofs.watch_order.WatchOrder.remove.Goals as goal

pub returns-clause-watched : goal.returns-clause-watched
returns-clause-watched g c =
    let bs : List (Boxed g.row.V.Denot g.row.A.Denot) = c.args.self.now.order.made.items in
    let was = c.in-Some.ensures.place in
    record {
      order = c.remove.ensures.order;
      index = subst (IsIndexed c.leave.new.self) (sym was.left)
          (taken_out number_in occasions_in c.args.self.now.index c.leave.new.self bs c.in-Some.made was.place was.within was.stood c.requires.watched.order.rise c.requires.watched.index
          (drops_as c.args.self.now.index c.leave.new.self _ _ _ _
          (c.as_slice.ensures.value ∙ ap (λ (m : Named (Watcher g.row.V.Denot g.row.A.Denot) g.row.A.Denot). m.value.occasions.items) c.deref-2.ensures)
          (ap (λ (m : Named (Watcher g.row.V.Denot g.row.A.Denot) g.row.A.Denot). m.number) c.deref.ensures) c.leave.ensures));
    }
