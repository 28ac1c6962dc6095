use Rattle.std.proofs.Common.{◌≡◌, List, ◌-◌, length, Some, slice_get, ap, subst, sym, arith}
use Rattle.watch_index.specs.declared.name_order.Named.{Named}
use Rattle.watch_index.specs.NameOrder.{Boxed, name_in, number_in, value_in}
use Rattle.watch_index.proofs.NamePlaces.{above_last}
use Rattle.watch_index.proofs.name_order.NameOrder.next_number.Goals as goal

pub returns-in-Some-checked_add : goal.returns-in-Some-checked_add
returns-in-Some-checked_add g c =
    above_last name_in number_in value_in c.args.self.now.made.items c.requires.order.rise c.in-Some.last.now c.in-Some-checked_add.number
    (subst (λ (bs : List (Boxed g.row.V.Denot g.row.A.Denot)). slice_get bs (length bs - 1) ≡ Some c.in-Some.last.now) c.deref.ensures.value (sym c.in-Some.ensures.value))
    (omega (arith, c.in-Some-checked_add.ensures, ap (λ (m : Named g.row.V.Denot g.row.A.Denot). m.number) c.deref-2.ensures))
