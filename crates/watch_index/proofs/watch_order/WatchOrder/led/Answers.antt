use Rattle.std.specs.List.{Contains}
use Rattle.std.proofs.Common.{List, subst, sym}
use Rattle.watch_index.specs.NameOrder.{number_in}
use Rattle.watch_index.specs.Occasions.{happening}
use Rattle.watch_index.specs.WatchOrder.{Boxed, occasions_in}
use Rattle.watch_index.proofs.WatchPlaces.{led_here}
use Rattle.watch_index.proofs.watch_order.WatchOrder.led.Goals as goal

pub returns-clause-led : goal.returns-clause-led
returns-clause-led g c =
    let bs : List (Boxed g.row.V.Denot g.row.A.Denot) = c.args.self.now.order.made.items in
    led_here number_in occasions_in bs c.args.self.now.index c.requires.watched.index
    (happening c.args.happened.lives c.args.happened.came.now c.args.happened.went.now c.args.happened.written.now) c.as_slice.result.now c.push_places.new.places.items
    (λ n h. subst (λ ns. Contains ns n) (sym c.as_slice.ensures) ((c.in_ok-led.ensures.exact n).1 h)) c.in_ok-push_places.ensures.all
