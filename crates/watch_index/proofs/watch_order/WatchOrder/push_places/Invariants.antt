use Rattle.std.specs.Prelude.{All}
use Rattle.std.specs.List.{AllPairs}
use Rattle.std.proofs.Common.{◌<◌, length, take}
use Rattle.watch_index.specs.NameOrder.{number_in}
use Rattle.watch_index.specs.WatchOrder.{HasPlaces}
use Rattle.watch_index.proofs.WatchPlaces.{AreBelow}
use Rattle.watch_index.proofs.watch_order.WatchOrder.push_places.Given as goal

abbrev pub invariant-loop-number : goal.invariant-loop-number
invariant-loop-number g l = record {
  ascend : AllPairs (λ a b. a < b) l.places.items;
  below : AreBelow number_in l.self.order.made.items l.numbers l.number-index l.places.items;
  within : All (λ i. i < length l.self.order.made.items) l.places.items;
  all : HasPlaces l.self.order.made.items (take l.number-index l.numbers) l.places.items;
}
