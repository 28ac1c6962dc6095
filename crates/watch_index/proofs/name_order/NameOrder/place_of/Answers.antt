-- The value of the name stands where that of its number does, or there is none.
use Rattle.std.proofs.Common.{sym, ◌∙◌}
use Rattle.watch_index.specs.NameOrder.{name_in, number_in, value_in}
use Rattle.watch_index.proofs.NamePlaces.{none_of, placed_as}
use Rattle.watch_index.proofs.name_order.NameOrder.place_of.Goals as goal

pub returns-in_default : goal.returns-in_default
returns-in_default g c =
    none_of name_in number_in value_in c.args.name.now c.args.self.now.made.items (sym (c.requires.order.named c.args.name.now) ∙ sym c.in_default.ensures.value)

pub returns : goal.returns
returns g c =
    placed_as c.args.self.now.made.items c.requires.order.rise c.args.name.now c.in-Some.number.now c.place_of_number.result
    (sym (c.requires.order.named c.args.name.now) ∙ sym c.in-Some.ensures.value) c.place_of_number.ensures
