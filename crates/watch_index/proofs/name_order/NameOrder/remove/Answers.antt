use Rattle.std.specs.List.{AllPairs}
use Rattle.std.specs.Prelude.{◌≢◌}
use Rattle.std.specs.String.{string_bytes}
use Rattle.std.proofs.Common.{◌<◌, List, ap, subst, sym, ◌∙◌}
use Rattle.std.proofs.lemmas.List.Quantifiers.{all_pairs_remove}
use Rattle.watch_index.specs.NameOrder.{Boxed, name_in, number_in, numbered_in, value_in}
use Rattle.watch_index.proofs.NamePlaces.{still_named}
use Rattle.watch_index.proofs.name_order.NameOrder.remove.Goals as goal

pub returns-clause-order : goal.returns-clause-order
returns-clause-order g c =
    let bs : List (Boxed g.row.V.Denot g.row.A.Denot) = c.args.self.now.made.items in
    let place = c.in-Some.place in
    let at = c.in-Some.ensures in
    record {
      rise = subst (AllPairs (λ a b. number_in a < number_in b)) (sym c.remove.ensures.items) (all_pairs_remove (λ a b. number_in a < number_in b) bs place at.0 c.requires.order.rise);
      apart = subst (AllPairs (λ a b. string_bytes (name_in a) ≢ string_bytes (name_in b))) (sym c.remove.ensures.items)
          (all_pairs_remove (λ a b. string_bytes (name_in a) ≢ string_bytes (name_in b)) bs place at.0 c.requires.order.apart);
      named = still_named name_in number_in value_in c.args.name.now c.args.self.now.numbers.entries c.swap_remove.new.self.entries bs c.remove.new.self.items c.requires.order.apart c.requires.order.named
          c.swap_remove.ensures.updates.1 c.swap_remove.ensures.updates.3 (ap numbered_in c.remove.ensures.items ∙ at.3);
    }
