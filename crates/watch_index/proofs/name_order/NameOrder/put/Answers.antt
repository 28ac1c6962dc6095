use Rattle.std.specs.List.{AllPairs}
use Rattle.std.specs.Prelude.{◌≢◌}
use Rattle.std.specs.String.{string_bytes, string_eq}
use Rattle.std.proofs.Common.{◌<◌, List, ap, subst, sym, ◌∙◌, arith}
use Rattle.std.proofs.lemmas.List.Quantifiers.{all_pairs_push}
use Rattle.std.specs.Map.{lookup}
use Rattle.indexmap.specs.IndexMap.{insert_entry}
use Rattle.watch_index.specs.declared.name_order.Named.{Named}
use Rattle.watch_index.specs.NameOrder.{Boxed, is_key, name_in, number_in, numbered_in, value_in}
use Rattle.watch_index.proofs.NamePlaces.{all_others, of_ok, put_named}
use Rattle.watch_index.proofs.name_order.NameOrder.put.Goals as goal

pub returns-clause-order : goal.returns-clause-order
returns-clause-order g c =
    let bs : List (Boxed g.row.V.Denot g.row.A.Denot) = c.args.self.now.made.items in
    record {
      rise = subst (AllPairs (λ a b. number_in a < number_in b)) (sym c.push_reserved.ensures.items) (all_pairs_push (λ a b. number_in a < number_in b) bs c.args.made c.requires.order.rise c.requires.ready.number);
      apart = subst (AllPairs (λ a b. string_bytes (name_in a) ≢ string_bytes (name_in b))) (sym c.push_reserved.ensures.items)
          (all_pairs_push (λ a b. string_bytes (name_in a) ≢ string_bytes (name_in b)) bs c.args.made c.requires.order.apart (all_others name_in number_in value_in (string_bytes (name_in c.args.made)) bs c.requires.free));
      named = λ m.
          put_named name_in number_in value_in c.args.self.now.numbers.entries c.insert.new.self.entries bs c.args.made c.args.key c.requires.ready.key c.requires.order.named c.requires.free
          (of_ok c.insert.result c.insert.ensures.entries (c.insert.ensures.succeeds (omega (arith, c.requires.ready.room.numbers)))
          ∙ ap (λ (m : Named g.row.V.Denot g.row.A.Denot). insert_entry string_eq c.args.self.now.numbers.entries c.args.key m.number) c.deref.ensures) m
          ∙ ap (λ xs. lookup (is_key m) (numbered_in xs)) (sym c.push_reserved.ensures.items);
    }
