-- A search for the number finds the value, or there is none.
use Rattle.std.specs.Ordering.{nat_cmp}
use Rattle.std.specs.List.Sorted.{IsBinarySearchResult}
use Rattle.std.specs.declared.result.Result.TheVariants.{Ok, Err}
use Rattle.std.proofs.Common.{◌<◌, ◌≤◌, List, length, rules, subst}
use Rattle.std.proofs.lemmas.List.Sorted.{answers_always}
use Rattle.watch_index.specs.NameOrder.{Boxed, name_in, number_in, value_in}
use Rattle.watch_index.proofs.NamePlaces.{found_at, none_has}
use Rattle.watch_index.proofs.name_order.NameOrder.place_of_number.Goals as goal

pub returns-in-Ok : goal.returns-in-Ok
returns-in-Ok g c =
    let position = c.in-Ok.ensures.position (λ (b : Boxed g.row.V.Denot g.row.A.Denot). number_in b) (answers_always _ _ _ (λ f a r g called. search rules)) in (
      subst (λ (bs : List (Boxed g.row.V.Denot g.row.A.Denot)). c.in-Ok.place < length bs) c.deref.ensures.value c.in-Ok.ensures.bound,
      found_at name_in number_in value_in c.args.self.now.made.items c.requires.order.rise c.args.number c.in-Ok.place
          (subst (λ (bs : List (Boxed g.row.V.Denot g.row.A.Denot)). IsBinarySearchResult (λ b. nat_cmp (number_in b) c.args.number) bs (Ok c.in-Ok.place)) c.deref.ensures.value position),
    )

pub returns-in-Err : goal.returns-in-Err
returns-in-Err g c =
    let position = c.in-Err.ensures.position (λ (b : Boxed g.row.V.Denot g.row.A.Denot). number_in b) (answers_always _ _ _ (λ f a r g called. search rules)) in
    none_has name_in number_in value_in c.args.self.now.made.items c.requires.order.rise c.args.number c.in-Err.field-0
    (subst (λ (bs : List (Boxed g.row.V.Denot g.row.A.Denot)). c.in-Err.field-0 ≤ length bs) c.deref.ensures.value c.in-Err.ensures.bound)
    (subst (λ (bs : List (Boxed g.row.V.Denot g.row.A.Denot)). IsBinarySearchResult (λ b. nat_cmp (number_in b) c.args.number) bs (Err c.in-Err.field-0)) c.deref.ensures.value position)
