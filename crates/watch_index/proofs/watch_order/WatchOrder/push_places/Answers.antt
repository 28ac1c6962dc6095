-- The place of one more number is found, or none has it.
use Rattle.std.specs.Prelude.{All}
use Rattle.std.specs.List.{AllPairs}
use Rattle.std.proofs.Common.{◌≡◌, ◌+◌, ◌<◌, ◌∙◌, [], ◌∷◌, ◌++◌, List, ap, arith, length, refl, subst, sym, take}
use Rattle.std.proofs.lemmas.List.{take_all}
use Rattle.std.proofs.lemmas.List.Elements.{All-nil, All-push}
use Rattle.watch_index.specs.NameOrder.{number_in}
use Rattle.watch_index.specs.WatchOrder.{Boxed, HasPlaces, occasions_in}
use Rattle.watch_index.proofs.WatchPlaces.{AreBelow, ascending, found_more, more_below, none_below, none_more, none_placed, one_higher, still_below}
use Rattle.watch_index.proofs.watch_order.WatchOrder.push_places.Goals as goal
use Rattle.watch_index.proofs.watch_order.WatchOrder.push_places.Goals.{in-Some+in_ok-push, in_default}

pub loop-number-init : goal.loop-number-init
loop-number-init g c =
    let bs : List (Boxed g.row.V.Denot g.row.A.Denot) = c.args.self.now.order.made.items in
    record {
      ascend = subst (AllPairs (λ a b. a < b)) (sym c.requires.empty) (λ i j d low high. absurd (omega (arith, high)));
      below = subst (AreBelow number_in bs c.args.numbers.now 0) (sym c.requires.empty) (none_below number_in bs c.args.numbers.now);
      within = subst (All (λ i. i < length bs)) (sym c.requires.empty) (All-nil (λ i. i < length bs));
      all = subst (HasPlaces bs []) (sym c.requires.empty) (none_placed number_in occasions_in bs);
    }

pub loop-number-preserved : goal.loop-number-preserved
loop-number-preserved g c =
    let bs : List (Boxed g.row.V.Denot g.row.A.Denot) = c.args.self.now.order.made.items in
    let ns = c.args.numbers.now in
    let j = c.loop-number.number-index in
    let old = c.loop-number.places.items in
    let was = c.loop-number.invariant in
    let rise = c.requires.watched.order.rise in
    elim c.match-place_of_number.branch [
      | in-Some+in_ok-push w ↦
          let place = w.in-Some.place in
          let more : c.match-place_of_number.places.items ≡ old ++ place ∷ [] = ap (λ v. v.items) w.places-is ∙ w.in_ok-push.ensures in
          record {
            ascend = subst (AllPairs (λ a b. a < b)) (sym more)
                (one_higher number_in bs ns rise c.requires.ascend old j _ _ refl (omega arith) place w.in-Some.ensures.0 w.in-Some.ensures.1 was.within was.below was.ascend);
            below = subst (AreBelow number_in bs ns (j + 1)) (sym more)
                (more_below number_in bs ns rise c.requires.ascend old j _ _ refl (omega arith) place w.in-Some.ensures.0 w.in-Some.ensures.1 was.below);
            within = subst (All (λ i. i < length bs)) (sym more) (All-push (λ i. i < length bs) old place was.within w.in-Some.ensures.0);
            all = subst (HasPlaces bs (take (j + 1) ns)) (sym more)
                (found_more number_in occasions_in bs rise ns old j _ _ refl (omega arith) was.all place w.in-Some.ensures.0 w.in-Some.ensures.1);
          }
      | in_default w ↦
          let same : c.match-place_of_number.places.items ≡ old = ap (λ v. v.items) w.places-is in
          record {
            ascend = subst (AllPairs (λ a b. a < b)) (sym same) was.ascend;
            below = subst (AreBelow number_in bs ns (j + 1)) (sym same) (still_below number_in bs ns j old was.below);
            within = subst (All (λ i. i < length bs)) (sym same) was.within;
            all = subst (HasPlaces bs (take (j + 1) ns)) (sym same)
                (none_more number_in occasions_in bs rise ns old j _ _ refl (omega arith) was.all w.in_default.ensures);
          }
    ]

pub returns-clause-ascend : goal.returns-clause-ascend
returns-clause-ascend g c = ascending c.loop-number.places.items c.loop-number.invariant.ascend

pub returns-clause-all : goal.returns-clause-all
returns-clause-all g c =
    let bs : List (Boxed g.row.V.Denot g.row.A.Denot) = c.args.self.now.order.made.items in
    subst (λ ns. HasPlaces bs ns c.loop-number.places.items) (take_all c.loop-number.number-index c.args.numbers.now (omega arith)) c.loop-number.invariant.all
