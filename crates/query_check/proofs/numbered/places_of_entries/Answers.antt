-- One more piece at each turn.
use Rattle.std.proofs.Common.{arith}
use Rattle.std.proofs.lemmas.Grind.{common_steps}
use Rattle.std.proofs.Common.{◌<◌, ◌∙◌, ap, sym, refl, length, map}
use Rattle.std.proofs.lemmas.List.{length-map}
use Rattle.query_check.specs.Numbered.{level_around}
use Rattle.query_check.specs.Seen.{seen_piece}
use Rattle.query_check.proofs.Entries.{closed_one, item_one, opened_one, same_numbering}
use Rattle.query_check.proofs.PartPlaces.{seen_at}
use Rattle.query_check.proofs.numbered.places_of_entries.Goals as goal
use Rattle.query_check.proofs.numbered.places_of_entries.Goals.{in-Item+in_ok-push-in-Item, in-Opening+in_ok-push-in-Opening, in-Closing}

pub loop-i-preserved : goal.loop-i-preserved
loop-i-preserved g c =
    let pieces = c.args.pieces.now in
    let i = c.loop-i.i in
    let piece = c.index-pieces-i.result in
    let l = c.loop-i in
    let m = c.match-piece in
    let within : i < length (map seen_piece pieces) = rw length-map c.loop-i-test.true in
    let is = seen_at seen_piece pieces i piece c.loop-i-test.true c.index-pieces-i.is in
    elim c.match-piece.branch [
      | in-Item+in_ok-push-in-Item w ↦
          same_numbering (map seen_piece pieces) _ _ _ _ _
          (item_one (map seen_piece pieces) i l.level l.all.items l.invariant (seen_piece piece) within is _ (ap seen_piece w.in-Item.is) _ w.kind_of-kind.ensures m.all.items (ap (λ v. v.items) w.all-is ∙ w.in_ok-push-in-Item.ensures.items))
          w.level-is refl
      | in-Opening+in_ok-push-in-Opening w ↦
          opened_one (map seen_piece pieces) i l.level l.all.items l.invariant (seen_piece piece) within is _ _ (ap seen_piece w.in-Opening.is) m.all.items (ap (λ v. v.items) w.all-is ∙ w.in_ok-push-in-Opening.ensures.items)
          m.level (w.level-is ∙ ap length w.as_slice-level.ensures.value ∙ ap (λ v. length v.items) (sym w.all-is))
      | in-Closing w ↦
          same_numbering (map seen_piece pieces) _ _ _ _ _
          (closed_one (map seen_piece pieces) i l.level l.all.items l.invariant (seen_piece piece) within is (ap seen_piece w.in-Closing.is) m.level
          (w.level-is ∙ w.around-level.ensures ∙ ap (λ a. level_around a l.level) w.as_slice.ensures.value))
          refl (ap (λ v. v.items) w.all-is)
    ]

pub returns-in_err-all : goal.returns-in_err-all
returns-in_err-all g c = grind arith

pub loop-i-init : goal.loop-i-init
loop-i-init g c = grind arith

pub offset_bounds-pieces-i : goal.offset_bounds-pieces-i
offset_bounds-pieces-i g c = grind arith

pub bounds-pieces-i : goal.bounds-pieces-i
bounds-pieces-i g c = grind arith

pub returns-in_err-push-in-Item : goal.returns-in_err-push-in-Item
returns-in_err-push-in-Item g c = grind arith

pub returns-in_err-push-in-Opening : goal.returns-in_err-push-in-Opening
returns-in_err-push-in-Opening g c = grind arith

pub around-level-requires : goal.around-level-requires
around-level-requires g c = grind arith

pub returns : goal.returns
returns g c = grind (arith, common_steps)
