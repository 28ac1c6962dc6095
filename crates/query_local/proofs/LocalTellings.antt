-- What the touched entities show, in each two worlds that they stand between.
use Rattle.std.proofs.Common.{◌≡◌, Bool, true, false, cond, List, [], ◌∷◌, refl, sym, ap, ◌∙◌, subst}
use Rattle.std.specs.Prelude.{filter, map, IfOk, Result, Ok, Err}
use Rattle.std.specs.List.Sorted.{IsStrictlyIncreasing}
use Rattle.ecs_model.specs.rows.View.{View}
use Rattle.ecs_model.specs.stored.Watches.{matching, missing_from}
use Rattle.query_model.specs.Query.{Query}
use Rattle.query_meaning.specs.Local.{IsLocal}
use Rattle.query_local.specs.Telling.{enters, leaves}
use Rattle.query_local.specs.Touched.{AreTouched, Touch, touch_of}
use Rattle.query_local.specs.declared.told.Told.{Told}
use Rattle.query_local.specs.declared.touched.Touched.{Touched}
use Rattle.query_local.proofs.Moves.{entered_are, left_are}

module _ {A : Type 0} where
  indexes : (ts : List (Touched A)) → map (λ t. t.index) (map touch_of ts) ≡ map (λ t. t.index) ts
  indexes [] = refl
  indexes (t ∷ ts) = ap (λ ns. t.index ∷ ns) (indexes ts)

  seen : (p : Touch → Bool) (ts : List (Touched A)) → map (λ t. t.index) (filter (λ t. p (touch_of t)) ts) ≡ map (λ t. t.index) (filter p (map touch_of ts))
  seen p [] = refl
  seen p (t ∷ ts) =
      let rest = seen p ts in
      elim (p (touch_of t)) as (λ b.
      map (λ t. t.index) (cond b (t ∷ filter (λ t. p (touch_of t)) ts) (filter (λ t. p (touch_of t)) ts))
      ≡ map (λ t. t.index) (cond b (touch_of t ∷ filter p (map touch_of ts)) (filter p (map touch_of ts)))) [
        | true ↦ ap (λ ns. t.index ∷ ns) rest
        | false ↦ rest
      ]

  module _ (q : Query) (local : IsLocal q) (touched : List (Touched A)) (ascends : IsStrictlyIncreasing (map (λ t. t.index) touched)) where
    touches_ascend : IsStrictlyIncreasing (map (λ t. t.index) (map touch_of touched))
    touches_ascend = subst IsStrictlyIncreasing (sym (indexes touched)) ascends

    pub left_told : {E : Type 0} (r : Result (Told A) E) → IfOk r (λ told. told.left.items ≡ map (λ t. t.index) (filter (λ t. leaves q (touch_of t)) touched))
        → IfOk r (λ told. (w v : View) → IsStrictlyIncreasing w.entities → IsStrictlyIncreasing v.entities
        → AreTouched (map touch_of touched) w v → told.left.items ≡ missing_from (matching w q) (matching v q))
    left_told (Ok told) h = λ w v up above are. h ∙ seen (leaves q) touched ∙ left_are q local (map touch_of touched) touches_ascend w v are up
    left_told (Err e) h = tt

    pub entered_told : {E : Type 0} (r : Result (Told A) E) → IfOk r (λ told. told.entered.items ≡ map (λ t. t.index) (filter (λ t. enters q (touch_of t)) touched))
        → IfOk r (λ told. (w v : View) → IsStrictlyIncreasing w.entities → IsStrictlyIncreasing v.entities
        → AreTouched (map touch_of touched) w v → told.entered.items ≡ missing_from (matching v q) (matching w q))
    entered_told (Ok told) h = λ w v up above are. h ∙ seen (enters q) touched ∙ entered_are q local (map touch_of touched) touches_ascend w v are above
    entered_told (Err e) h = tt
