-- Who leaves and who enters the rows of a local query depends on the touched entities alone.
use Rattle.std.proofs.Common.{◌≡◌, ℕ, Bool, true, false, cond, inl, inr, List, [], ◌∷◌, refl, sym, ap, ◌∙◌}
use Rattle.std.specs.Prelude.{◌&&◌, filter, map, not, Some, None, if◌then◌else◌}
use Rattle.std.specs.List.Sorted.{IsStrictlyIncreasing}
use Rattle.std.proofs.lemmas.Bool.{cases_Bool}
use Rattle.std.proofs.lemmas.List.Kept.{IsStrictlyIncreasing-filter}
use Rattle.ecs_model.specs.rows.View.{View}
use Rattle.ecs_model.specs.stored.Watches.{matching, missing_from}
use Rattle.query_model.specs.Query.{Query}
use Rattle.query_meaning.specs.Local.{IsLocal}
use Rattle.query_meaning.specs.Variables.{contains}
use Rattle.query_meaning.proofs.Lists.{In, place_of}
use Rattle.query_local.specs.Judging.{judged}
use Rattle.query_local.specs.Telling.{enters, is_matched, leaves}
use Rattle.query_local.specs.Touched.{AreTouched, Touch, held_in}
use Rattle.query_local.proofs.AscendingLists.{contains-filter, same_ascending}
use Rattle.query_local.proofs.LocalMatches.{matched_where_judged, matching_ascends}

-- a test of elements that is a test of their numbers keeps the numbers that pass
filter-numbers : {X : Type 0} (number : X → ℕ) (p : X → Bool) (test : ℕ → Bool) (xs : List X)
    → ((x : X) → In x xs → p x ≡ test (number x)) → map number (filter p xs) ≡ filter test (map number xs)
filter-numbers number p test [] h = refl
filter-numbers number p test (x ∷ xs) h =
    let rest = filter-numbers number p test xs (λ y i. h y (inr i)) in
    ap (λ b. map number (cond b (x ∷ filter p xs) (filter p xs))) (h x (inl refl))
    ∙ elim (test (number x)) as (λ b. map number (cond b (x ∷ filter p xs) (filter p xs)) ≡ cond b (number x ∷ filter test (map number xs)) (filter test (map number xs))) [
      | true ↦ ap (λ ns. number x ∷ ns) rest
      | false ↦ rest
    ]

matched_in : (w : View) (q : Query) → IsLocal q → (e : ℕ) → contains (matching w q) e ≡ is_matched q e (held_in w e)
matched_in w q local e =
    matched_where_judged w q local e
    ∙ elim (contains w.entities e) as (λ b. (b && judged q e (w.ids e)) ≡ is_matched q e (if b then Some (w.ids e) else None)) [ true ↦ refl | false ↦ refl ]

-- of two views, by what each shows of the touched entities
module _ (q : Query) (local : IsLocal q) (touched : List Touch) (up : IsStrictlyIncreasing (map (λ t. t.index) touched)) where
  abbrev moves : View → View → ℕ → Bool
  moves w v e = is_matched q e (held_in w e) && not (is_matched q e (held_in v e))

  -- all others are shown the same
  abbrev AreOthersSame : View → View → Type 0
  AreOthersSame w v = (e : ℕ) → contains (map (λ t. t.index) touched) e ≡ false → held_in w e ≡ held_in v e

  stays : (w v : View) → AreOthersSame w v → (e : ℕ) → (contains (map (λ t. t.index) touched) e && moves w v e) ≡ moves w v e
  stays w v same e = elim (cases_Bool (contains (map (λ t. t.index) touched) e)) [
    | inl t ↦ ap (λ b. b && moves w v e) t
    | inr f ↦ ap (λ b. b && moves w v e) f ∙ sym (ap (λ o. is_matched q e (held_in w e) && not (is_matched q e o)) (sym (same e f)) ∙ never (is_matched q e (held_in w e)))
  ]
    where
      never : (b : Bool) → (b && not b) ≡ false
      never true = refl
      never false = refl

  gone : (w v : View) → IsStrictlyIncreasing w.entities → AreOthersSame w v → (p : Touch → Bool) → ((t : Touch) → In t touched → p t ≡ moves w v t.index)
      → map (λ t. t.index) (filter p touched) ≡ missing_from (matching w q) (matching v q)
  gone w v ascends same p told =
      filter-numbers (λ t. t.index) p (moves w v) touched told
      ∙ same_ascending (filter (moves w v) (map (λ t. t.index) touched)) (missing_from (matching w q) (matching v q))
      (IsStrictlyIncreasing-filter (moves w v) (map (λ t. t.index) touched) up)
      (IsStrictlyIncreasing-filter (λ e. not (contains (matching v q) e)) (matching w q) (matching_ascends w q ascends))
      (λ e.
      contains-filter (moves w v) (map (λ t. t.index) touched) e
      ∙ stays w v same e
      ∙ sym (contains-filter (λ d. not (contains (matching v q) d)) (matching w q) e ∙ (λ i. matched_in w q local e i && not (matched_in v q local e i))))

  module _ (w v : View) (are : AreTouched touched w v) where
    others_same : AreOthersSame w v
    others_same e none =
        let other : not (contains (map (λ t. t.index) touched) e) ≡ true = ap not none in
        λ i. if are.others_live e other i then Some (are.others_hold e other i) else None

    before : (t : Touch) → In t touched → t.before ≡ held_in w t.index
    before t i = are.told_before t (place_of touched t i)

    after : (t : Touch) → In t touched → t.after ≡ held_in v t.index
    after t i = are.told_after t (place_of touched t i)

    pub left_are : IsStrictlyIncreasing w.entities → map (λ t. t.index) (filter (leaves q) touched) ≡ missing_from (matching w q) (matching v q)
    left_are ascends = gone w v ascends others_same (leaves q) (λ t i k. is_matched q t.index (before t i k) && not (is_matched q t.index (after t i k)))

    pub entered_are : IsStrictlyIncreasing v.entities → map (λ t. t.index) (filter (enters q) touched) ≡ missing_from (matching v q) (matching w q)
    entered_are ascends = gone v w ascends (λ e none. sym (others_same e none)) (enters q) (λ t i k. is_matched q t.index (after t i k) && not (is_matched q t.index (before t i k)))
