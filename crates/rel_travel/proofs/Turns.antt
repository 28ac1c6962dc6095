-- A list that is given in turns, each of which adds what the given one brings: it gives all that is to come, each once.
use Rattle.std.proofs.Common.{◌≡◌, ◌≢◌, ◌↔◌, ◌⊎◌, ◌==◌, ℕ, zero, suc, ◌+◌, ◌-◌, ◌<◌, ◌≤◌, Bool, true, false, ◌&&◌, not, cond, List, [], ◌∷◌, ◌++◌, length, get_or, refl, sym, ap, ◌∙◌, inl, inr, arith, true≢false}
use Rattle.std.specs.Prelude.{max}
use Rattle.std.specs.List.{AllPairs, Contains, IsDistinct}
use Rattle.std.specs.Cmp.{nat_eq_equiv}
use Rattle.std.proofs.lemmas.Bool.{cases_lt}
use Rattle.std.proofs.lemmas.List.Elements.{Contains-append_right, Contains-get_or}
use Rattle.std.proofs.lemmas.List.{get_or_default}
use Rattle.std.proofs.lemmas.List.Kept.{AllPairs-cons}
use Rattle.std.proofs.lemmas.Map.Keys.{IsDistinct-push}
use Rattle.std.proofs.lemmas.Map.Steps.{length-le_from_distinct_below}
use Rattle.std.proofs.lemmas.Option.{slice_get-get_or, slice_get_past}
use Rattle.ecs_model.specs.Reach.{Reaches}
use Rattle.ecs_model.proofs.Members.{eq_itself, eq_same, head_or_tail}
use Rattle.rel_travel.specs.Coming.{after_turn, begun_at, given_in, list_from, with_finds}
use Rattle.rel_travel.specs.Finds.{is_among, with_find}
use Rattle.rel_travel.specs.Growing.{IsGrownBy}
use Rattle.rel_travel.specs.Lists.{IsListed}
use Rattle.rel_travel.proofs.SearchStarts.{begun, begun_alone, begun_by_step}
use Rattle.rel_travel.proofs.AddedLists.{grown_finds}
use Rattle.rel_travel.proofs.Growth.{is_among_tells}
use Rattle.rel_travel.proofs.Pulls.{IsSpread, IsTaken, IsTurn, Waits, none_waits, one_taken}

distinct_find : (found : List ℕ) (y : ℕ) → IsDistinct ◌==◌ found → IsDistinct ◌==◌ (with_find found y)
distinct_find found y d = by (is_among found y) refl
  where
    by : (b : Bool) → is_among found y ≡ b → IsDistinct ◌==◌ (cond b found (found ++ y ∷ []))
    by true e = d
    by false e = IsDistinct-push nat_eq_equiv found y d e

distinct_finds : (ys found : List ℕ) → IsDistinct ◌==◌ found → IsDistinct ◌==◌ (with_finds found ys)
distinct_finds [] found d = d
distinct_finds (y ∷ ys) found d = distinct_finds ys (with_find found y) (distinct_find found y d)

-- what is found is below a bound, each once
pub record AreFew (bound : ℕ) (found : List ℕ) : Type 0 where
  pub distinct : IsDistinct ◌==◌ found
  pub below : (y : ℕ) → Contains found y → y < bound

pub few_fit : (bound : ℕ) (found : List ℕ) → AreFew bound found → length found ≤ bound
few_fit bound found few = length-le_from_distinct_below found bound few.distinct (λ q h. few.below q ((is_among_tells found q).0 h))

few_finds : (bound : ℕ) (ys found : List ℕ) → AreFew bound found → ((y : ℕ) → Contains ys y → y < bound) → AreFew bound (with_finds found ys)
few_finds bound ys found few all = record {
  distinct = distinct_finds ys found few.distinct;
  below = λ y h. elim (((grown_finds ys found).exact y).0 h) [ inl i ↦ few.below y i | inr i ↦ all y i ];
}

-- the next one is read
module _ (brings : ℕ → List ℕ) (b : Bool) where
  pub all_given : (n : ℕ) (found : List ℕ) (k : ℕ) → length found ≤ k → given_in brings b n found k ≡ []
  all_given zero found k l = refl
  all_given (suc n) found k l = rw (slice_get_past found k l) refl

  next_given : (n : ℕ) (found : List ℕ) (k : ℕ) → k < length found
      → given_in brings b (suc n) found k ≡ get_or found k 0 ∷ given_in brings b n (after_turn brings b found (get_or found k 0)) (k + 1)
  next_given n found k l = rw (slice_get-get_or found k 0 l) refl

  pub one_given : (size size' k : ℕ) (found new : List ℕ) (y : ℕ) → k < length found → length found ≤ size → size' ≡ size → y ≡ get_or found k 0 → new ≡ after_turn brings b found y
      → given_in brings b (size - k) found k ≡ y ∷ given_in brings b (size' - (k + 1)) new (k + 1)
  one_given size size' k found new y l fits same is now =
      let turns : size - k ≡ suc (size - (k + 1)) = omega arith in
      rw (same, now, is, turns) (next_given (size - (k + 1)) found k l)

  turn_of : (b' : Bool) (found : List ℕ) (y : ℕ) → IsTurn b' brings y found (after_turn brings b' found y)
  turn_of true found y = grown_finds (brings y) found
  turn_of false found y = refl

  module _ (bound : ℕ) (closed : (x y : ℕ) → Contains (brings x) y → y < bound) where
    few_after : (b' : Bool) (found : List ℕ) (y : ℕ) → AreFew bound found → AreFew bound (after_turn brings b' found y)
    few_after true found y few = few_finds bound (brings y) found few (closed y)
    few_after false found y few = few

    -- enough turns give all
    pub enough_turns : (n m : ℕ) (found : List ℕ) (k : ℕ) → AreFew bound found → bound ≤ n + k → n ≤ m → given_in brings b n found k ≡ given_in brings b m found k
    enough_turns zero m found k few enough more = let fit = few_fit bound found few in sym (all_given m found k (omega arith))
    enough_turns (suc n) zero found k few enough more = absurd (omega arith)
    enough_turns (suc n) (suc m) found k few enough more =
        elim (cases_lt k (length found)) [
          | inl l ↦
              let y = get_or found k 0 in
              let rest = enough_turns n m (after_turn brings b found y) (k + 1) (few_after b found y few) (omega arith) (omega arith) in
              next_given n found k l ∙ ap (λ ys. y ∷ ys) rest ∙ sym (next_given m found k l)
          | inr l ↦ all_given (suc n) found k l ∙ sym (all_given (suc m) found k l)
        ]

    -- a list gives what is to come, each once
    pub record IsTold (found : List ℕ) (k : ℕ) (ys : List ℕ) : Type 0 where
      pub once : AllPairs (λ x y. x ≢ y) ys
      pub exact : (y : ℕ) → Contains ys y ↔ Waits b brings found k y

    told_none : (found : List ℕ) (k : ℕ) → length found ≤ k → IsSpread b brings found k → IsTold found k []
    told_none found k l spread = record {
      once = λ i j d e less in'. absurd (omega arith);
      exact = λ y. (λ h. absurd (omega (arith, h.1)), λ w. absurd (none_waits brings b found k l spread y w));
    }

    told_one : (found grown : List ℕ) (k y : ℕ) (ys : List ℕ) → IsTaken brings b found grown k y → IsTold grown (k + 1) ys → IsTold found k (y ∷ ys)
    told_one found grown k y ys taken told = record {
      once = AllPairs-cons (λ x z. x ≢ z) y ys (λ i d in'. ((taken.rest (get_or ys i d)).0 ((told.exact (get_or ys i d)).0 (Contains-get_or ys i d in'))).1) told.once;
      exact = λ z. (into z, out z);
    }
      where
        into : (z : ℕ) → Contains (y ∷ ys) z → Waits b brings found k z
        into z h = elim (head_or_tail y z ys h) [ inl e ↦ rw (← e) taken.came | inr t ↦ ((taken.rest z).0 ((told.exact z).0 t)).0 ]

        out : (z : ℕ) → Waits b brings found k z → Contains (y ∷ ys) z
        out z w = by (y == z) refl
          where
            by : (same : Bool) → (y == z) ≡ same → Contains (y ∷ ys) z
            by true e = (0, omega arith, eq_same y z e)
            by false e = Contains-append_right (y ∷ []) ys z ((told.exact z).1 ((taken.rest z).1 (w, λ p. true≢false (sym (eq_itself z) ∙ (rw p at e)))))

    pub told_in : (n : ℕ) (found : List ℕ) (k : ℕ) → AreFew bound found → bound ≤ n + k → IsSpread b brings found k → IsTold found k (given_in brings b n found k)
    told_in zero found k few enough spread = let fit = few_fit bound found few in told_none found k (omega arith) spread
    told_in (suc n) found k few enough spread =
        elim (cases_lt k (length found)) [
          | inl l ↦
              let y = get_or found k 0 in
              let grown = after_turn brings b found y in
              let taken = one_taken brings b found grown k y l (get_or_default found k 0 y l) few.distinct (turn_of b found y) spread in
              rw (next_given n found k l) (told_one found grown k y _ taken (told_in n grown (k + 1) (few_after b found y few) (omega arith) taken.spread))
          | inr l ↦ rw (all_given (suc n) found k l) (told_none found k l spread)
        ]

few_none : (bound : ℕ) → AreFew bound []
unfolding IsDistinct
few_none bound = record { distinct = tt; below = λ y h. absurd (omega (arith, h.1)) }

few_begun : (bound : ℕ) (reflexive : Bool) (x : ℕ) → x < bound → AreFew bound (begun reflexive x)
few_begun bound true x l = few_finds bound (x ∷ []) [] (few_none bound) (λ y h. elim (head_or_tail x y [] h) [ inl e ↦ rw (← e) l | inr n ↦ absurd (omega (arith, n.1)) ])
few_begun bound false x l = few_none bound

-- what a search found that began with the entity itself, or with nothing, and went on as it had to
pub started : (transitive reflexive : Bool) (next : ℕ → List ℕ) (x : ℕ) (mid : List ℕ)
    → ((not (reflexive && transitive) ≡ true) × IsGrownBy (next x) (begun reflexive x) mid) ⊎ ((not (reflexive && transitive) ≡ false) × (mid ≡ begun reflexive x))
    → (y : ℕ) → IsListed transitive next mid y ↔ Reaches transitive reflexive next x y
started transitive reflexive next x mid (inl g) = begun_by_step transitive reflexive next x mid g.1
started true true next x mid (inr n) = rw n.1 (begun_alone next x)
started true false next x mid (inr n) = absurd (true≢false n.0)
started false true next x mid (inr n) = absurd (true≢false n.0)
started false false next x mid (inr n) = absurd (true≢false n.0)

pub started_at : (brings : ℕ → List ℕ) (transitive reflexive : Bool) (x : ℕ) (mid : List ℕ)
    → ((not (reflexive && transitive) ≡ true) × (mid ≡ with_finds (begun reflexive x) (brings x))) ⊎ ((not (reflexive && transitive) ≡ false) × (mid ≡ begun reflexive x))
    → mid ≡ begun_at brings transitive reflexive x
started_at brings true true x mid (inl g) = absurd (true≢false (sym g.0))
started_at brings true false x mid (inl g) = g.1
started_at brings false true x mid (inl g) = g.1
started_at brings false false x mid (inl g) = g.1
started_at brings true true x mid (inr n) = n.1
started_at brings true false x mid (inr n) = absurd (true≢false n.0)
started_at brings false true x mid (inr n) = absurd (true≢false n.0)
started_at brings false false x mid (inr n) = absurd (true≢false n.0)

-- so a list comes to all that is reached
pub begun_listed : (brings : ℕ → List ℕ) (t r : Bool) (x y : ℕ) → IsListed t brings (begun_at brings t r x) y ↔ Reaches t r brings x y
begun_listed brings true true x y = begun_alone brings x y
begun_listed brings true false x y = begun_by_step true false brings x (begun_at brings true false x) (grown_finds (brings x) []) y
begun_listed brings false true x y = begun_by_step false true brings x (begun_at brings false true x) (grown_finds (brings x) (x ∷ [])) y
begun_listed brings false false x y = begun_by_step false false brings x (begun_at brings false false x) (grown_finds (brings x) []) y

-- a list that is begun
module _ (brings : ℕ → List ℕ) (size : ℕ) (closed : (x y : ℕ) → Contains (brings x) y → y < size) (transitive reflexive : Bool) (x : ℕ) where
  bound : ℕ
  bound = max size (x + 1)

  within : (z y : ℕ) → Contains (brings z) y → y < bound
  unfolding bound
  within z y h = let l = closed z y h in omega arith

  few_start : (t r : Bool) → AreFew bound (begun_at brings t r x)
  unfolding bound
  few_start true true = few_begun bound true x (omega arith)
  few_start true false = few_finds bound (brings x) [] (few_none bound) (within x)
  few_start false true = few_finds bound (brings x) (x ∷ []) (few_begun bound true x (omega arith)) (within x)
  few_start false false = few_finds bound (brings x) [] (few_none bound) (within x)

  -- more turns give no more
  pub turns_alike : (n : ℕ) (found : List ℕ) → size ≤ n → x < n → found ≡ begun_at brings transitive reflexive x → given_in brings transitive (n - 0) found 0 ≡ list_from brings size transitive reflexive x
  unfolding bound
  turns_alike n found l m is = let all : n - 0 ≡ n = omega arith in rw (all, is) (sym (enough_turns brings transitive bound within bound n (begun_at brings transitive reflexive x) 0 (few_start transitive reflexive) (omega arith) (omega arith)))

  told : IsTold brings transitive bound within (begun_at brings transitive reflexive x) 0 (list_from brings size transitive reflexive x)
  unfolding bound
  told = told_in brings transitive bound within bound (begun_at brings transitive reflexive x) 0 (few_start transitive reflexive) (omega arith) (λ t y z h n. absurd (omega (arith, h.1)))

  -- it gives all that is reached, each once
  pub list_once : AllPairs (λ a b. a ≢ b) (list_from brings size transitive reflexive x)
  list_once = told.once

  pub list_exact : (y : ℕ) → Contains (list_from brings size transitive reflexive x) y ↔ Reaches transitive reflexive brings x y
  list_exact y = (
    λ h. (begun_listed brings transitive reflexive x y).0 ((told.exact y).0 h).0,
    λ r. (told.exact y).1 ((begun_listed brings transitive reflexive x y).1 r, λ n. absurd (omega (arith, n.1))),
  )
