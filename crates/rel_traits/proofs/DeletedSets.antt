-- What was found of a deletion says whom and what it takes, and why it is refused.
use Rattle.std.proofs.Common.{◌≡◌, ◌↔◌, ◌∙◌, ℕ, ◌==◌, Bool, true, false, ◌&&◌, ◌||◌, not, IsTrue, List, [], ◌∷◌, ◌++◌, length, Option, refl, sym, ap, subst, inl, inr, arith, true≢false}
use Rattle.std.specs.Prelude.{map, filter, flat_map, nat_lt}
use Rattle.std.specs.Cmp.{nat_cmp_total}
use Rattle.std.specs.FinMap.{nat_cmp-IsAntisymmetric}
use Rattle.std.specs.List.{Contains, list_any}
use Rattle.std.specs.List.Sorted.{IsStrictlySortedBy}
use Rattle.std.specs.Ordering.{nat_cmp}
use Rattle.std.proofs.lemmas.Bool.Decides.{nat_tests}
use Rattle.std.proofs.lemmas.List.Elements.{Contains-append_cases, Contains-append_left, Contains-append_right}
use Rattle.ecs_id.specs.Id.{Id, mentioned}
use Rattle.ecs_model.specs.declared.faults.Refusal.{Refusal}
use Rattle.ecs_model.specs.declared.faults.Refusal.TheVariants.{InUse, Panic, Full}
use Rattle.ecs_model.specs.steps.Outcomes.{is_spent}
use Rattle.ecs_model.specs.Cleanup.{falling}
use Rattle.ecs_model.specs.Map.{IsMap, Map, count_at, has_key, keys}
use Rattle.ecs_model.specs.Reach.{Reached}
use Rattle.ecs_model.specs.Refusal.{first_reason}
use Rattle.ecs_model.specs.World.{WorldState, Key, key_cmp, entities, holds, ids_of, is_live}
use Rattle.ecs_model.specs.steps.FactChanges.{deleted, mentions_gone}
use Rattle.ecs_model.specs.steps.Step.{delete_reasons}
use Rattle.ecs_model.specs.steps.WellFormed.{IsWellFormed}
use Rattle.ecs_model.specs.steps.Rules.{forbids}
use Rattle.ecs_model.proofs.Members.{and_true, any_passes, both, filtered, from_flat_map, in_flat_map}
use Rattle.ecs_model.proofs.steps.AddedSets.{from_map, in_map}
use Rattle.ecs_model.proofs.steps.DeletedSets.{deleted_is_least}
use Rattle.ecs_model.proofs.steps.Facts.{held_listed, key_there, listed_held, listed_live, live_listed, there_key}
use Rattle.ecs_model.proofs.steps.FoundLists.{is_deleted, reasons_by_found}
use Rattle.ecs_model.proofs.steps.LivingIds.{holder_lives}
use Rattle.ecs_model.proofs.steps.SameKeys.{IsMap-within}
use Rattle.rel_travel.specs.Finds.{is_among}
use Rattle.rel_travel.specs.Lists.{Work}
use Rattle.rel_travel.specs.Referring as refer
use Rattle.rel_traits.specs.Deletions.{IsDeletion, OfDeletion, is_lost}
use Rattle.rel_traits.specs.Sees.{HasCounts}
use Rattle.rel_traits.proofs.SeenWorlds.{is_filter, of_world}

-- the facts of these entities whose ids pass a test
abbrev pub facts_of : (ℕ → List Id) → List ℕ → List Key
facts_of ids es = flat_map (λ y. map (λ i. (y, i)) (ids y)) es

from_facts : (ids : ℕ → List Id) (es : List ℕ) (k : Key) → Contains (facts_of ids es) k → Contains es k.0 × Contains (ids k.0) k.1
from_facts ids es k c =
    let y = from_flat_map (λ y. map (λ i. (y, i)) (ids y)) es k c in
    let i = from_map (λ i. (y.0, i)) (ids y.0) k y.2 in
    rw (← i.2) (y.1, i.1)

in_facts : (ids : ℕ → List Id) (es : List ℕ) (k : Key) → Contains es k.0 → Contains (ids k.0) k.1 → Contains (facts_of ids es) k
in_facts ids es k e i = in_flat_map (λ y. map (λ i. (y, i)) (ids y)) es k.0 k e (in_map (λ i. (k.0, i)) (ids k.0) k.1 i)

pub flipped : (x y : ℕ) → (x == y) ≡ (y == x)
flipped x y = grind (arith, nat_tests)

among_alike : (y : ℕ) (xs : List ℕ) → list_any (λ x. x == y) xs ≡ is_among xs y
among_alike y xs = λ j. list_any (λ x. flipped x y j) xs

not_both : (a m : Bool) → not a ≡ true → (a || m) ≡ m
not_both true m n = absurd (true≢false (sym n))
not_both false m n = refl

pub IsMap-deleted : (w : WorldState) (e : ℕ) → IsMap nat_cmp (deleted w e)
unfolding deleted
IsMap-deleted w e = IsMap-within nat_cmp nat_cmp_total (falling (ids_of w) (entities w)) (length (entities w)) e

module _ (w : WorldState) (e : ℕ) (s : Work) (h : IsWellFormed w) (live : Contains (entities w) e) (d : IsDeletion (entities w) (ids_of w) s e) where
  lives : is_live w e ≡ true
  lives = listed_live w e live

  abbrev gone : ℕ → Bool
  gone = has_key nat_cmp (deleted w e)

  gone_is : (y : ℕ) → gone y ≡ is_among s.found y
  gone_is y = is_deleted w e lives s.found d.fall y ∙ among_alike y s.found

  pub mentions_is : (i : Id) → list_any gone (mentioned i) ≡ refer.mentions_any s.found i
  mentions_is i = λ j. list_any (λ x. gone_is x j) (mentioned i)

  pub found_are : (y : ℕ) → Contains s.found y ↔ Contains (keys (deleted w e)) y
  found_are y = (
    λ c. key_there nat_cmp nat_cmp-IsAntisymmetric (deleted w e) y ((deleted_is_least w e lives y).1 ((d.fall y).0 c)),
    λ c. (d.fall y).1 ((deleted_is_least w e lives y).0 (there_key nat_cmp nat_cmp_total (deleted w e) y c)),
  )

  -- the ids of an entity that mention one of the found
  abbrev mentioning : ℕ → List Id
  mentioning y = filter (refer.mentions_any s.found) (ids_of w y)

  lost_in : (k : Key) → Contains (facts_of mentioning s.referrers) k → IsTrue (holds w k.0 k.1) × IsTrue (is_lost w e k)
  lost_in k c =
      let f = from_facts mentioning s.referrers k c in
      let i = (filtered (refer.mentions_any s.found) (ids_of w k.0) k.1).0 f.1 in
      let r = (filtered (λ y. not (is_among s.found y) && list_any (refer.mentions_any s.found) (ids_of w y)) (entities w) k.0).0 ((d.refer k.0).0 f.0) in
      let out = ap not (gone_is k.0) ∙ (both (not (is_among s.found k.0)) (list_any (refer.mentions_any s.found) (ids_of w k.0)) r.1).0 in
      (listed_held w k.0 k.1 i.0, and_true (not (gone k.0)) (mentions_gone w (deleted w e) k) out (not_both (gone k.0) (list_any gone (mentioned k.1)) out ∙ mentions_is k.1 ∙ i.1))

  in_lost : (k : Key) → IsTrue (holds w k.0 k.1) → IsTrue (is_lost w e k) → Contains (facts_of mentioning s.referrers) k
  in_lost k held lost =
      let parts = both (not (gone k.0)) (mentions_gone w (deleted w e) k) lost in
      let mentions = sym (mentions_is k.1) ∙ sym (not_both (gone k.0) (list_any gone (mentioned k.1)) parts.0) ∙ parts.1 in
      let listed = held_listed w k.0 k.1 held in
      let refers = and_true (not (is_among s.found k.0)) (list_any (refer.mentions_any s.found) (ids_of w k.0)) (sym (ap not (gone_is k.0)) ∙ parts.0) (any_passes (refer.mentions_any s.found) (ids_of w k.0) k.1 listed mentions) in
      let outside = (filtered (λ y. not (is_among s.found y) && list_any (refer.mentions_any s.found) (ids_of w y)) (entities w) k.0).1 (live_listed w k.0 (holder_lives w h k.0 k.1 held), refers) in
      in_facts mentioning s.referrers k ((d.refer k.0).1 outside) ((filtered (refer.mentions_any s.found) (ids_of w k.0) k.1).1 (listed, mentions))

  pub lost_are : (old ks : List Key) → old ≡ facts_of mentioning s.referrers → IsStrictlySortedBy key_cmp ks → ((k : Key) → Contains ks k ↔ Contains old k) → ks ≡ filter (is_lost w e) (keys w.facts)
  lost_are old ks is rises same =
      is_filter w h (is_lost w e) ks rises (λ k. (λ c. lost_in k (rw is at ((same k).0 c)), λ p. (same k).1 (rw is (in_lost k p.0 p.1))))

  went_in : (k : Key) → Contains (facts_of mentioning s.referrers ++ facts_of (ids_of w) s.found) k → IsTrue (holds w k.0 k.1) × IsTrue (mentions_gone w (deleted w e) k)
  went_in k c =
      elim (Contains-append_cases (facts_of mentioning s.referrers) (facts_of (ids_of w) s.found) k c) [
        | inl l ↦ let p = lost_in k l in (p.0, (both (not (gone k.0)) (mentions_gone w (deleted w e) k) p.1).1)
        | inr f ↦ let p = from_facts (ids_of w) s.found k f in (listed_held w k.0 k.1 p.1, or_first (gone k.0) (list_any gone (mentioned k.1)) (gone_is k.0 ∙ among_there s.found k.0 p.0))
      ]
    where
      or_first : (a b : Bool) → a ≡ true → (a || b) ≡ true
      or_first true b q = refl
      or_first false b q = absurd (true≢false (sym q))

      among_there : (xs : List ℕ) (y : ℕ) → Contains xs y → is_among xs y ≡ true
      among_there xs y c = any_passes (λ x. y == x) xs y c (grind (arith, nat_tests))

  in_went : (k : Key) → IsTrue (holds w k.0 k.1) → IsTrue (mentions_gone w (deleted w e) k) → Contains (facts_of mentioning s.referrers ++ facts_of (ids_of w) s.found) k
  in_went k held goes = by (gone k.0) refl
    where
      by : (b : Bool) → gone k.0 ≡ b → Contains (facts_of mentioning s.referrers ++ facts_of (ids_of w) s.found) k
      by true g =
          Contains-append_right (facts_of mentioning s.referrers) (facts_of (ids_of w) s.found) k
          (in_facts (ids_of w) s.found k ((d.fall k.0).1 ((deleted_is_least w e lives k.0).0 g)) (held_listed w k.0 k.1 held))
      by false g =
          Contains-append_left (facts_of mentioning s.referrers) (facts_of (ids_of w) s.found) k
          (in_lost k held (and_true (not (gone k.0)) (mentions_gone w (deleted w e) k) (ap not g) goes))

  pub went_are : (old ks : List Key) → old ≡ facts_of mentioning s.referrers ++ facts_of (ids_of w) s.found → IsStrictlySortedBy key_cmp ks → ((k : Key) → Contains ks k ↔ Contains old k)
      → ks ≡ filter (mentions_gone w (deleted w e)) (keys w.facts)
  went_are old ks is rises same =
      is_filter w h (mentions_gone w (deleted w e)) ks rises (λ k. (λ c. went_in k (rw is at ((same k).0 c)), λ p. (same k).1 (rw is (in_went k p.0 p.1))))

  -- the reasons against the deletion
  pub reasons_are : delete_reasons w (deleted w e)
      ≡ (list_any (λ i. nat_lt 0 (count_at w.pins i)) s.found, InUse) ∷ (refer.is_forbidden (ids_of w) (entities w) s.found, Panic) ∷ (is_spent w, Full) ∷ []
  reasons_are =
      reasons_by_found w e lives s.found d.fall
      ∙ (λ j. (list_any (λ i. nat_lt 0 (count_at w.pins i)) s.found, InUse)
      ∷ (list_any (λ y. not (among_alike y s.found j) && list_any (λ i. list_any (λ x. forbids (ids_of w) x i) s.found) (ids_of w y)) (entities w), Panic)
      ∷ (is_spent w, Full) ∷ [])

-- the same, by what the searches saw
module _ (live : List ℕ) (ids : ℕ → List Id) (s : Work) where
  -- the ids of an entity that mention one of the found
  abbrev pub mention : ℕ → List Id
  mention y = filter (refer.mentions_any s.found) (ids y)

  pub tells_dead : OfDeletion live ids s (λ w e. (y : ℕ) → Contains s.found y ↔ Contains (keys (deleted w e)) y)
  tells_dead w e sees lives d = let seen = of_world sees (λ live ids. Contains live e × IsDeletion live ids s e) (lives, d) in found_are w e s sees.sound seen.0 seen.1

  pub tells_lost : (old ks : List Key) → old ≡ facts_of mention s.referrers → IsStrictlySortedBy key_cmp ks → ((k : Key) → Contains ks k ↔ Contains old k)
      → OfDeletion live ids s (λ w e. ks ≡ filter (is_lost w e) (keys w.facts))
  tells_lost old ks is rises same w e sees lives d =
      let seen = of_world sees (λ live ids. Contains live e × IsDeletion live ids s e × (old ≡ facts_of (λ y. filter (refer.mentions_any s.found) (ids y)) s.referrers)) (lives, d, is) in
      lost_are w e s sees.sound seen.0 seen.1 old ks seen.2 rises same

  pub tells_went : (old ks : List Key) → old ≡ facts_of mention s.referrers ++ facts_of ids s.found → IsStrictlySortedBy key_cmp ks → ((k : Key) → Contains ks k ↔ Contains old k)
      → OfDeletion live ids s (λ w e. ks ≡ filter (mentions_gone w (deleted w e)) (keys w.facts))
  tells_went old ks is rises same w e sees lives d =
      let seen = of_world sees (λ live ids. Contains live e × IsDeletion live ids s e × (old ≡ facts_of (λ y. filter (refer.mentions_any s.found) (ids y)) s.referrers ++ facts_of ids s.found)) (lives, d, is) in
      went_are w e s sees.sound seen.0 seen.1 old ks seen.2 rises same

  pub tells_reason : (pins : Map ℕ ℕ) (spent : Bool) (answer : Option Refusal)
      → answer ≡ first_reason ((list_any (λ i. nat_lt 0 (count_at pins i)) s.found, InUse) ∷ (refer.is_forbidden ids live s.found, Panic) ∷ (spent, Full) ∷ [])
      → OfDeletion live ids s (λ w e. HasCounts w pins spent → answer ≡ first_reason (delete_reasons w (deleted w e)))
  tells_reason pins spent answer is w e sees lives d counts =
      let seen = of_world sees
      (λ live ids. Contains live e × IsDeletion live ids s e × (answer ≡ first_reason ((list_any (λ i. nat_lt 0 (count_at pins i)) s.found, InUse) ∷ (refer.is_forbidden ids live s.found, Panic) ∷ (spent, Full) ∷ [])))
      (lives, d, is) in
      seen.2
      ∙ (λ j. first_reason ((list_any (λ i. nat_lt 0 (count_at (sym counts.pins_are j) i)) s.found, InUse) ∷ (refer.is_forbidden (ids_of w) (entities w) s.found, Panic) ∷ (sym counts.spent_is j, Full) ∷ []))
      ∙ sym (ap first_reason (reasons_are w e s sees.sound seen.0 seen.1))

-- those who refer to what was found before are found with it
pub refer_to_found : (live : List ℕ) (ids : ℕ → List Id) (s t : Work) → t ≡ record s { referrers = t.referrers } → ((y : ℕ) → Contains t.referrers y ↔ Contains (refer.referrers ids live s.found) y)
    → (y : ℕ) → Contains t.referrers y ↔ Contains (refer.referrers ids live t.found) y
refer_to_found live ids s t is exact y = subst (λ xs. Contains t.referrers y ↔ Contains (refer.referrers ids live xs) y) (sym (ap (λ (x : Work). x.found) is)) (exact y)

pub is_deletion : (live : List ℕ) (ids : ℕ → List Id) (s t : Work) (e : ℕ) → t ≡ record s { referrers = t.referrers } → ((y : ℕ) → Contains s.found y ↔ Reached (falling ids live) e y)
    → ((y : ℕ) → Contains t.referrers y ↔ Contains (refer.referrers ids live s.found) y) → IsDeletion live ids t e
is_deletion live ids s t e is least exact = record {
  fall = λ y. subst (λ xs. Contains xs y ↔ Reached (falling ids live) e y) (sym (ap (λ (x : Work). x.found) is)) (least y);
  refer = refer_to_found live ids s t is exact;
}
