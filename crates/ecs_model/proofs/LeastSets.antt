-- As many rounds as there are things to lead to, less one, give the least set that is closed under what follows.
use Rattle.std.proofs.Common.{◌≡◌, ℕ, suc, zero, ◌≤◌, ◌⊎◌, ◌↔◌, Bool, true, false, cond, ◌||◌, List, [], ◌∷◌, length, refl, sym, ap, ◌∙◌, inl, inr, arith, true≢false}
use Rattle.std.specs.Prelude.{flat_map, fold, IsTrue, Option, is_some, Some}
use Rattle.std.specs.List.{Contains, list_any}
use Rattle.std.specs.declared.cmp.Ordering.{Ordering}
use Rattle.std.specs.FinMap.{find}
use Rattle.std.specs.FinMap.Entries.{find-put, is_some-find}
use Rattle.std.specs.Cmp.{IsTotalOrder}
use Rattle.std.specs.Ordering.{eq_by_cmp}
use Rattle.std.specs.Ordering.{nat_cmp}
use Rattle.std.proofs.lemmas.Bool.Decides.{nat_tests}
use Rattle.std.proofs.lemmas.Cmp.{eq_by_cmp_equiv, nat_cmp_total}
use Rattle.std.proofs.lemmas.List.Folds.{list_any_at}
use Rattle.std.proofs.lemmas.Map.Views.{Contains-from_any, list_any-from_Contains}
use Rattle.ecs_model.specs.Map.{has_key, keys}
use Rattle.ecs_model.specs.Reach.{Reached, itself, onward}
use Rattle.ecs_model.specs.ReachLaws.{ChainsAreShort, RoundsAreEnough}
use Rattle.ecs_model.specs.Sets.{Set, IsLeastFrom, grown, has_chain, with_member, within}
use Rattle.ecs_model.proofs.Members.{among_others, from_flat_map, from_or, in_flat_map, or_left, or_right, others, others_fewer, passing}
use Rattle.ecs_model.proofs.ShortLines.{chain_ends}

module _ {K : Type 0} {R : K → K → Ordering} (o : IsTotalOrder R) (same : (x y : K) → eq_by_cmp R x y ≡ true → x ≡ y) where
  abbrev IsIn : Set K → K → Type 0
  IsIn s y = IsTrue (has_key R s y)

  one_more : (b : Bool) (x : Option (Unit {0})) → is_some (cond b (Some tt) x) ≡ (b || is_some x)
  one_more true x = refl
  one_more false x = refl

  has_key-with_member : (s : Set K) (k y : K) → has_key R (with_member R s k) y ≡ (eq_by_cmp R y k || has_key R s y)
  has_key-with_member s k y = ap is_some (find-put R o y k tt s) ∙ one_more (eq_by_cmp R y k) (find R y s)

  moved : (a b c : Bool) → (a || (b || c)) ≡ ((b || a) || c)
  moved true true c = refl
  moved true false c = refl
  moved false true c = refl
  moved false false c = refl

  has_key-all : (ks : List K) (s : Set K) (y : K) → has_key R (fold (with_member R) s ks) y ≡ (list_any (eq_by_cmp R y) ks || has_key R s y)
  has_key-all [] s y = refl
  has_key-all (k ∷ ks) s y =
      has_key-all ks (with_member R s k) y
      ∙ ap (λ b. list_any (eq_by_cmp R y) ks || b) (has_key-with_member s k y)
      ∙ moved (list_any (eq_by_cmp R y) ks) (eq_by_cmp R y k) (has_key R s y)

  -- a member is one of the keys
  member : (s : Set K) (y : K) → IsIn s y → Contains (keys s) y
  member s y h = Contains-from_any same y (keys s) (sym (is_some-find R y s) ∙ h)

  member_back : (s : Set K) (y : K) → Contains (keys s) y → IsIn s y
  member_back s y h = is_some-find R y s ∙ list_any-from_Contains (eq_by_cmp_equiv o) y (keys s) h

  module _ (next : K → List K) where
    grown_keeps : (s : Set K) (y : K) → IsIn s y → IsIn (grown R next s) y
    grown_keeps s y h = has_key-all (flat_map next (keys s)) s y ∙ or_right (list_any (eq_by_cmp R y) (flat_map next (keys s))) (has_key R s y) h

    grown_adds : (s : Set K) (x y : K) → IsIn s x → Contains (next x) y → IsIn (grown R next s) y
    grown_adds s x y h n =
        has_key-all (flat_map next (keys s)) s y
        ∙ or_left (list_any (eq_by_cmp R y) (flat_map next (keys s))) (has_key R s y) (list_any-from_Contains (eq_by_cmp_equiv o) y (flat_map next (keys s)) (in_flat_map next (keys s) x y (member s x h) n))

    grown_only : (s : Set K) (y : K) → IsIn (grown R next s) y → IsIn s y ⊎ ((x : K) × IsIn s x × Contains (next x) y)
    grown_only s y h =
        elim (from_or (list_any (eq_by_cmp R y) (flat_map next (keys s))) (has_key R s y) (sym (has_key-all (flat_map next (keys s)) s y) ∙ h)) [
          | inl n ↦ let r = from_flat_map next (keys s) y (Contains-from_any same y (flat_map next (keys s)) n) in inr (r.0, member_back s r.0 r.1, r.2)
          | inr i ↦ inl i
        ]

    one_member : (x y : K) → IsIn (with_member R [] x) y → x ≡ y
    one_member x y h = elim (from_or (eq_by_cmp R y x) (has_key R (let none : Set K = [] in none) y) (sym (has_key-with_member [] x y) ∙ h)) [ inl e ↦ sym (same y x e) | inr n ↦ absurd (true≢false (sym n)) ]

    itself_in : (x : K) → IsIn (with_member R [] x) x
    itself_in x = has_key-with_member [] x x ∙ or_left (eq_by_cmp R x x) (has_key R (let none : Set K = [] in none) x) ((eq_by_cmp_equiv o).refl x)

    -- all that the rounds give is reached
    pub rounds_reach : (n : ℕ) (x y : K) → IsIn (within R next n x) y → Reached next x y
    unfolding within
    rounds_reach zero x y h = rw (← one_member x y h) itself
    rounds_reach (suc n) x y h =
        elim (grown_only (within R next n x) y h) [
          | inl i ↦ rounds_reach n x y i
          | inr r ↦ onward (rounds_reach n x r.0 r.1) r.2
        ]

    start_in : (n : ℕ) (x : K) → IsIn (within R next n x) x
    unfolding within
    start_in zero x = itself_in x
    start_in (suc n) x = grown_keeps (within R next n x) x (start_in n x)

    -- a step before the rounds counts as one more round
    step_before : (n : ℕ) (x z y : K) → Contains (next x) z → IsIn (within R next n z) y → IsIn (within R next (suc n) x) y
    unfolding within
    step_before zero x z y h i = rw (← one_member z y i) (grown_adds (with_member R [] x) x z (itself_in x) h)
    step_before (suc n) x z y h i =
        elim (grown_only (within R next n z) y i) [
          | inl j ↦ grown_keeps (within R next (suc n) x) y (step_before n x z y h j)
          | inr r ↦ grown_adds (within R next (suc n) x) r.0 y (step_before n x z r.0 h r.1) r.2
        ]

    -- y is reached from x by way of these alone
    data ReachedIn (live : List K) (x : K) : K → Type 0 where
      here : Contains live x → ReachedIn live x x
      further : {y z : K} → ReachedIn live x y → Contains (next y) z → Contains live z → ReachedIn live x z

    by_live : (live : List K) (x : K) → ((y : K) → Reached next x y → Contains live y) → {y : K} → Reached next x y → ReachedIn live x y
    by_live live x all itself = here (all x itself)
    by_live live x all (onward {y} {z} r h) = further (by_live live x all r) h (all z (onward r h))

    -- without the way back to x
    apart : (live : List K) (x : K) (m : Contains live x) (z : K) → (eq_by_cmp R x z ≡ false) → Contains live z → Contains (others live m.0) z
    apart live x m z e h = among_others live m.0 x z m.1 m.2 (λ q. true≢false (sym (rw q ((eq_by_cmp_equiv o).refl z)) ∙ e)) h

    cut : (live : List K) (x : K) (m : Contains live x) → {y : K} → ReachedIn live x y → (x ≡ y) ⊎ ((u : K) × Contains (next x) u × ReachedIn (others live m.0) u y)
    cut live x m (here h) = inl refl
    cut live x m (further {y} {z} r h l) = by (eq_by_cmp R x z) refl (cut live x m r)
      where
        by : (b : Bool) → eq_by_cmp R x z ≡ b → (x ≡ y) ⊎ ((u : K) × Contains (next x) u × ReachedIn (others live m.0) u y) → (x ≡ z) ⊎ ((u : K) × Contains (next x) u × ReachedIn (others live m.0) u z)
        by true e before = inl (same x z e)
        by false e (inl q) = inr (z, rw q h, here (apart live x m z e l))
        by false e (inr p) = inr (p.0, p.1, further p.2 h (apart live x m z e l))

    start_of : (live : List K) (x : K) → {y : K} → ReachedIn live x y → Contains live x
    start_of live x (here h) = h
    start_of live x (further r h l) = start_of live x r

    enough_rounds : (n : ℕ) (live : List K) → length live ≤ suc n → (x y : K) → ReachedIn live x y → IsIn (within R next n x) y
    enough_rounds zero live l x y r =
        let m = start_of live x r in
        elim (cut live x m r) [
          | inl q ↦ rw (← q) (start_in zero x)
          | inr p ↦ absurd (omega (arith, (start_of (others live m.0) p.0 p.2).1, others_fewer live m.0 m.1))
        ]
    enough_rounds (suc n) live l x y r =
        let m = start_of live x r in
        elim (cut live x m r) [
          | inl q ↦ rw (← q) (start_in (suc n) x)
          | inr p ↦ step_before n x p.0 y p.1 (enough_rounds n (others live m.0) (omega (arith, others_fewer live m.0 m.1)) p.0 y p.2)
        ]

    -- the rounds give the least set, where all that is reached is among at most one more than they are
    pub within_is_least : (n : ℕ) (live : List K) → length live ≤ suc n → (x : K) → ((y : K) → Reached next x y → Contains live y) → IsLeastFrom R next x (within R next n x)
    within_is_least n live l x all y = (rounds_reach n x y, λ r. enough_rounds n live l x y (by_live live x all r))

pub nat_same : (x y : ℕ) → eq_by_cmp nat_cmp x y ≡ true → x ≡ y
nat_same x y e = grind (arith, nat_tests)

pub rounds_are_enough : RoundsAreEnough
rounds_are_enough next n live l x all = within_is_least nat_cmp_total nat_same next n live l x all

pub chains_are_short : ChainsAreShort
unfolding has_chain
chains_are_short next n live l steps s t = (
  λ h. let u = passing (λ u. has_key nat_cmp (within nat_cmp next n u) t) (next s) h in (u.0, u.1, (least u.0 u.1).0 u.2),
  λ c. list_any_at (λ u. has_key nat_cmp (within nat_cmp next n u) t) (next s) (c.1).0 c.0 (c.1).1 (rw (c.1).2 ((least c.0 c.1).1 c.2)),
)
  where
    least : (u : ℕ) → Contains (next s) u → IsTrue (has_key nat_cmp (within nat_cmp next n u) t) ↔ Reached next u t
    least u h = rounds_are_enough next n live l u (λ y r. chain_ends next live steps s y (u, h, r)) t
