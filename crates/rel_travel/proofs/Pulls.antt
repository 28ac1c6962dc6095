-- One turn of a list that is given one by one.
use Rattle.std.proofs.Common.{◌≡◌, ◌≢◌, ◌↔◌, ◌⊎◌, ◌==◌, ℕ, zero, suc, ◌+◌, ◌<◌, ◌≤◌, Bool, true, false, IsTrue, List, [], ◌∷◌, ◌++◌, length, get_or, take, refl, sym, ap, ◌∙◌, inl, inr, arith, add-one, true≢false}
use Rattle.std.specs.List.{Contains, IsDistinct}
use Rattle.std.proofs.lemmas.Bool.{false≢true}
use Rattle.std.proofs.lemmas.List.{get_or_default, get_or-take, length-take, take_all, take_more}
use Rattle.std.proofs.lemmas.Map.Keys.{apart_from_distinct}
use Rattle.std.proofs.lemmas.List.Elements.{Contains-get_or, Contains-push, Contains-push_cases, Contains-append_left}
use Rattle.ecs_model.specs.Reach.{Reached, itself, onward, IsReachedFrom}
use Rattle.rel_travel.specs.Growing.{IsGrownBy}
use Rattle.ecs_id.specs.Id.{Id}
use Rattle.rel_travel.specs.Lists.{IsGiven, IsListed, IsListing, IsToCome, Work, steps}
use Rattle.ecs_model.proofs.Members.{eq_itself}

-- a list that has grown at its end has the same first items
pub take_kept : {A : Type 0} (old new : List A) (added : List A) (k : ℕ) → k ≤ length old → IsGrownBy added old new → take k new ≡ take k old
take_kept old new added zero l g = refl
take_kept [] new added (suc k) l g = absurd (omega arith)
take_kept (x ∷ xs) new added (suc k) l g =
    let before = take_kept (x ∷ xs) new added k (omega arith) g in
    let read = g.kept k x (omega arith) in
    let more : take (k + 1) new ≡ take (k + 1) (x ∷ xs) = take_more new k x (omega (arith, g.longer)) ∙ ap (λ ys. ys ++ get_or new k x ∷ []) before ∙ ap (λ y. take k (x ∷ xs) ++ y ∷ []) read ∙ sym (take_more (x ∷ xs) k x (omega arith)) in
    rw add-one at more

-- whether what one of the found brings was added, or nothing, since the list doesn't go on
abbrev pub IsTurn : Bool → (ℕ → List ℕ) → ℕ → List ℕ → List ℕ → Type 0
IsTurn true next y items grown = IsGrownBy (next y) items grown
IsTurn false next y items grown = grown ≡ items

-- still to come of a list of which the first so many are given
abbrev pub Waits : Bool → (ℕ → List ℕ) → List ℕ → ℕ → ℕ → Type 0
Waits b next items k z = IsListed b next items z × ¬ (Contains (take k items) z)

abbrev pub IsSpread : Bool → (ℕ → List ℕ) → List ℕ → ℕ → Type 0
IsSpread b next items k = IsTrue b → (y z : ℕ) → Contains (take k items) y → Contains (next y) z → Contains items z

module _ (next : ℕ → List ℕ) where
  joined : {x y z : ℕ} → Reached next x y → Reached next y z → Reached next x z
  joined r itself = r
  joined r (onward s h) = onward (joined r s) h

  -- what follows from a found one adds nothing to what the list comes to
  comes_to_same : (b : Bool) (items grown : List ℕ) (y : ℕ) → Contains items y → IsTurn b next y items grown → (z : ℕ) → IsListed b next grown z ↔ IsListed b next items z
  comes_to_same true items grown y there g z = (into, λ r. (r.0, (g.exact r.0).1 (inl r.1), r.2))
    where
      into : IsReachedFrom next grown z → IsReachedFrom next items z
      into r = elim ((g.exact r.0).0 r.1) [ inl h ↦ (r.0, h, r.2) | inr h ↦ (y, there, joined (onward itself h) r.2) ]
  comes_to_same false items grown y there g z = (λ h. rw (← g) h, λ h. rw g h)

  found_comes : (b : Bool) (items : List ℕ) (y : ℕ) → Contains items y → IsListed b next items y
  found_comes true items y h = (y, h, itself)
  found_comes false items y h = h

  first_kept : (b : Bool) (items grown : List ℕ) (y k : ℕ) → k ≤ length items → IsTurn b next y items grown → take k grown ≡ take k items
  first_kept true items grown y k l g = take_kept items grown (next y) k l g
  first_kept false items grown y k l g = ap (take k) g

  -- the next one is given
  pub record IsTaken (b : Bool) (items grown : List ℕ) (k y : ℕ) : Type 0 where
    pub came : Waits b next items k y
    pub rest : (z : ℕ) → Waits b next grown (k + 1) z ↔ (Waits b next items k z × (y ≢ z))
    pub last : take (k + 1) grown ≡ take k items ++ y ∷ []
    pub spread : IsSpread b next grown (k + 1)

  apart_at : (items : List ℕ) (k d : ℕ) → k < length items → IsDistinct ◌==◌ items → ¬ (Contains (take k items) (get_or items k d))
  apart_at items k d l distinct h =
      let place : h.0 < k = omega (arith, h.1, length-take k items) in
      let read : get_or items h.0 d ≡ get_or items k d = sym (get_or-take k items h.0 d place) ∙ get_or_default (take k items) h.0 d (get_or items k d) h.1 ∙ h.2 in
      let apart : (get_or items h.0 d == get_or items k d) ≡ false = apart_from_distinct ◌==◌ items h.0 k d distinct place l in
      true≢false (sym (eq_itself (get_or items k d)) ∙ (rw read at apart))

  pub one_taken : (b : Bool) (items grown : List ℕ) (k y : ℕ) → k < length items → y ≡ get_or items k y → IsDistinct ◌==◌ items → IsTurn b next y items grown → IsSpread b next items k → IsTaken b items grown k y
  one_taken b items grown k y l read distinct turn spread = record {
    came = (found_comes b items y there, absent);
    rest = λ z. (into z, out z);
    last = given;
    spread = λ t u z h n. spread_at b turn spread t u z (Contains-push_cases (take k items) y u (rw given at h)) n;
  }
    where
      there : Contains items y
      there = rw read (Contains-get_or items k y l)

      absent : ¬ (Contains (take k items) y)
      absent = rw read (apart_at items k y l distinct)

      given : take (k + 1) grown ≡ take k items ++ y ∷ []
      given = first_kept b items grown y (k + 1) (omega arith) turn ∙ take_more items k y l ∙ ap (λ v. take k items ++ v ∷ []) (sym read)

      same : (z : ℕ) → IsListed b next grown z ↔ IsListed b next items z
      same = comes_to_same b items grown y there turn

      into : (z : ℕ) → Waits b next grown (k + 1) z → Waits b next items k z × (y ≢ z)
      into z w = (((same z).0 w.0, λ h. w.1 (rw given (Contains-append_left (take k items) (y ∷ []) z h))), λ e. w.1 (rw (given, ← e) (Contains-push (take k items) y)))

      out : (z : ℕ) → Waits b next items k z × (y ≢ z) → Waits b next grown (k + 1) z
      out z w = ((same z).1 (w.0).0, λ h. elim (Contains-push_cases (take k items) y z (rw given at h)) [ inl i ↦ (w.0).1 i | inr e ↦ w.1 e ])

      spread_at : (b : Bool) → IsTurn b next y items grown → IsSpread b next items k → IsTrue b → (u z : ℕ) → Contains (take k items) u ⊎ (y ≡ u) → Contains (next u) z → Contains grown z
      spread_at true g s t u z (inl h) n = (g.exact z).1 (inl (s refl u z h n))
      spread_at true g s t u z (inr e) n = (g.exact z).1 (inr (rw e n))
      spread_at false g s t u z c n = absurd (false≢true t)

  -- nothing is to come where all are given
  pub none_waits : (b : Bool) (items : List ℕ) (k : ℕ) → length items ≤ k → IsSpread b next items k → (z : ℕ) → ¬ (Waits b next items k z)
  none_waits b items k l s z w = w.1 (rw (take_all k items l) (all_found b s w.0))
    where
      closed : (IsTrue true → (y z : ℕ) → Contains (take k items) y → Contains (next y) z → Contains items z) → {x y : ℕ} → Contains items x → Reached next x y → Contains items y
      closed c h itself = h
      closed c h (onward {y} {z} r n) = c refl y z (rw (take_all k items l) (closed c h r)) n

      all_found : (b : Bool) → IsSpread b next items k → IsListed b next items z → Contains items z
      all_found true c r = closed c r.1 r.2
      all_found false c h = h

-- the next one is given of the list of a scratch
module _ (entities : List ℕ) (ids : ℕ → List Id) (old : Work) (size : ℕ) (grown : List ℕ) (y : ℕ) where
  abbrev after : Work
  after = record old { size = size; found = grown; given = old.given + 1 }

  module _ (l : old.given < length old.found) (read : y ≡ get_or old.found old.given 0) (distinct : IsDistinct ◌==◌ old.found)
      (turn : IsTurn old.goes_on (steps entities ids old.is_upward old.relationship) y old.found grown) (listing : IsListing entities ids old) where
    taken : IsTaken (steps entities ids old.is_upward old.relationship) old.goes_on old.found grown old.given y
    taken = one_taken (steps entities ids old.is_upward old.relationship) old.goes_on old.found grown old.given y l (read ∙ get_or_default old.found old.given 0 y l) distinct turn listing

    pub is_given : IsGiven entities ids old y after
    is_given = record { came = taken.came; rest = taken.rest; last = taken.last }

    pub is_listing : IsListing entities ids after
    is_listing = taken.spread

-- none is to come where all are given
pub none_to_come : (entities : List ℕ) (ids : ℕ → List Id) (s : Work) → length s.found ≤ s.given → IsListing entities ids s → (z : ℕ) → ¬ (IsToCome entities ids s z)
none_to_come entities ids s l listing z = none_waits (steps entities ids s.is_upward s.relationship) s.goes_on s.found s.given l listing z
