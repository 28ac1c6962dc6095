-- Searches from one entity after another: what those before the last one left leads to no others, so what is none of it is reached from the last start.
use Rattle.std.proofs.Common.{◌≡◌, ◌↔◌, ◌⊎◌, ℕ, ◌+◌, ◌<◌, ◌≤◌, Bool, true, false, List, [], ◌∷◌, length, get_or, Option, Some, None, refl, sym, ◌∙◌, inl, inr, arith, true≢false}
use Rattle.std.specs.List.{Contains}
use Rattle.std.specs.Prelude.{is_some}
use Rattle.std.proofs.lemmas.Bool.{false≢true}
use Rattle.std.proofs.lemmas.List.Elements.{Contains-append_right, Contains-get_or}
use Rattle.ecs_model.specs.Reach.{Reached, itself, onward, IsReachedFrom}
use Rattle.ecs_model.proofs.Members.{head_or_tail}
use Rattle.rel_travel.specs.Finds.{is_among, with_find}
use Rattle.rel_travel.specs.Followed.{IsClosed, IsFollowed}
use Rattle.rel_travel.specs.Growing.{IsGrownBy}
use Rattle.rel_travel.specs.Ways.{IsSought, IsSoughtFor, IsSoughtFrom}
use Rattle.rel_travel.proofs.Growth.{IsGrownBy-find, IsGrownBy-none, is_among_tells}
use Rattle.rel_travel.proofs.WorkLists.{IsFollowed-all, IsFollowed-more, IsFollowed-none}

not_among : (found : List ℕ) (y : ℕ) → is_among found y ≡ false → ¬ (Contains found y)
not_among found y e h = true≢false (sym ((is_among_tells found y).1 h) ∙ e)

not_in_none : (xs : List ℕ) (y : ℕ) → xs ≡ [] → ¬ (Contains xs y)
not_in_none xs y e h = let i = rw e at h in omega (arith, i.1)

module _ (next : ℕ → List ℕ) where
  -- from what leads to no others nothing else is reached
  stays_in : (left : List ℕ) → IsClosed next left → {x y : ℕ} → Contains left x → Reached next x y → Contains left y
  stays_in left closed h itself = h
  stays_in left closed h (onward {y} {z} r n) = closed y z (stays_in left closed h r) n

  reached_alone : (x t : ℕ) (left : List ℕ) → IsClosed next left → ¬ (Contains left t) → IsReachedFrom next (x ∷ left) t ↔ Reached next x t
  reached_alone x t left closed lacks = (
    λ r. elim (head_or_tail x r.0 left r.1) [ inl e ↦ rw e r.2 | inr h ↦ absurd (lacks (stays_in left closed h r.2)) ],
    λ r. (x, (0, omega arith, refl), r),
  )

  -- all was followed
  pub complete : (start : Option ℕ) (is_alone : Bool) (found : List ℕ) (done : ℕ) → is_some start ≡ true → length found ≤ done → IsSought next start is_alone found done → IsClosed next found
  complete None is_alone found done some l s = absurd (false≢true some)
  complete (Some x) is_alone found done some l s = λ y z h n. s.followed.closed h.0 y (omega (arith, h.1)) h.1 z (rw h.2 n)

  -- a search that begins with nothing left, and one after what leads to no others
  pub sought_first : (x t : ℕ) (is_alone : Bool) (found : List ℕ) (done : ℕ) → found ≡ x ∷ [] → done ≡ 0 → IsSoughtFor next x t is_alone found done
  sought_first x t is_alone found done f d =
      rw (f, d) (record { left = []; closed = λ y z h. absurd (omega (arith, h.1)); none = λ _. refl; followed = IsFollowed-none next (x ∷ []) }, not_in_none [] t refl)

  pub sought_of : (start : Option ℕ) (x : ℕ) (is_alone : Bool) (found : List ℕ) (done : ℕ) → start ≡ Some x → IsSoughtFrom next x is_alone found done → IsSought next start is_alone found done
  sought_of start x is_alone found done is s = rw is s

  pub sought_behind : (x t : ℕ) (found : List ℕ) → IsClosed next found → is_among found t ≡ false → IsSoughtFor next x t false (with_find found x) (length found)
  sought_behind x t found closed lacks = (record { left = found; closed = closed; none = λ e. absurd (false≢true e); followed = followed }, not_among found t lacks)
    where
      grown : IsGrownBy (x ∷ []) found (with_find found x)
      grown = IsGrownBy-find [] found found x (IsGrownBy-none found)

      from_left : (y : ℕ) → Contains found y ⊎ Contains (x ∷ []) y → Contains (x ∷ found) y
      from_left y (inl h) = Contains-append_right (x ∷ []) found y h
      from_left y (inr h) = elim (head_or_tail x y [] h) [ inl e ↦ (0, omega arith, e) | inr n ↦ absurd (omega (arith, n.1)) ]

      followed : IsFollowed next (x ∷ found) (with_find found x) (length found)
      followed = record {
        sound = λ y h. (y, from_left y ((grown.exact y).0 h), itself);
        begun = λ y h. elim (head_or_tail x y found h) [ inl e ↦ (grown.exact y).1 (inr (0, omega arith, e)) | inr i ↦ (grown.exact y).1 (inl i) ];
        closed = λ k d l inside z n. (grown.exact z).1 (inl (closed (get_or found k d) z (Contains-get_or found k d l) (rw (← grown.kept k d l) n)));
      }

  pub sought_on : (x : ℕ) (is_alone : Bool) (found grown : List ℕ) (done more : ℕ) → ((start : List ℕ) → IsFollowed next start found done → IsFollowed next start grown more)
      → IsSoughtFrom next x is_alone found done → IsSoughtFrom next x is_alone grown more
  sought_on x is_alone found grown done more goes_on s = record { left = s.left; closed = s.closed; none = s.none; followed = goes_on (x ∷ s.left) s.followed }

  -- one more step, of whoever began
  pub sought_more : (start : Option ℕ) (is_alone : Bool) (items grown : List ℕ) (done : ℕ) → done < length items → IsGrownBy (next (get_or items done 0)) items grown → IsSought next start is_alone items done
      → IsSought next start is_alone grown (done + 1)
  sought_more None is_alone items grown done l g s = tt
  sought_more (Some x) is_alone items grown done l g s = sought_on x is_alone items grown done (done + 1) (λ start f. IsFollowed-more next start items grown done 0 l f g) s

  module _ (x t : ℕ) (is_alone : Bool) (found : List ℕ) (done : ℕ) where
    -- what isn't found was not left
    pub lacks_left : (s : IsSoughtFrom next x is_alone found done) → (is_alone ≡ true) ⊎ (is_among found t ≡ false) → ¬ (Contains s.left t)
    lacks_left s (inl e) h = not_in_none s.left t (s.none e) h
    lacks_left s (inr e) h = not_among found t e (s.followed.begun t (Contains-append_right (x ∷ []) s.left t h))

    pub sought_for : (start : Option ℕ) → start ≡ Some x → (is_alone ≡ true) ⊎ (is_among found t ≡ false) → IsSought next start is_alone found done → IsSoughtFor next x t is_alone found done
    sought_for start is lacks sought = let s : IsSoughtFrom next x is_alone found done = rw is at sought in (s, lacks_left s lacks)

    module _ (s : IsSoughtFor next x t is_alone found done) where
      -- so it is known whether t is reached
      pub reached_told : (b : Bool) → (b ≡ true ↔ IsReachedFrom next (x ∷ (s.0).left) t) → b ≡ true ↔ Reached next x t
      reached_told b told = let one = reached_alone x t (s.0).left (s.0).closed s.1 in (λ h. one.0 (told.0 h), λ r. told.1 (one.1 r))

      pub found_reached : is_among found t ≡ true → Reached next x t
      found_reached e = (reached_alone x t (s.0).left (s.0).closed s.1).0 ((s.0).followed.sound t ((is_among_tells found t).0 e))

      pub lacking_not_reached : length found ≤ done → is_among found t ≡ false → ¬ (Reached next x t)
      lacking_not_reached l e r =
          let least = IsFollowed-all next (x ∷ (s.0).left) found done l (s.0).followed in
          not_among found t e ((least t).1 ((reached_alone x t (s.0).left (s.0).closed s.1).1 r))
