-- A list that grows while it is gone through: at the end it is the least one that holds the start and all that follows from its members.
use Rattle.std.proofs.Common.{◌≡◌, ℕ, ◌+◌, ◌<◌, ◌≤◌, ◌⊎◌, List, length, get_or, ◌∙◌, inl, inr, arith}
use Rattle.std.specs.List.{Contains}
use Rattle.std.proofs.lemmas.Bool.{cases_lt}
use Rattle.std.proofs.lemmas.List.{get_or_default}
use Rattle.std.proofs.lemmas.List.Elements.{Contains-get_or}
use Rattle.ecs_model.specs.Reach.{Reached, itself, onward, IsReachedFrom, IsLeast}
use Rattle.rel_travel.specs.Followed.{IsFollowed}
use Rattle.rel_travel.specs.Growing.{IsGrownBy}

module _ {A : Type 0} where
  pub IsFollowed-none : (next : A → List A) (start : List A) → IsFollowed next start start 0
  IsFollowed-none next start = record {
    sound = λ y h. (y, h, itself);
    begun = λ y h. h;
    closed = λ k d l. absurd (omega arith);
  }

  -- what is reached from a start, followed one more step
  one_more_step : (next : A → List A) (start : List A) (y z : A) → IsReachedFrom next start y → Contains (next y) z → IsReachedFrom next start z
  one_more_step next start y z r h = (r.0, r.1, onward r.2 h)

  pub IsFollowed-more : (next : A → List A) (start items grown : List A) (done : ℕ) (d : A) → done < length items → IsFollowed next start items done
      → IsGrownBy (next (get_or items done d)) items grown → IsFollowed next start grown (done + 1)
  IsFollowed-more next start items grown done d l f g = record {
    sound = λ y h. sound_at y ((g.exact y).0 h);
    begun = λ y h. (g.exact y).1 (inl (f.begun y h));
    closed = λ k e below inside z h. closed_at k e below z h;
  }
    where
      sound_at : (y : A) → Contains items y ⊎ Contains (next (get_or items done d)) y → IsReachedFrom next start y
      sound_at y (inl h) = f.sound y h
      sound_at y (inr h) = one_more_step next start (get_or items done d) y (f.sound _ (Contains-get_or items done d l)) h

      closed_at : (k : ℕ) (e : A) → k < done + 1 → (z : A) → Contains (next (get_or grown k e)) z → Contains grown z
      closed_at k e below z h =
          elim (cases_lt k done) [
            | inl before ↦ (g.exact z).1 (inl (f.closed k e before (omega arith) z (rw (← g.kept k e (omega arith)) h)))
            | inr last ↦
                let same : k ≡ done = omega arith in
                let read : get_or grown k e ≡ get_or items done d = rw same (g.kept done e l ∙ get_or_default items done e d l) in
                (g.exact z).1 (inr (rw (← read) h))
          ]

  -- what is reached from a member is a member
  stays_in : (next : A → List A) (start items : List A) (done : ℕ) → length items ≤ done → IsFollowed next start items done
      → {x y : A} → Contains items x → Reached next x y → Contains items y
  stays_in next start items done l f h itself = h
  stays_in next start items done l f h (onward {y} {z} r n) =
      let m = stays_in next start items done l f h r in
      f.closed m.0 y (omega arith) m.1 z (rw m.2 n)

  pub IsFollowed-all : (next : A → List A) (start items : List A) (done : ℕ) → length items ≤ done → IsFollowed next start items done → IsLeast next start items
  IsFollowed-all next start items done l f y = (f.sound y, λ r. stays_in next start items done l f (f.begun r.0 r.1) r.2)
