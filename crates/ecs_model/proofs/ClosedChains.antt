-- One more step closes a chain exactly where its end leads back to its start.
use Rattle.std.proofs.Common.{◌≡◌, ℕ, ◌==◌, ◌⊎◌, Bool, true, false, cond, List, [], ◌∷◌, ◌++◌, refl, sym, inl, inr, arith}
use Rattle.std.specs.List.{Contains}
use Rattle.std.proofs.lemmas.List.Elements.{Contains-push, Contains-push_cases}
use Rattle.ecs_model.specs.Cycles.{HasCycle, after_step}
use Rattle.ecs_model.specs.ReachLaws.{StepsCloseChains}
use Rattle.ecs_model.specs.Reach.{Reached, itself, onward}
use Rattle.ecs_model.proofs.Members.{eq_itself, eq_same}

module _ (next : ℕ → List ℕ) (exclusive : Bool) (s t : ℕ) where
  abbrev after : ℕ → List ℕ
  after = after_step next exclusive s t

  -- a step afterwards is the new one, or one from before
  step_at : (x y : ℕ) (here only : Bool) → (x == s) ≡ here → Contains (cond here (cond only (t ∷ []) (next x ++ t ∷ [])) (next x)) y → ((x ≡ s) × (y ≡ t)) ⊎ Contains (next x) y
  step_at x y true true e h = elim (Contains-push_cases [] t y h) [ inl n ↦ absurd (omega (arith, n.1)) | inr q ↦ inl (eq_same x s e, sym q) ]
  step_at x y true false e h = elim (Contains-push_cases (next x) t y h) [ inl n ↦ inr n | inr q ↦ inl (eq_same x s e, sym q) ]
  step_at x y false only e h = inr h

  a_step : (x y : ℕ) → Contains (after x) y → ((x ≡ s) × (y ≡ t)) ⊎ Contains (next x) y
  a_step x y h = step_at x y (x == s) exclusive refl h

  -- a way afterwards is one from before, or leads by the new step
  a_way : {x y : ℕ} → Reached after x y → Reached next x y ⊎ (Reached next x s × Reached next t y)
  a_way itself = inl itself
  a_way (onward {y} {z} r h) = further (a_way r) (a_step y z h)
    where
      further : {x : ℕ} → Reached next x y ⊎ (Reached next x s × Reached next t y) → ((y ≡ s) × (z ≡ t)) ⊎ Contains (next y) z → Reached next x z ⊎ (Reached next x s × Reached next t z)
      further (inl p) (inl q) = inr (rw (← q.0) p, rw q.1 itself)
      further (inl p) (inr h) = inl (onward p h)
      further (inr p) (inl q) = inr (p.0, rw q.1 itself)
      further (inr p) (inr h) = inr (p.0, onward p.1 h)

  joined : {x y z : ℕ} → Reached next x y → Reached next y z → Reached next x z
  joined r itself = r
  joined r (onward q h) = onward (joined r q) h

  leads_back : ¬ (HasCycle next) → HasCycle after → Reached next t s
  leads_back none c = by (a_step c.0 (c.1).0 (c.1).1) (a_way (c.1).2)
    where
      by : ((c.0 ≡ s) × ((c.1).0 ≡ t)) ⊎ Contains (next c.0) (c.1).0 → Reached next (c.1).0 c.0 ⊎ (Reached next (c.1).0 s × Reached next t c.0) → Reached next t s
      by (inl q) (inl r) = rw (← q.0, ← q.1) r
      by (inl q) (inr p) = rw (← q.1) p.0
      by (inr h) (inl r) = absurd (none (c.0, ((c.1).0, h, r)))
      by (inr h) (inr p) = joined (onward p.1 h) p.0

  -- up to s, a way needs no step from s
  way_kept : {y : ℕ} → Reached next t y → Reached after t s ⊎ Reached after t y
  way_kept itself = inr itself
  way_kept (onward {y} {z} r h) = by (y == s) refl (way_kept r)
    where
      by : (b : Bool) → (y == s) ≡ b → Reached after t s ⊎ Reached after t y → Reached after t s ⊎ Reached after t z
      by b e (inl done) = inl done
      by true e (inr r) = inl (rw (eq_same y s e) at r)
      by false e (inr r) = inr (onward r (rw e h))

  new_step : (only : Bool) → Contains (cond only (t ∷ []) (next s ++ t ∷ [])) t
  new_step true = Contains-push [] t
  new_step false = Contains-push (next s) t

  closes : Reached next t s → HasCycle after
  closes r = (s, (t, rw (eq_itself s) (new_step exclusive), elim (way_kept r) [ inl q ↦ q | inr q ↦ q ]))

pub steps_close_chains : StepsCloseChains
steps_close_chains next none exclusive s t = (leads_back next exclusive s t none, closes next exclusive s t)
