-- The test of what a relationship reaches decides it.
use Rattle.std.proofs.Common.{◌≡◌, ℕ, ◌-◌, ◌==◌, ◌⊎◌, ◌↔◌, Bool, true, false, cond, ◌&&◌, ◌||◌, List, length, inl, inr, arith, IsTrue}
use Rattle.ecs_id.specs.Id.{Id, pair}
use Rattle.ecs_model.specs.Links.{AreLinks, IsReached, is_held, is_reflexive, is_transitive, reaches, upward}
use Rattle.ecs_model.specs.Reach.{HasChain, Leads}
use Rattle.ecs_model.specs.ReachLaws.{ReachIsComputed}
use Rattle.ecs_model.specs.Sets.{has_chain}
use Rattle.ecs_model.proofs.LivePairs.{held_leads, leads_held, upward_lives}
use Rattle.ecs_model.proofs.LeastSets.{chains_are_short}
use Rattle.ecs_model.proofs.Members.{and_true, both, eq_itself, eq_same, from_or, or_left, or_right}

module _ {n : ℕ} {entities : List ℕ} {ids : ℕ → List Id} (links : AreLinks n entities ids) (r s t : ℕ) where
  chains : IsTrue (has_chain (upward ids r) (length entities - 1) s t) ↔ HasChain (upward ids r) s t
  chains = chains_are_short (upward ids r) (length entities - 1) entities (omega arith) (upward_lives links r) s t

  leads_at : (transitive : Bool) → IsTrue (cond transitive (has_chain (upward ids r) (length entities - 1) s t) (is_held (ids s) (pair r t))) ↔ Leads transitive (upward ids r) s t
  leads_at true = chains
  leads_at false = (held_leads ids r s t, leads_held ids r s t)

  tells_at : (reflexive transitive : Bool) → IsTrue (reflexive && s == t || cond transitive (has_chain (upward ids r) (length entities - 1) s t) (is_held (ids s) (pair r t)))
      ↔ ((IsTrue reflexive × (s ≡ t)) ⊎ Leads transitive (upward ids r) s t)
  tells_at reflexive transitive =
      let leads = leads_at transitive in
      let step = cond transitive (has_chain (upward ids r) (length entities - 1) s t) (is_held (ids s) (pair r t)) in (
        λ h. elim (from_or (reflexive && s == t) step h) [ inl e ↦ let p = both reflexive (s == t) e in inl (p.0, eq_same s t p.1) | inr l ↦ inr (leads.0 l) ],
        λ h. elim h [ inl p ↦ or_left (reflexive && s == t) step (and_true reflexive (s == t) p.0 (rw p.1 (eq_itself t))) | inr l ↦ or_right (reflexive && s == t) step (leads.1 l) ],
      )

  pub reaches_tells : IsTrue (reaches ids entities r s t) ↔ IsReached ids r s t
  unfolding reaches
  reaches_tells = tells_at (is_reflexive ids r) (is_transitive ids r)

pub reach_is_computed : ReachIsComputed
reach_is_computed n entities ids links r s t = reaches_tells links r s t
