-- Whom a relationship leads to, or from, lives, unless it leads from an entity to itself.
use Rattle.std.proofs.Common.{◌≡◌, ◌⊎◌, ◌↔◌, ℕ, ◌==◌, IsTrue, Bool, true, false, List, sym, ◌∙◌, inl, inr, true≢false}
use Rattle.std.specs.List.{Contains}
use Rattle.ecs_id.specs.Id.{Id}
use Rattle.ecs_model.specs.Links.{AreLinks, IsReached, is_transitive, target_under, upward}
use Rattle.ecs_model.specs.Reach.{Leads, Reached, itself, onward}
use Rattle.ecs_model.proofs.LivePairs.{upward_lives}
use Rattle.ecs_model.proofs.Members.{any_passes, eq_itself, eq_same, from_filter_map, passing}
use Rattle.query_meaning.specs.Variables.{contains}

pub contains_tells : (xs : List ℕ) (y : ℕ) → IsTrue (contains xs y) ↔ Contains xs y
contains_tells xs y = (
  λ h. let f = passing (λ u. u == y) xs h in rw (eq_same f.0 y f.2) at f.1,
  λ h. any_passes (λ u. u == y) xs y h (eq_itself y),
)

pub not_contained : (xs : List ℕ) (y : ℕ) → contains xs y ≡ false → Contains xs y → ⊥
not_contained xs y f h = true≢false (sym ((contains_tells xs y).1 h) ∙ f)

module _ {n : ℕ} {entities : List ℕ} {ids : ℕ → List Id} (links : AreLinks n entities ids) (r : ℕ) where
  pub source_lives : (s x : ℕ) → Contains (upward ids r s) x → Contains entities s
  source_lives s x h = let f = from_filter_map (target_under r) (ids s) x h in links.held s f.0 f.1

  reached_lives : {x y : ℕ} → Reached (upward ids r) x y → Contains entities x → Contains entities y
  reached_lives itself h = h
  reached_lives (onward {y} {z} reached step) h = upward_lives links r y z step

  pub leads_ends : (transitive : Bool) (s t : ℕ) → Leads transitive (upward ids r) s t → Contains entities s × Contains entities t
  leads_ends true s t c = (source_lives s c.0 c.1, reached_lives c.2 (upward_lives links r s c.0 c.1))
  leads_ends false s t h = (source_lives s t h, upward_lives links r s t h)

  pub reach_ends : (s t : ℕ) → IsReached ids r s t → (s ≡ t) ⊎ (Contains entities s × Contains entities t)
  reach_ends s t (inl e) = inl e.1
  reach_ends s t (inr l) = inr (leads_ends (is_transitive ids r) s t l)
