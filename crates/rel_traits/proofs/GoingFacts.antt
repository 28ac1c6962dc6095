-- What goes with a removed fact.
use Rattle.std.proofs.Common.{◌≡◌, ◌∙◌, ℕ, true, IsTrue, List, ◌∷◌, sym}
use Rattle.std.specs.Prelude.{filter}
use Rattle.std.specs.Cmp.{eq_by_cmp_equiv}
use Rattle.std.specs.List.{Contains, list_any}
use Rattle.ecs_id.specs.Id.{Id}
use Rattle.ecs_model.specs.Added.{mirror}
use Rattle.ecs_model.specs.Map.{keys}
use Rattle.ecs_model.specs.World.{WorldState, Key, key_eq}
use Rattle.ecs_model.specs.steps.FactChanges.{removed}
use Rattle.ecs_model.proofs.Maps.{key_cmp_total}
use Rattle.ecs_model.proofs.Members.{any_passes, passing}
use Rattle.ecs_model.proofs.steps.Facts.{is_held-holds}
use Rattle.ecs_model.proofs.steps.ReplacedFacts.{key_eq_same}
use Rattle.rel_traits.specs.FactLists.{IsListOf, is_fact}
use Rattle.rel_traits.specs.Sees.{Sees}
use Rattle.rel_traits.proofs.SeenWorlds.{is_filter, of_world}

-- who is on a list passes the test of it
pub listed_passes : (xs : List Key) (k : Key) → Contains xs k → list_any (key_eq k) xs ≡ true
listed_passes xs k c = any_passes (key_eq k) xs k c ((eq_by_cmp_equiv key_cmp_total).refl k)

pub passes_listed : (xs : List Key) (k : Key) → list_any (key_eq k) xs ≡ true → Contains xs k
passes_listed xs k t = let x = passing (key_eq k) xs t in rw (key_eq_same k x.0 x.2) x.1

pub tells_removed : (live : List ℕ) (ids : ℕ → List Id) (f : Key) (ks : List Key) → IsListOf (λ z. Contains (f ∷ mirror ids f) z × IsTrue (is_fact ids z)) ks
    → (w : WorldState) → Sees w live ids → ks ≡ filter (λ k. list_any (key_eq k) (removed w f.0 f.1)) (keys w.facts)
tells_removed live ids f ks is w sees =
    let seen = of_world sees (λ live ids. IsListOf (λ z. Contains (f ∷ mirror ids f) z × IsTrue (is_fact ids z)) ks) is in
    is_filter w sees.sound (λ k. list_any (key_eq k) (removed w f.0 f.1)) ks seen.ascends
    (λ k. (
      λ c. let p = (seen.exact k).0 c in (sym (is_held-holds w k.0 k.1) ∙ p.1, listed_passes (removed w f.0 f.1) k p.0),
      λ p. (seen.exact k).1 (passes_listed (removed w f.0 f.1) k p.1, is_held-holds w k.0 k.1 ∙ p.0),
    ))
