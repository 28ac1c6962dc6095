-- What follows for a world that a graph shows.
use Rattle.std.proofs.Common.{◌≡◌, ◌↔◌, ◌∙◌, ℕ, Bool, IsTrue, List, sym, subst, arith}
use Rattle.std.specs.Prelude.{filter, not}
use Rattle.std.specs.List.{All, Contains}
use Rattle.std.specs.List.Sorted.{IsStrictlySortedBy}
pub use Rattle.rel_travel.proofs.ForbiddenDeletions.{mentioned_below}
use Rattle.ecs_id.specs.Id.{Id, plain, pair, first_of, mentioned}
use Rattle.ecs_model.specs.Map.{keys, without}
use Rattle.ecs_model.specs.World.{WorldState, Key, key_cmp, entities, holds, ids_of}
use Rattle.ecs_model.proofs.Maps.{key_cmp_same, key_cmp_total}
use Rattle.ecs_model.proofs.Members.{filtered}
use Rattle.ecs_model.proofs.Removals.{IsMap-without}
use Rattle.ecs_model.proofs.steps.Differences.{keys-without}
use Rattle.ecs_model.proofs.steps.Facts.{key_there, there_key}
use Rattle.ecs_model.specs.steps.WellFormed.{IsWellFormed}
use Rattle.rel_traits.specs.Sees.{Sees}
use Rattle.rel_traits.proofs.UniqueLists.{is_keys}

-- what is said of the live entities and their ids, is said of the world's
pub of_world : {w : WorldState} {live : List ℕ} {ids : ℕ → List Id} → Sees w live ids → (Q : List ℕ → (ℕ → List Id) → Type 0) → Q live ids → Q (entities w) (ids_of w)
of_world {w = w} {live = live} {ids = ids} sees Q q =
    let same : ids_of w ≡ ids = λ j e. sees.ids_are e j in
    subst (λ es. Q es (ids_of w)) (sym sees.live_are) (subst (λ f. Q live f) (sym same) q)

-- the component or relationship is mentioned
pub of_first : (P : ℕ → Type 0) (i : Id) → All P (mentioned i) → P (first_of i)
of_first P (plain c) a = a 0 c (omega arith)
of_first P (pair r t) a = a 0 r (omega arith)

-- a list that rises, of the held facts that pass a test
pub is_filter : (w : WorldState) → IsWellFormed w → (p : Key → Bool) (ks : List Key) → IsStrictlySortedBy key_cmp ks → ((k : Key) → Contains ks k ↔ (IsTrue (holds w k.0 k.1) × IsTrue (p k)))
    → ks ≡ filter p (keys w.facts)
is_filter w h p ks s exact =
    is_keys key_cmp key_cmp_total key_cmp_same (without key_cmp w.facts (λ k. not (p k))) (IsMap-without w.facts (λ k. not (p k)) (h.in_order).facts) ks s
    (λ k. (
      λ c. let f = (exact k).0 c in subst (λ xs. Contains xs k) (sym (keys-without key_cmp w.facts p)) ((filtered p (keys w.facts) k).1 (key_there key_cmp key_cmp_same w.facts k f.0, f.1)),
      λ c. let f = (filtered p (keys w.facts) k).0 (subst (λ xs. Contains xs k) (keys-without key_cmp w.facts p) c) in (exact k).1 (there_key key_cmp key_cmp_total w.facts k f.0, f.1),
    ))
    ∙ keys-without key_cmp w.facts p
