-- What is known where no reason applied.
use Rattle.std.specs.Prelude.{◌≡◌, ℕ, zero, suc, ◌+◌, ◌-◌, ◌<◌, ◌≤◌, Bool, true, false, not, List, ◌∷◌, Option, Some, None, option_map, nat_lt}
use Rattle.std.proofs.Common.{refl, subst, arith}
use Rattle.std.proofs.lemmas.Bool.Decides.{nat_tests}
pub use Rattle.std.proofs.lemmas.Bool.{or_parts as neither, not-false as denied, not-true as refused}
use Rattle.ecs_id.specs.declared.EntityId.{EntityId}
use Rattle.ecs_model.specs.declared.faults.Refusal.{Refusal}
use Rattle.ecs_model.specs.Map.{count_at}
use Rattle.ecs_model.specs.Refusal.{first_reason}
use Rattle.ecs_model.specs.World.{WorldState, is_live, first_index, last_index, first_passing, is_free, next_among}
use Rattle.ecs_model.specs.steps.Outcomes.{next_entity}
use Rattle.ecs_model.proofs.Maps.{both_true}

-- the first reason does not apply, nor those after it
pub passed : (b : Bool) (r : Refusal) (rs : List (Bool × Refusal)) → first_reason ((b, r) ∷ rs) ≡ None → (b ≡ false) × (first_reason rs ≡ None)
passed true r rs h = cc
passed false r rs h = (refl, h)

-- the first number that passes does so, and is one of those that were tried
pub first_passing_is : (test : ℕ → Bool) (n i k : ℕ) → first_passing test n i ≡ Some k → (test k ≡ true) × (i ≤ k) × (k < i + n)
first_passing_is test zero i k h = cc
first_passing_is test (suc n) i k h = by (test i) refl h (first_passing_is test n (i + 1) k)
  where
    by : (b : Bool) → test i ≡ b → elim b [ true ↦ Some i | false ↦ first_passing test n (i + 1) ] ≡ Some k
        → (first_passing test n (i + 1) ≡ Some k → (test k ≡ true) × (i + 1 ≤ k) × (k < i + 1 + n))
        → (test k ≡ true) × (i ≤ k) × (k < i + suc n)
    by true p q rest = let same : i ≡ k = cc in (subst (λ j. test j ≡ true) same p, (omega arith), (omega arith))
    by false p q rest = let found = rest q in (found.0, (omega (arith, found.1)), (omega (arith, found.2)))

below : (m n : ℕ) → nat_lt m n ≡ true → m < n
below m n h = grind (arith, nat_tests)

-- a new entity: its index is given out and free, and its generation how often that index was deleted
pub record IsFree (w : WorldState) (i g : ℕ) : Type 0 where
  pub fresh : is_live w i ≡ false
  pub low : first_index ≤ i
  pub high : i ≤ last_index
  pub generation : g ≡ count_at w.deletions i
  pub few : g < 65536

pub next_is_free : (w : WorldState) (e : EntityId) → next_entity w ≡ Some e → IsFree w e.index e.generation
unfolding next_among
next_is_free w e h = by (first_passing free (last_index - first_index + 1) first_index) refl h
  where
    made : ℕ → EntityId
    made i = record { index = i; generation = count_at w.deletions i }

    free : ℕ → Bool
    free = is_free w.live w.deletions

    by : (o : Option ℕ) → first_passing free (last_index - first_index + 1) first_index ≡ o → option_map made o ≡ Some e → IsFree w e.index e.generation
    by None p q = cc
    by (Some i) p q =
        let same : made i ≡ e = cc in
        let found = first_passing_is free (last_index - first_index + 1) first_index i p in
        let parts = both_true (not (is_live w i)) (nat_lt (count_at w.deletions i) 65536) found.0 in
        subst (λ x. IsFree w x.index x.generation) same
        (record {
          fresh = refused (is_live w i) parts.0;
          low = found.1;
          high = omega (arith, found.2);
          generation = refl;
          few = below (count_at w.deletions i) 65536 parts.1;
        })
