-- The targets of a relationship among an entity's ids, gone through one after another.
use Rattle.std.proofs.Common.{◌≡◌, ℕ, ◌==◌, Bool, true, false, true≢false, List, [], ◌∷◌, Some, refl, sym, arith}
use Rattle.std.specs.List.{Contains, list_any}
use Rattle.id_pattern.specs.declared.Part.TheVariants.{Any, Is}
use Rattle.id_pattern.specs.declared.Pattern.{Pattern}
use Rattle.id_pattern.specs.Patterns.{matches}
use Rattle.ecs_id.specs.Id.{Id, pair, plain}
use Rattle.ecs_model.specs.Links.{targets_in}
use Rattle.world_facts.specs.Climbing.{targets_as}
use Rattle.world_facts.specs.declared.climb.Targets.TheVariants.{Nothing, One, Several}

module _ (r : ℕ) where
  -- the pattern of the pairs of the relationship
  abbrev pub pairs : Pattern
  pairs = record { first = Is r; second = Some Any }

  none_behind : (q u : ℕ) (ids : List Id) (b : Bool) → (q == r) ≡ b → false ≡ list_any (matches pairs) (pair q u ∷ ids) → (false ≡ list_any (matches pairs) ids → targets_in ids r ≡ []) → targets_in (pair q u ∷ ids) r ≡ []
  none_behind q u ids true e h later = absurd (true≢false (sym (rw e at h)))
  none_behind q u ids false e h later = rw e (later (rw e at h))

  pub none_later : (ids : List Id) → false ≡ list_any (matches pairs) ids → targets_in ids r ≡ []
  none_later [] h = refl
  none_later (plain c ∷ ids) h = none_later ids h
  none_later (pair q u ∷ ids) h = none_behind q u ids (q == r) refl h (none_later ids)

  some_behind : (t q u : ℕ) (ids : List Id) (b : Bool) → (q == r) ≡ b → true ≡ list_any (matches pairs) (pair q u ∷ ids) → (true ≡ list_any (matches pairs) ids → Several ≡ targets_as (t ∷ targets_in ids r)) → Several ≡ targets_as (t ∷ targets_in (pair q u ∷ ids) r)
  some_behind t q u ids true e h later = rw e refl
  some_behind t q u ids false e h later = rw e (later (rw e at h))

  pub some_later : (t : ℕ) (ids : List Id) → true ≡ list_any (matches pairs) ids → Several ≡ targets_as (t ∷ targets_in ids r)
  some_later t [] h = absurd cc
  some_later t (plain c ∷ ids) h = some_later t ids h
  some_later t (pair q u ∷ ids) h = some_behind t q u ids (q == r) refl h (some_later t ids)

-- what is known of the targets by how many there are
pub no_target : (ts : List ℕ) → Nothing ≡ targets_as ts → ts ≡ []
no_target [] e = refl
no_target (t ∷ []) e = absurd cc
no_target (t ∷ u ∷ ts) e = absurd cc

pub one_target : (ts : List ℕ) (t : ℕ) → One t ≡ targets_as ts → ts ≡ t ∷ []
one_target [] t e = absurd cc
one_target (u ∷ []) t e = cc
one_target (u ∷ v ∷ ts) t e = absurd cc

pub several_targets : (ts : List ℕ) → Several ≡ targets_as ts → (t : ℕ) × Contains ts t
several_targets [] e = absurd cc
several_targets (t ∷ ts) e = (t, (0, omega arith, refl))
