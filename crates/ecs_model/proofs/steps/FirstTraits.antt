-- What traits ask of the facts of the first world: each entry is looked at.
use Rattle.std.specs.Prelude.{◌≡◌, ℕ, ◌==◌, Bool, true, false, not, ◌||◌, if◌then◌else◌}
use Rattle.std.specs.List.{list_all}
use Rattle.std.proofs.Common.{refl, sym, ap, ◌∙◌, true≢false}
use Rattle.ecs_id.specs.Id.{Id, plain, pair, id_cmp}
use Rattle.ecs_model.specs.World.{Key, key_cmp, first_world, holds, value_of}
use Rattle.ecs_model.specs.steps.WellFormed.{KeepsTraits}
use Rattle.ecs_model.specs.steps.StepLaws.{FirstWorldIsWellFormed}
use Rattle.ecs_model.proofs.FirstWorld.{entries_pass, first_world_is_sound}
use Rattle.ecs_model.proofs.Maps.{key_cmp_same, some_of}
use Rattle.ecs_model.proofs.Members.{eq_itself, eq_same}
use Rattle.ecs_model.proofs.steps.Facts.{leads_holds}

-- what each entry of the first world passes, a fact passes
fact_passes : (p : Key → Bool) → list_all (λ e. p e.0) first_world.facts ≡ true → (e : ℕ) (i : Id) → holds first_world e i ≡ true → p (e, i) ≡ true
fact_passes p h e i held = let found = some_of (value_of first_world e i) held in entries_pass key_cmp key_cmp_same (λ k x. p k) first_world.facts h (e, i) found.0 found.1

abbrev is_plain : ℕ → Id → Bool
is_plain c (plain d) = c == d
is_plain c (pair r t) = false

-- two pairs of one entity and one relationship have one target
abbrev agree : Key → Key → Bool
agree (e, plain c) k = true
agree (e, pair r t) (f, plain c) = true
agree (e, pair r t) (f, pair q u) = not (e == f) || not (r == q) || t == u

-- a relationship of a pair is not Acyclic
abbrev leads_freely : Key → Bool
leads_freely (e, plain c) = true
leads_freely (e, pair r t) = not (holds first_world r (plain 10))

one_target : (e r t u : ℕ) → holds first_world e (pair r t) ≡ true → holds first_world e (pair r u) ≡ true → t ≡ u
unfolding first_world
one_target e r t u p q =
    let with_all = fact_passes (λ k. list_all (λ j. agree k j.0) first_world.facts) refl e (pair r t) p in
    let both = fact_passes (agree (e, pair r t)) with_all e (pair r u) q in
    eq_same t u (rw (eq_itself e, eq_itself r) at both)

first_traits : KeepsTraits first_world
unfolding first_world key_cmp id_cmp
first_traits = record {
  one_target = λ e r t u x p q. one_target e r t u p q;
  mirrored = λ e r t s p. absurd (true≢false (sym (fact_passes (λ k. not (is_plain 7 k.1)) refl r (plain 7) s)));
  traversable_acyclic = λ r h. fact_passes (λ k. if is_plain 11 k.1 then holds first_world k.0 (plain 10) else true) refl r (plain 11) h;
  no_cycle = λ r a x c.
      let free = fact_passes leads_freely refl x (pair r c.0) (leads_holds first_world r x c.0 c.1) in
      true≢false (sym free ∙ ap not a);
}

pub first_world_keeps_traits : FirstWorldIsWellFormed
first_world_keeps_traits = first_world_is_sound first_traits
