-- Who has died by a command: at each index the entity that lived before and doesn't after, with the name that it had.
use Rattle.std.specs.Prelude.{◌≡◌, ℕ, ◌==◌, Bool, true, false, not, List, [], ◌∷◌, map, Option, Some, None, option_map, cond}
use Rattle.std.specs.List.{find}
use Rattle.std.specs.Ordering.{nat_cmp, eq_by_cmp}
use Rattle.std.proofs.Common.{refl, sym, ap, ◌∙◌, arith}
use Rattle.std.proofs.lemmas.Bool.Decides.{nat_tests}
use Rattle.ecs_model.specs.steps.Outcomes.{differences}
use Rattle.ecs_model.specs.Map.{Map, value_at, without}
use Rattle.ecs_model.specs.World.{WorldState, Key, is_live}
use Rattle.ecs_model.proofs.Members.{eq_same}
use Rattle.ecs_model.proofs.steps.Differences.{with_name}
use Rattle.watch_concerns.specs.Since.{Dead, died_at}

-- the order of numbers ties where they are one
pub ties : (i j : ℕ) → eq_by_cmp nat_cmp i j ≡ (j == i)
ties i j = grind (arith, nat_tests)

either : (b : Bool) (o : Option Dead) → o ≡ cond b o o
either true o = refl
either false o = refl

module _ (w : WorldState) (i : ℕ) where
  abbrev at_index : Dead → Bool
  at_index d = (d.0).index == i

  -- what has this index, of those whose index doesn't pass
  found_dead : (test : ℕ → Bool) (m : Map ℕ ℕ)
      → find at_index (map (with_name w) (without nat_cmp m test)) ≡ cond (test i) None (option_map (λ g. with_name w (i, g)) (value_at nat_cmp m i))
  found_dead test [] = either (test i) None
  found_dead test (e ∷ es) = by (e.0 == i) refl (test e.0) refl (found_dead test es)
    where
      rest : Option Dead
      rest = find at_index (map (with_name w) (without nat_cmp es test))

      here : (b : Bool) → (e.0 == i) ≡ b
          → cond (test i) None (option_map (λ g. with_name w (i, g)) (value_at nat_cmp (e ∷ es) i))
          ≡ cond (test i) None (option_map (λ g. with_name w (i, g)) (cond b (Some e.1) (value_at nat_cmp es i)))
      here b s = ap (λ b. cond (test i) None (option_map (λ g. with_name w (i, g)) (cond b (Some e.1) (value_at nat_cmp es i)))) (ties i e.0 ∙ s)

      split : (b c : Bool) → (e.0 == i) ≡ b → test e.0 ≡ c → find at_index (map (with_name w) (without nat_cmp (e ∷ es) test)) ≡ cond (not c) (cond b (Some (with_name w e)) rest) rest
      split b c s t =
          ap (λ c. find at_index (map (with_name w) (cond (not c) (e ∷ without nat_cmp es test) (without nat_cmp es test)))) t ∙ by_test c
        where
          by_test : (c : Bool) → find at_index (map (with_name w) (cond (not c) (e ∷ without nat_cmp es test) (without nat_cmp es test))) ≡ cond (not c) (cond b (Some (with_name w e)) rest) rest
          by_test true = refl
          by_test false = ap (λ b. cond b (Some (with_name w e)) rest) s

      by : (b : Bool) → (e.0 == i) ≡ b → (c : Bool) → test e.0 ≡ c
          → rest ≡ cond (test i) None (option_map (λ g. with_name w (i, g)) (value_at nat_cmp es i))
          → find at_index (map (with_name w) (without nat_cmp (e ∷ es) test)) ≡ cond (test i) None (option_map (λ g. with_name w (i, g)) (value_at nat_cmp (e ∷ es) i))
      by true s true t r =
          let passes : test i ≡ true = sym (ap test (eq_same e.0 i s)) ∙ t in
          let none : (o : Option Dead) → cond (test i) None o ≡ None = λ o. ap (λ b. cond b None o) passes in
          split true true s t ∙ (r ∙ (none _ ∙ sym (none _)))
      by true s false t r =
          let same = eq_same e.0 i s in
          let fails : test i ≡ false = sym (ap test same) ∙ t in
          split true false s t
          ∙ (ap (λ x. Some (with_name w (x, e.1))) same
          ∙ (ap (λ b. cond b None (Some (with_name w (i, e.1)))) (sym fails)
          ∙ sym (here true s)))
      by false s true t r = split false true s t ∙ (r ∙ sym (here false s))
      by false s false t r = split false false s t ∙ (r ∙ sym (here false s))

  -- who has died at an index, in what differs between two worlds
  pub died-differences : (v : WorldState) (written : List Key)
      → died_at v (differences w v written) i ≡ cond (is_live v i) None (option_map (λ g. with_name w (i, g)) (value_at nat_cmp w.live i))
  unfolding differences
  died-differences v written = found_dead (is_live v) w.live
