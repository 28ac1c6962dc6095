-- Where a term leads from the entity of one variable to that of one after it, a step is kept that does.
use Rattle.std.proofs.Common.{◌≡◌, ℕ, ◌<◌, Bool, true, false, List, [], ◌∷◌, refl, sym, ap, ◌∙◌, subst, arith}
use Rattle.std.specs.Prelude.{◌&&◌, nat_lt, flat_map, Option, Some, None, if◌then◌else◌}
use Rattle.std.specs.List.{Contains}
use Rattle.std.proofs.lemmas.Bool.{and_parts, false≢true, ltb-true}
use Rattle.id_pattern.specs.Patterns.{matches}
use Rattle.ecs_id.specs.Id.{Id}
use Rattle.ecs_model.proofs.Members.{in_flat_map, passing}
use Rattle.ecs_model.proofs.steps.LivingIds.{refuted}
use Rattle.query_check.specs.Terms.{terms}
use Rattle.query_model.specs.declared.query.Ref.{Ref}
use Rattle.query_model.specs.declared.query.Ref.TheVariants.{Var}
use Rattle.query_model.specs.declared.query.Term.{Term}
use Rattle.query_model.specs.Query.{Query}
use Rattle.watch_concerns.specs.Anchored.{may_be_variable}
use Rattle.watch_concerns.specs.Concerns.{may_match}
use Rattle.watch_concerns.specs.Roles.{joins, leads_in, leads_out}
use Rattle.watch_concerns.proofs.TiedQueries.{the_variable}
use Rattle.watch_asked.specs.Asked.{asked_by, steps_between, steps_by, steps_of}
use Rattle.watch_asked.specs.declared.steps.LinkStep.{LinkStep}
use Rattle.watch_asked.proofs.AskedPatterns.{matched}

-- a step from the entity of u to that of v, by a pair that the one or the other holds
pub record HasStep (q : Query) (u v : ℕ) (outward : Bool) (i : Id) : Type 0 where
  pub step : LinkStep
  pub among : Contains (flat_map steps_of (terms q)) step
  pub from : step.from ≡ u
  pub to : step.to ≡ v
  pub is : step.outward ≡ outward
  pub passes : matches step.asked i ≡ true

the_target : (u : ℕ) (o : Option Ref) → may_be_variable u o ≡ true → o ≡ Some (Var u)
the_target u None h = absurd (false≢true h)
the_target u (Some r) h = ap Some (the_variable u r h)

alone : (s : LinkStep) → Contains (s ∷ []) s
alone s = (0, omega arith, refl)

-- a term leads as its source and its target say
term_steps : (s v : ℕ) (t : Term) → joins s v t ≡ true → steps_of t ≡ steps_between s v (asked_by t.component t.target)
term_steps s v t h =
    let outer = and_parts _ _ h in
    let inner = and_parts _ _ outer.0 in
    let source = the_variable s t.source inner.1 in
    let target = the_target v t.target outer.1 in
    ap (λ b. if b then steps_by t.source t.target (asked_by t.component t.target) else []) inner.0
    ∙ (λ k. steps_by (source k) (target k) (asked_by t.component t.target))

module _ (q : Query) (u v : ℕ) (i : Id) where
  pub out_step : leads_out (λ v t. true) q u v i ≡ true → HasStep q u v true i
  unfolding leads_out
  out_step h =
      let both = and_parts _ _ h in
      let found = passing (λ t. joins u v t && may_match t.component t.target i) (terms q) both.1 in
      let t : Term = found.0 in
      let tests = and_parts _ _ found.2 in
      let p = asked_by t.component t.target in
      let step : LinkStep = record { from = u; to = v; asked = p; outward = true } in
      let more = if nat_lt v u then record { from = v; to = u; asked = p; outward = false } ∷ [] else [] in
      let are : steps_of t ≡ step ∷ [] = term_steps u v t tests.0 ∙ ap (λ b. if b then step ∷ [] else more) both.0 in
      record {
        step = step;
        among = in_flat_map steps_of (terms q) t step found.1 (subst (λ (ss : List LinkStep). Contains ss step) (sym are) (alone step));
        from = refl;
        to = refl;
        is = refl;
        passes = matched t.component t.target i ∙ tests.1;
      }

  pub in_step : leads_in (λ v t. true) q u v i ≡ true → HasStep q u v false i
  unfolding leads_in
  in_step h =
      let both = and_parts _ _ h in
      let found = passing (λ t. joins v u t && may_match t.component t.target i) (terms q) both.1 in
      let t : Term = found.0 in
      let tests = and_parts _ _ found.2 in
      let p = asked_by t.component t.target in
      let step : LinkStep = record { from = u; to = v; asked = p; outward = false } in
      let other : LinkStep = record { from = v; to = u; asked = p; outward = true } in
      let below : u < v = ltb-true u v both.0 in
      let high : nat_lt v u ≡ false = refuted (nat_lt v u) (λ k. let low : v < u = ltb-true v u k in omega (arith, below, low)) in
      let are : steps_of t ≡ step ∷ [] =
      term_steps v u t tests.0
      ∙ ap (λ b. if b then other ∷ [] else if nat_lt u v then step ∷ [] else []) high
      ∙ ap (λ b. if b then step ∷ [] else []) both.0 in
      record {
        step = step;
        among = in_flat_map steps_of (terms q) t step found.1 (subst (λ (ss : List LinkStep). Contains ss step) (sym are) (alone step));
        from = refl;
        to = refl;
        is = refl;
        passes = matched t.component t.target i ∙ tests.1;
      }
