-- Whomever what has changed may concern stands at a place that is led to.
use Rattle.std.specs.Prelude.{◌≡◌, ℕ, ◌<◌, Bool, true, List, [], ◌∷◌, All, length}
use Rattle.std.specs.List.{Contains}
use Rattle.std.specs.declared.string.String.{String}
use Rattle.std.proofs.Common.{refl, sym, ap, ◌∙◌, arith, get_or}
use Rattle.std.proofs.lemmas.List.{get_or-map}
use Rattle.ecs_model.specs.steps.Outcomes.{Changed}
use Rattle.ecs_model.specs.World.{Key}
use Rattle.watch_touched.specs.Concerned.{has_births_or_deaths}
use Rattle.watch_index.specs.Laws.{WhomChangesConcernTheyLeadTo, may_concern, meets}
use Rattle.watch_index.specs.Occasions.{happening, occasions_of}
use Rattle.watch_index.specs.WatchOrder.{AreLed, Boxed}
use Rattle.ecs_observe.specs.Stored.{AreLedTo, IsFit, entries_in}
use Rattle.watch_stored.specs.declared.stored.StoredQuery.{StoredQuery}
use Rattle.ecs_observe.proofs.Entries.{as_many}

module _ {A : Type 0} (law : WhomChangesConcernTheyLeadTo) (changed : Changed) (bs : List (Boxed (StoredQuery A) A)) (fit : All IsFit bs) (places : List ℕ) (lives : Bool) (came went written : List Key)
    (same_lives : lives ≡ has_births_or_deaths changed) (same_came : came ≡ changed.came) (same_went : went ≡ changed.went) (same_written : written ≡ changed.written)
    (led : AreLed bs (happening lives came went written) places) where
  abbrev concerned : String A × StoredQuery A → Bool
  concerned e = may_concern (e.1).kind ((e.1).plan).query (has_births_or_deaths changed) changed.came changed.went changed.written

  at_place : (i : ℕ) (d : String A × StoredQuery A) (b : Boxed (StoredQuery A) A) → i < length bs → concerned (get_or (entries_in bs) i d) ≡ true → Contains places i
  at_place i d b low h =
      let x = get_or bs i b in
      let q = x.value.value.value in
      let entry : get_or (entries_in bs) i d ≡ (x.value.name, q) = get_or-map (λ (c : Boxed (StoredQuery A) A). (c.value.name, c.value.value.value)) bs i b d low in
      let met : meets (occasions_of q.kind (q.plan).query) (happening (has_births_or_deaths changed) changed.came changed.went changed.written) ≡ true =
      law q.kind (q.plan).query (has_births_or_deaths changed) changed.came changed.went changed.written (ap concerned (sym entry) ∙ h) in
      led i b low
      (ap (λ os. meets os (happening lives came went written)) (fit i b low)
      ∙ (λ j. meets (occasions_of q.kind (q.plan).query) (happening (same_lives j) (same_came j) (same_went j) (same_written j))) ∙ met)

  pub led_to : AreLedTo changed (entries_in bs) places
  led_to i d low h = by bs refl
    where
      by : (cs : List (Boxed (StoredQuery A) A)) → bs ≡ cs → Contains places i
      by [] e = absurd (omega (arith, low, as_many bs, ap length e))
      by (c ∷ cs) e = at_place i d c (omega (arith, low, as_many bs)) h
