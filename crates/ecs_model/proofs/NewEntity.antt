-- The entity that is live in a world and was not in the one before.
use Rattle.std.specs.Prelude.{◌≡◌, ℕ, Bool, true, false, not, ◌&&◌, List, [], ◌∷◌, Option, Some, None, is_some, option_map, cond}
use Rattle.std.specs.List.{find, list_all}
use Rattle.std.specs.FinMap.Entries.{by_order}
use Rattle.std.specs.FinMap.{nat_cmp-IsAntisymmetric}
use Rattle.std.specs.Option.{option_map_or}
use Rattle.std.specs.Ordering.{nat_cmp, eq_by_cmp}
use Rattle.std.specs.declared.cmp.Ordering.{Ordering}
use Rattle.std.specs.declared.cmp.Ordering.TheVariants.{Less, Equal, Greater}
use Rattle.std.specs.Cmp.{nat_cmp_total}
use Rattle.std.proofs.Common.{refl, sym, ap, subst, ◌∙◌, inl, inr, true≢false}
use Rattle.ecs_id.specs.declared.EntityId.{EntityId}
use Rattle.ecs_model.specs.Map.{Map, value_at, has_key, with_value, keys}
use Rattle.ecs_model.specs.Schema.{Schema}
use Rattle.ecs_model.specs.World.{WorldState, is_live, entities, entity_at}
use Rattle.ecs_model.specs.steps.Outcomes.{next_entity, counted, with_born, with_named, with_component}
use Rattle.ecs_model.proofs.Maps.{both_true, nat_value_at, eq_itself}
use Rattle.ecs_model.proofs.Reasons.{next_is_free}
use Rattle.ecs_model.proofs.Births.{all_more}

still_there : {X : Type 0} (e : ℕ × X) (m : Map ℕ X) (j : ℕ) → has_key nat_cmp m j ≡ true → has_key nat_cmp (e ∷ m) j ≡ true
still_there e m j h = by (eq_by_cmp nat_cmp j e.0)
  where
    by : (b : Bool) → is_some (cond b (Some e.1) (value_at nat_cmp m j)) ≡ true
    by true = refl
    by false = h

-- each key of a map is there
own_keys : {X : Type 0} (m : Map ℕ X) → list_all (has_key nat_cmp m) (keys m) ≡ true
own_keys [] = refl
own_keys (e ∷ es) = λ i. first i && all_more (has_key nat_cmp es) (has_key nat_cmp (e ∷ es)) (still_there e es) (keys es) (own_keys es) i
  where
    first : has_key nat_cmp (e ∷ es) e.0 ≡ true
    first = ap (λ b. is_some (cond b (Some e.1) (value_at nat_cmp es e.0))) (eq_itself nat_cmp nat_cmp_total e.0)

pub none_found : (test : ℕ → Bool) (xs : List ℕ) → list_all test xs ≡ true → find (λ x. not (test x)) xs ≡ None
none_found test [] h = refl
none_found test (x ∷ xs) h =
    let parts = both_true (test x) (list_all test xs) h in λ i. cond (not (parts.0 i)) (Some x) (none_found test xs parts.1 i)

-- of a map and one more key, the new key alone fails what all others pass
new_found : {X : Type 0} (test : ℕ → Bool) (m : Map ℕ X) (k : ℕ) (x : X) → list_all test (keys m) ≡ true → test k ≡ false
    → find (λ j. not (test j)) (keys (with_value nat_cmp m k x)) ≡ Some k
new_found test [] k x h new = ap (λ b. cond (not b) (Some k) None) new
new_found test (e ∷ es) k x h new =
    let parts = both_true (test e.0) (list_all test (keys es)) h in by (nat_cmp k e.0) refl parts.0 (new_found test es k x parts.1 new)
  where
    by : (r : Ordering) → nat_cmp k e.0 ≡ r → test e.0 ≡ true → find (λ j. not (test j)) (keys (with_value nat_cmp es k x)) ≡ Some k
        → find (λ j. not (test j)) (keys (by_order r ((k, x) ∷ e ∷ es) ((e.0, x) ∷ es) (e ∷ with_value nat_cmp es k x))) ≡ Some k
    by Less p old rest = ap (λ b. cond (not b) (Some k) (find (λ j. not (test j)) (keys (e ∷ es)))) new
    by Equal p old rest =
        let same : k ≡ e.0 = nat_cmp-IsAntisymmetric k e.0 p in absurd (true≢false (sym old ∙ subst (λ j. test j ≡ false) same new))
    by Greater p old rest = ap (λ b. cond (not b) (Some e.0) (find (λ j. not (test j)) (keys (with_value nat_cmp es k x)))) old ∙ rest

-- the entity that is live in a world and was not in the one before
abbrev pub born : WorldState → WorldState → Option EntityId
born w v = option_map_or (entity_at v) (find (λ i. not (is_live w i)) (entities v)) None

pub none_born : (w v : WorldState) → v.live ≡ w.live → born w v ≡ None
none_born w v same =
    let none : find (λ i. not (is_live w i)) (keys w.live) ≡ None = none_found (is_live w) (keys w.live) (own_keys w.live) in
    ap (λ o. option_map_or (entity_at v) o None) (ap (λ m. find (λ i. not (is_live w i)) (keys m)) same ∙ none)

one_born : (w v : WorldState) (e : EntityId) → is_live w e.index ≡ false → v.live ≡ with_value nat_cmp w.live e.index e.generation → born w v ≡ Some e
one_born w v e fresh same =
    let one = new_found (is_live w) w.live e.index e.generation (own_keys w.live) fresh in
    ap (λ o. option_map_or (entity_at v) o None) (ap (λ m. find (λ i. not (is_live w i)) (keys m)) same ∙ one) ∙ at_index
  where
    at_index : entity_at v e.index ≡ Some e
    at_index =
        elim (nat_value_at w.live e.index e.generation e.index) [
          | inl p ↦ ap (λ o. option_map (λ g. record { index = e.index; generation = g }) o) (ap (λ m. value_at nat_cmp m e.index) same ∙ p.1)
          | inr p ↦ absurd (p.0 refl)
        ]

pub fresh_born : (w : WorldState) (o : Option EntityId) → next_entity w ≡ o → born w (counted (with_born w o)) ≡ o
unfolding with_born
fresh_born w None next = none_born w (counted w) refl
fresh_born w (Some e) next = one_born w (counted (with_born w (Some e))) e (next_is_free w e next).fresh refl

pub named_born : (w : WorldState) (n : List ℕ) (o : Option EntityId) → next_entity w ≡ o → born w (counted (with_named w n o)) ≡ o
unfolding with_named
named_born w n None next = none_born w (counted w) refl
named_born w n (Some e) next = one_born w (counted (with_named w n (Some e))) e (next_is_free w e next).fresh refl

pub component_born : (w : WorldState) (n : List ℕ) (s : Schema) (o : Option EntityId) → next_entity w ≡ o → born w (counted (with_component w n s o)) ≡ o
unfolding with_component
component_born w n s None next = none_born w (counted w) refl
component_born w n s (Some e) next = one_born w (counted (with_component w n s (Some e))) e (next_is_free w e next).fresh refl
