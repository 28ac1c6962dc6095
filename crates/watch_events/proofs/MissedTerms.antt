-- An observer whose term matches no fact that has changed has no events.
use Rattle.std.specs.List.{filter, list_any}
use Rattle.std.specs.Option.{option_map_or}
use Rattle.std.proofs.Common.{◌≡◌, ℕ, Bool, false, ◌&&◌, List, [], ◌∷◌, Option, None, cond, map, refl, ap, ◌∙◌, true≢false}
use Rattle.ecs_model.specs.declared.watches.EventKind.TheVariants.{Added, Written}
use Rattle.ecs_model.specs.declared.watches.StoredKind.{StoredKind}
use Rattle.ecs_model.specs.declared.watches.StoredKind.TheVariants.{Kept, Monitor, OnAdd, OnRemove, OnSet}
use Rattle.ecs_model.specs.steps.Outcomes.{Changed}
use Rattle.ecs_model.specs.World.{Key, WorldState, value_of}
use Rattle.ecs_model.specs.rows.Rows.{matches}
use Rattle.ecs_model.specs.stored.Watches.{fact_event, matches_term, only_term}
use Rattle.ecs_model.proofs.Reasons.{neither}
use Rattle.query_model.specs.Query.{Query}
use Rattle.query_model.specs.declared.query.Term.{Term}
use Rattle.watch_concerns.specs.Since.{removed_event, told_since}
use Rattle.watch_events.specs.Hits.{any_matches, may_tell}

-- where no element passes the first test, none passes both
none_both : {X : Type 0} (p q : X → Bool) (xs : List X) → list_any p xs ≡ false → filter (λ x. p x && q x) xs ≡ []
none_both p q [] none = refl
none_both p q (x ∷ xs) none =
    let parts = neither (p x) (list_any p xs) none in
    ap (λ b. cond (b && q x) (x ∷ filter (λ y. p y && q y) xs) (filter (λ y. p y && q y) xs)) parts.0 ∙ none_both p q xs parts.1

-- what a query asks is what its one term asks
pub by_term : (q : Query) (o : Option Term) (ks : List Key) → o ≡ only_term q.pieces → list_any (λ k. option_map_or (λ t. matches [] t.component t.target k.1) o false) ks ≡ any_matches q ks
by_term q o ks e = ap (λ x. list_any (λ k. option_map_or (λ (t : Term). matches [] t.component t.target k.1) x false) ks) e

pub none_match : (ks : List Key) → false ≡ list_any (λ k. false) ks
none_match [] = refl
none_match (k ∷ ks) = none_match ks

module _ (w : WorldState) (c : Changed) (name : List ℕ) (q : Query) (old : List ℕ) where
  pub none_told : (kind : StoredKind) → may_tell c kind q ≡ false → told_since w c name kind q old ≡ []
  unfolding told_since
  none_told Kept none = refl
  none_told Monitor none = absurd (true≢false none)
  none_told OnAdd none = ap (map (fact_event name Added w (λ k. None))) (none_both (λ k. matches_term q k.1) _ c.came none)
  none_told OnRemove none = ap (map (removed_event w c name)) (none_both (λ k. matches_term q k.1) _ c.went none)
  none_told OnSet none = ap (map (fact_event name Written w (λ k. value_of w k.0 k.1))) (none_both (λ k. matches_term q k.1) _ c.written none)
