-- An id that concerns no others is asked of no variable's entity, so variables alone decide whether its facts are idle.
use Rattle.std.proofs.Common.{◌≡◌, ℕ, Bool, true, false, List, ap, ◌∙◌}
use Rattle.std.specs.Prelude.{◌==◌, ◌&&◌, not}
use Rattle.std.specs.List.{list_any}
use Rattle.std.proofs.lemmas.Bool.{and_parts, false≢true, or_right}
use Rattle.ecs_id.specs.Id.{Id}
use Rattle.ecs_model.proofs.Members.{any_passes, eq_same, passing}
use Rattle.query_model.specs.declared.query.Ref.{Ref}
use Rattle.query_model.specs.declared.query.Ref.TheVariants.{Is, Var, Any, AnyOnce}
use Rattle.query_model.specs.declared.query.Term.{Term}
use Rattle.query_model.specs.Observers.{is_first}
use Rattle.query_model.specs.Query.{Query}
use Rattle.query_check.specs.Terms.{terms}
use Rattle.watch_concerns.specs.Anchored.{is_variable}
use Rattle.watch_concerns.specs.Idle.{asks_for, term_asks_for}
use Rattle.watch_concerns.specs.Others.{concerns_others, says_how_far, term_concerns_others}

pub any_wider : {X : Type 0} (p r : X → Bool) → ((x : X) → p x ≡ true → r x ≡ true) → (xs : List X) → list_any p xs ≡ true → list_any r xs ≡ true
any_wider p r wider xs h = let found = passing p xs h in any_passes r xs found.0 found.1 (wider found.0 found.2)

other_source : (v : ℕ) (r : Ref) → (v == 0) ≡ false → is_variable v r ≡ true → is_first r ≡ false
other_source v (Is e) other h = absurd (false≢true h)
other_source v (Var u) other h = ap (λ (n : ℕ). n == 0) (eq_same u v h) ∙ other
other_source v Any other h = absurd (false≢true h)
other_source v AnyOnce other h = absurd (false≢true h)

module _ (i : Id) (v : ℕ) (other : (v == 0) ≡ false) where
  of_term : (t : Term) → term_asks_for v i t ≡ true → term_concerns_others i t ≡ true
  of_term t h =
      let parts = and_parts _ _ h in
      let beside = other_source v t.source other parts.0 in
      λ k. not (beside k && not t.closed) && parts.1 k

  pub asked_for_others : (q : Query) → asks_for (terms q) v i ≡ true → concerns_others q i ≡ true
  unfolding concerns_others
  asked_for_others q h = or_right (says_how_far i) (list_any (term_concerns_others i) (terms q)) (any_wider (term_asks_for v i) (term_concerns_others i) of_term (terms q) h)
