-- What is kept of what a query asks decides as the entities of which variables those count who may stand for them.
use Rattle.std.proofs.Common.{◌≡◌, ℕ, true, false, inl, inr, List, sym, ap, ◌∙◌}
use Rattle.std.specs.Prelude.{◌==◌, ◌||◌, not}
use Rattle.std.proofs.lemmas.Bool.{cases_Bool, eqb-true}
use Rattle.ecs_id.specs.Id.{Id}
use Rattle.ecs_model.specs.rows.Level.{Level}
use Rattle.query_check.specs.Terms.{terms}
use Rattle.query_model.specs.Query.{Query}
use Rattle.watch_concerns.specs.Bonds.{are_all_bound, has_directly}
use Rattle.watch_concerns.specs.Idle.{asks_for, is_idle_for, item_lacks_of}
use Rattle.watch_concerns.specs.Roles.{lacks_in, may_stand}
use Rattle.watch_asked.specs.Asked.{TellsIdle, any_counts_as}
use Rattle.watch_asked.specs.declared.asked.AskedOf.{AskedOf}

module _ {A : Type 0} (q : Query) (others : List (AskedOf A)) (tells : TellsIdle q others) (u : ℕ) (ids : List Id) (i : Id) (other : (u == 0) ≡ false) (asks : asks_for (terms q) u i ≡ true) where
  -- a fact is idle for its entity if something is lacked
  idle_by_lack : (l : Level) → is_idle_for ids i (terms q) u l ≡ has_directly (item_lacks_of ids u) l
  idle_by_lack l = λ k. (other k || not (asks k)) || has_directly (item_lacks_of ids u) l

  same : (v : ℕ) (l : Level) → (not (v == u) || is_idle_for ids i (terms q) v l) ≡ lacks_in ids u v l
  same v l = elim (cases_Bool (v == u)) [
    | inl is ↦
        let e : v ≡ u = eqb-true v u is in
        ap (λ b. not (v == u) || b) ((λ k. is_idle_for ids i (terms q) (e k) l) ∙ idle_by_lack l)
    | inr unlike ↦ (λ k. not (unlike k) || is_idle_for ids i (terms q) v l) ∙ sym (λ k. not (unlike k) || has_directly (item_lacks_of ids u) l)
  ]

  pub asked_counts : may_stand q ids u ≡ true → any_counts_as (λ v. v == u) others ids i ≡ true
  unfolding may_stand
  asked_counts may = tells (λ v. v == u) ids i ∙ (λ k. not (are_all_bound (λ v l. same v l k) q)) ∙ may
