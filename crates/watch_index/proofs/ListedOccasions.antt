-- Lists that are gone through one by one, until that of an occasion is met.
use Rattle.std.specs.Prelude.{◌≡◌, ℕ, zero, suc, ◌+◌, Bool, true, false, cond, List, [], ◌∷◌, Option, None, Some, slice_get, take}
use Rattle.std.specs.Map.{lookup}
use Rattle.std.proofs.Common.{add-one, ap, inl, inr, sym, ◌∙◌}
use Rattle.std.proofs.lemmas.Bool.{cases_Bool}

module _ {K X : Type 0} (p : K → Bool) where
  none_at : (es : List (K × X)) (i : ℕ) (e : K × X) → slice_get es i ≡ Some e → p e.0 ≡ false → lookup p (take i es) ≡ None → lookup p (take (suc i) es) ≡ None
  none_at [] i e there fails none = cc
  none_at (x ∷ es) zero e there fails none =
      let same : x ≡ e = cc in
      ap (λ (y : K × X). cond (p y.0) (Some x.1) None) same ∙ ap (λ b. cond b (Some x.1) None) fails
  none_at (x ∷ es) (suc i) e there fails none = elim (cases_Bool (p x.0)) [
    | inl is ↦ let found : Some x.1 ≡ None = sym (ap (λ b. cond b (Some x.1) (lookup p (take i es))) is) ∙ none in absurd cc
    | inr isnt ↦
        let rest : lookup p (take i es) ≡ None = sym (ap (λ b. cond b (Some x.1) (lookup p (take i es))) isnt) ∙ none in
        ap (λ b. cond b (Some x.1) (lookup p (take (suc i) es))) isnt ∙ none_at es i e there fails rest
  ]

  -- where one more isn't it
  pub none_more : (es : List (K × X)) (i : ℕ) (e : K × X) → slice_get es i ≡ Some e → p e.0 ≡ false → lookup p (take i es) ≡ None → lookup p (take (i + 1) es) ≡ None
  none_more es i e there fails none = rw add-one (none_at es i e there fails none)
