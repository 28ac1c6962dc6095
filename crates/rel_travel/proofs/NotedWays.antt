-- Words that say what is found from an entity on.
use Rattle.std.proofs.Common.{◌≡◌, ℕ, ◌<◌, List, [], ◌∷◌, length, sym, ap, ◌∙◌, subst, inl, inr, arith, Option, Some, IfSome}
use Rattle.rel_travel.specs.UpWords.{AllFind, AreKnown, MayNote, told}
use Rattle.rel_travel.specs.declared.path.Step.{Step}

-- a word is noted
pub known_with : (above : ℕ → Option ℕ) (old new : ℕ → ℕ) (i word : ℕ) → MayNote old new i word → IfSome (told word) (λ found. found ≡ above i) → AreKnown above old → AreKnown above new
known_with above old new i word noted here known e = elim (noted e) [
  | inl same ↦ subst (λ w. IfSome (told w) (λ found. found ≡ above e)) (sym same) (known e)
  | inr at ↦ subst (λ w. IfSome (told w) (λ found. found ≡ above e)) (sym at.1) (subst (λ s. IfSome (told word) (λ found. found ≡ above s)) (sym at.0) here)
]

-- what a word says is found from its entity on
pub tells : (above : ℕ → Option ℕ) (words : ℕ → ℕ) (e word : ℕ) (found : Option ℕ) (o : Option (Option ℕ)) → AreKnown above words → word ≡ words e → o ≡ told word → o ≡ Some found → found ≡ above e
tells above words e word found o known at says is = subst (λ t. IfSome t (λ f. f ≡ above e)) (sym (ap told at) ∙ sym says ∙ is) (known e)

-- where a way has more than one step, this is found from the entity of its last step, and from those before
pub way_before : (above : ℕ → Option ℕ) (found : Option ℕ) (f : Step) (fs : List Step) → 0 < length fs → AllFind above found (f ∷ fs) → (above f.index ≡ found) × AllFind above found fs
way_before above found f [] some all = absurd (omega (arith, some))
way_before above found f (g ∷ gs) some all = all
