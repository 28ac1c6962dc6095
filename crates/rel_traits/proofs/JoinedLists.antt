-- Lists that are put together.
use Rattle.std.proofs.Common.{◌≡◌, ◌∙◌, List, [], ◌++◌, ap}

module _ {A : Type 0} where
  -- what was added to nothing
  pub after_none : {start new : List A} (added : List A) → start ≡ [] → new ≡ start ++ added → new ≡ added
  after_none added none is = is ∙ ap (λ xs. xs ++ added) none

  -- what was added to a copy
  pub after_copy : {old seen copied new first : List A} (added : List A) → old ≡ first → seen ≡ old → copied ≡ seen → new ≡ copied ++ added → new ≡ first ++ added
  after_copy added is read copy more = more ∙ ap (λ xs. xs ++ added) (copy ∙ (read ∙ is))
