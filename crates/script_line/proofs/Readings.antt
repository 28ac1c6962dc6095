-- Lists that are read item by item, where each item has to be readable.
use Rattle.std.proofs.Common.{◌≡◌, List, [], ◌∷◌, ◌++◌, Option, Some, None, option_map, option_and_then, refl, ap, ◌∙◌, sym, append_assoc}
use Rattle.ecs_model.specs.Script.{all_of}

-- xs give what was read, ys, and then what the rest gives
abbrev pub IsReadSoFar : {A B : Type 0} → (A → Option B) → List A → List B → List A → Type 0
IsReadSoFar f xs ys rest = all_of f xs ≡ option_map (λ zs. ys ++ zs) (all_of f rest)

-- nothing is read
pub read_none : {A B : Type 0} (f : A → Option B) (xs : List A) → IsReadSoFar f xs [] xs
read_none f xs = elim (all_of f xs) as (λ o. o ≡ option_map (λ zs. [] ++ zs) o) [ None ↦ refl | Some zs ↦ refl ]

-- after ys stands y
joined : {B : Type 0} (ys : List B) (y : B) (o : Option (List B)) → option_map (λ zs. ys ++ zs) (option_map (λ zs. y ∷ zs) o) ≡ option_map (λ zs. (ys ++ y ∷ []) ++ zs) o
joined ys y None = refl
joined ys y (Some zs) = ap Some (sym (append_assoc ys (y ∷ []) zs))

-- the next item
next_item : {A B : Type 0} (f : A → Option B) (xs : List A) (ys : List B) (rest : List A) (x : A) (behind : List A) (o : Option B) → IsReadSoFar f xs ys rest → rest ≡ x ∷ behind → f x ≡ o → all_of f xs ≡ option_map (λ zs. ys ++ zs) (option_and_then (λ y. option_map (λ zs. y ∷ zs) (all_of f behind)) o)
next_item f xs ys rest x behind o h e fx =
    h ∙ ap (λ r. option_map (λ zs. ys ++ zs) (all_of f r)) e ∙ ap (λ a. option_map (λ zs. ys ++ zs) (option_and_then (λ y. option_map (λ zs. y ∷ zs) (all_of f behind)) a)) fx

-- one more item
pub read_more : {A B : Type 0} (f : A → Option B) (xs : List A) (ys : List B) (rest : List A) (x : A) (behind : List A) (y : B) → IsReadSoFar f xs ys rest → rest ≡ x ∷ behind → f x ≡ Some y → IsReadSoFar f xs (ys ++ y ∷ []) behind
read_more f xs ys rest x behind y h e fx = next_item f xs ys rest x behind (Some y) h e fx ∙ joined ys y (all_of f behind)
