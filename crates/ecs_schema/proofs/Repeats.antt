-- What is wrong with the fields that names and kinds give.
use Rattle.std.proofs.Common.{◌≡◌, ℕ, ◌+◌, Bool, false, not, cond, ltb, eqb, ◌||◌, List, [], ◌∷◌, map, length, ◌-◌, take, drop, bytes_eq, Some, None, refl, sym, ap, ◌∙◌, Bor}
use Rattle.std.proofs.lemmas.List.{drop-drop, length-map, take_rest}
use Rattle.std.specs.List.{list_any, list_all}
use Rattle.std.proofs.lemmas.List.Folds.{list_all-map}
use Rattle.ecs_model.specs.declared.Kind.{Kind}
use Rattle.ecs_model.specs.declared.faults.SchemaFault.TheVariants.{TooManyFields, NoFields, BadField}
use Rattle.ecs_model.specs.Text.{is_name}
use Rattle.ecs_model.specs.Schema.{Field, repeats_name, schema_fault}
use Rattle.ecs_schema.specs.Given.{given}

list_any-map : {A B : Type 0} (p : B → Bool) (h : A → B) (xs : List A) → list_any p (map h xs) ≡ list_any (λ x. p (h x)) xs
list_any-map p h [] = refl
list_any-map p h (x ∷ xs) = ap (λ b. p (h x) || b) (list_any-map p h xs)

-- the first field's name is repeated, or a later field's
pub repeats_name-first : (x : Bor (List ℕ) × Kind) (xs : List (Bor (List ℕ) × Kind)) → repeats_name (given (x ∷ xs)) ≡ (list_any (λ y. bytes_eq (x.0).now (y.0).now) xs || repeats_name (given xs))
repeats_name-first x xs = ap (λ b. b || repeats_name (given xs)) (list_any-map (λ g. bytes_eq (x.0).now g.name) _ xs)

-- the fault, by tests of the names and kinds
pub schema_fault-given : (xs : List (Bor (List ℕ) × Kind)) (named repeated : Bool) → named ≡ list_all (λ x. is_name (x.0).now) xs → repeated ≡ repeats_name (given xs)
    → schema_fault (given xs) ≡ cond (ltb 8 (length xs)) (Some TooManyFields) (cond (eqb (length xs) 0) (Some NoFields) (cond (not named || repeated) (Some BadField) None))
schema_fault-given xs named repeated e f = rw (length-map, list_all-map {X = Field} (λ field. is_name field.name) _ xs, ← e, ← f)

-- one field further on, where the first one's name is not repeated
pub repeats_name-drop_more : (xs : List (Bor (List ℕ) × Kind)) (i : ℕ) (b : Bool) → repeats_name (given (take (length xs - i) (drop i xs))) ≡ (b || repeats_name (given (drop 1 (take (length xs - i) (drop i xs))))) → b ≡ false → repeats_name (given (drop (i + 1) xs)) ≡ repeats_name (given (drop i xs))
repeats_name-drop_more xs i b h f = sym (rw (take_rest xs i, f) at h ∙ ap (λ ys. repeats_name (given ys)) (drop-drop 1 i xs))
