-- Whether there is a choice, and what a term gives that asks `$this` itself.
use Rattle.std.proofs.Common.{◌≡◌, ℕ, suc, Bool, true, false, cond, List, [], ◌∷◌, ◌++◌, length, refl, ap, ◌∙◌, arith}
use Rattle.std.specs.Prelude.{◌==◌, ◌&&◌, ◌||◌, filter, map, not, take, Option, Some, None, is_none, if◌then◌else◌}
use Rattle.std.specs.List.{list_any}
use Rattle.std.specs.Option.{option_map_or}
use Rattle.std.specs.Ordering.{nat_cmp}
use Rattle.std.proofs.lemmas.Bool.{false≢true, eqb-true, ne_eqb}
use Rattle.ecs_model.specs.Links.{ancestor_line}
use Rattle.ecs_model.specs.Map.{with_value}
use Rattle.ecs_model.specs.rows.Rows.{Assignment, closed_fields, fields_of_term, first_nonempty, hits, meant, product}
use Rattle.ecs_model.specs.rows.View.{View}
use Rattle.query_model.specs.declared.query.Ref.{Ref}
use Rattle.query_model.specs.declared.query.Ref.TheVariants.{Is, Var, Any, AnyOnce}
use Rattle.query_model.specs.declared.query.Term.{Term}
use Rattle.query_model.specs.Observers.{is_first}
use Rattle.query_meaning.proofs.LevelHolding.{has_some}

-- ---- whether a list has an element

module _ {X : Type 0} where
  abbrev pub some : List X → Bool
  some [] = false
  some (x ∷ xs) = true

  pub none_counted : (xs : List X) → (length xs == 0) ≡ not (some xs)
  none_counted [] = refl
  none_counted (x ∷ xs) = ne_eqb (suc (length xs)) 0 (λ e. absurd (omega (arith, e)))

  pub has-some : (xs : List X) → has_some xs ≡ some xs
  has-some xs = ap not (none_counted xs) ∙ not_not (some xs)
    where
      not_not : (b : Bool) → not (not b) ≡ b
      not_not true = refl
      not_not false = refl

  some-append : (xs ys : List X) → some (xs ++ ys) ≡ (some xs || some ys)
  some-append [] ys = refl
  some-append (x ∷ xs) ys = refl

  pub some-first : (xss : List (List X)) → some (first_nonempty xss) ≡ list_any some xss
  some-first [] = refl
  some-first ([] ∷ xss) = some-first xss
  some-first ((x ∷ xs) ∷ xss) = refl

  pub some-taken : (b : Bool) (xs : List X) → some (if b then take 1 xs else xs) ≡ some xs
  some-taken true [] = refl
  some-taken true (x ∷ xs) = refl
  some-taken false xs = refl

  pub some-filter : (p : X → Bool) (xs : List X) → some (filter p xs) ≡ list_any p xs
  some-filter p [] = refl
  some-filter p (x ∷ xs) = elim (p x) as (λ b. some (cond b (x ∷ filter p xs) (filter p xs)) ≡ (b || list_any p xs)) [ true ↦ refl | false ↦ some-filter p xs ]

  pub some-if : (b : Bool) (xs : List X) → some (if b then xs else []) ≡ (b && some xs)
  some-if true xs = refl
  some-if false xs = refl

pub some-map : {X Y : Type 0} (f : X → Y) (xs : List X) → some (map f xs) ≡ some xs
some-map f [] = refl
some-map f (x ∷ xs) = refl

pub any-map : {X Y : Type 0} (f : X → List Y) (xs : List X) → list_any some (map f xs) ≡ list_any (λ x. some (f x)) xs
any-map f [] = refl
any-map f (x ∷ xs) = ap (λ b. some (f x) || b) (any-map f xs)

pub some-product : {X : Type 0} (xs ys : List (List X)) → some (product xs ys) ≡ (some xs && some ys)
some-product [] ys = refl
some-product (x ∷ xs) ys =
    some-append (map (λ y. x ++ y) ys) (product xs ys)
    ∙ ap (λ b. b || some (product xs ys)) (some-map (λ y. x ++ y) ys)
    ∙ ap (λ b. some ys || b) (some-product xs ys)
    ∙ absorbed (some xs) (some ys)
  where
    absorbed : (a b : Bool) → (b || (a && b)) ≡ b
    absorbed true true = refl
    absorbed true false = refl
    absorbed false true = refl
    absorbed false false = refl

-- what may match has a choice anyway
pub or_last : (b : Bool) → (b || (true || false)) ≡ true
or_last true = refl
or_last false = refl

-- ---- a term on `$this`

pub source_first : (r : Ref) → is_first r ≡ true → r ≡ Var 0
source_first (Is e) h = absurd (false≢true h)
source_first (Var v) h = ap Var (eqb-true v 0 h)
source_first Any h = absurd (false≢true h)
source_first AnyOnce h = absurd (false≢true h)

pub none_of : {A : Type 0} (o : Option A) → is_none o ≡ true → o ≡ None
none_of None h = refl
none_of (Some x) h = absurd (false≢true h)

-- the assignment of one entity to `$this`
abbrev pub one : ℕ → Assignment
one e = with_value nat_cmp [] 0 e

pub fields-on_this : (w : View) (e : ℕ) (t : Term) → t.source ≡ Var 0 → t.on_source ≡ true → t.up ≡ None → t.closed ≡ false
    → fields_of_term w (one e) t ≡ first_nonempty (map (λ m. map (λ j. (m, j)) (hits w (one e) t m)) (e ∷ []))
unfolding fields_of_term
fields-on_this w e t source on up closed = λ i. option_map_or (λ s.
    if closed i then closed_fields w (meant (one e) t.component) s (option_map_or (meant (one e)) t.target None)
    else first_nonempty (map (λ m. map (λ j. (m, j)) (hits w (one e) t m)) ((if on i then s ∷ [] else []) ++ option_map_or (λ r. ancestor_line w.ids w.entities r s) (up i) []))) (meant (one e) (source i)) []
