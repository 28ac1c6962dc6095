-- Where the query of a number stands.
use Rattle.std.proofs.Common.{◌≡◌, ◌⊎◌, ℕ, zero, suc, ◌+◌, ◌-◌, ◌<◌, ◌≤◌, Bool, true, false, not, List, [], ◌∷◌, length, get_or, Option, None, Some, inl, inr, refl, sym, ◌∙◌, ap, arith, true≢false}
use Rattle.std.specs.Prelude.{is_some, set}
use Rattle.query_model.specs.Query.{Query}
use Rattle.flecsq_c.specs.Asking.{DropsQuery, query_at}
use Rattle.flecsq_c.specs.Statuses.{ok}

past : {X : Type 0} (xs : List X) (n : ℕ) (d : X) → length xs ≤ n → get_or xs n d ≡ d
past [] n d low = refl
past (x ∷ xs) zero d low = absurd (omega (arith, low))
past (x ∷ xs) (suc n) d low = past xs n d (omega (arith, low))

-- no query has this number
pub query_at_none : (queries : List (Option Query)) (n : ℕ) → (n ≡ 0) ⊎ (length queries < n) → query_at queries n ≡ None
query_at_none queries zero e = refl
query_at_none queries (suc n) (inl e) = absurd (omega (arith, e))
query_at_none queries (suc n) (inr low) = past queries n None (omega (arith, low))

-- it stands before this number
pub query_at_place : (queries : List (Option Query)) (n place : ℕ) → place + 1 ≡ n → query_at queries n ≡ get_or queries place None
query_at_place queries zero place e = absurd (omega (arith, e))
query_at_place queries (suc n) place e = let same : n ≡ place = omega (arith, e) in ap (λ k. get_or queries k None) same

-- inside of a list it doesn't matter what would stand outside
within : {X : Type 0} (xs : List X) (n : ℕ) (d e : X) → n < length xs → get_or xs n d ≡ get_or xs n e
within [] n d e low = absurd (omega (arith, low))
within (x ∷ xs) zero d e low = refl
within (x ∷ xs) (suc n) d e low = within xs n d e (omega (arith, low))

-- what stands at a place is put there again
pub set_same : {X : Type 0} (xs : List X) (n : ℕ) (x : X) → n < length xs → x ≡ get_or xs n x → set xs n x ≡ xs
set_same [] n x low is = absurd (omega (arith, low))
set_same (y ∷ ys) zero x low is = ap (λ z. z ∷ ys) is
set_same (y ∷ ys) (suc n) x low is = ap (λ l. y ∷ l) (set_same ys n x (omega (arith, low)) is)

some_of : {X : Type 0} (o : Option X) → is_some o ≡ true → (x : X) × (o ≡ Some x)
some_of (Some x) e = (x, refl)
some_of None e = absurd (true≢false (sym e))

-- the query at a place is that of the number behind it
pub query_there : (queries : List (Option Query)) (n place : ℕ) (o : Option Query) → place + 1 ≡ n → place < length queries → o ≡ get_or queries place o → query_at queries n ≡ o
query_there queries n place o at low is = query_at_place queries n place at ∙ within queries place None o low ∙ sym is

-- the query there was dropped
pub dropped : (queries : List (Option Query)) (n place : ℕ) (o : Option Query) (absent : Bool) → place + 1 ≡ n → place < length queries → o ≡ get_or queries place o
    → is_some o ≡ not absent → absent ≡ false → DropsQuery n queries (set queries place None) ok
dropped queries n place o absent at low is some present =
    let q = some_of o (some ∙ ap not present) in
    let there : place ≡ n - 1 = omega (arith, at) in
    inl (q.0, query_there queries n place o at low is ∙ q.1, ap (λ k. set queries k None) there, refl)
