-- When two patterns are the same.
use Rattle.std.proofs.Common.{◌≡◌, ℕ, ◌==◌, ◌&&◌, Bool, true, false, true≢false, Option, Some, None, refl, sym, ap}
use Rattle.std.proofs.lemmas.Bool.{and_parts}
use Rattle.std.proofs.lemmas.Bool.Decides.{Decides-eqb}
use Rattle.id_pattern.specs.declared.Part.{Part}
use Rattle.id_pattern.specs.declared.Part.TheVariants.{Is, Any}
use Rattle.id_pattern.specs.declared.Pattern.{Pattern}
use Rattle.id_pattern.specs.contracts.PatternPartialEq.TheImpl as same_patterns

-- whether two patterns are the same
abbrev pub pattern_eq : Pattern → Pattern → Bool
pattern_eq = same_patterns.ghosts.eq

number : (m n : ℕ) → (m == n) ≡ true → m ≡ n
number m n h = (Decides-eqb m n).0 h

-- parts alone
same_first : (a b : Part) → pattern_eq (record { first = a; second = None }) (record { first = b; second = None }) ≡ true → a ≡ b
same_first (Is i) (Is j) h = ap Is (number i j (and_parts (i == j) true h).0)
same_first (Is i) Any h = absurd (true≢false (sym h))
same_first Any (Is j) h = absurd (true≢false (sym h))
same_first Any Any h = refl

first_alone : (a b : Part) (s t : Option Part) → pattern_eq (record { first = a; second = s }) (record { first = b; second = t }) ≡ true → pattern_eq (record { first = a; second = None }) (record { first = b; second = None }) ≡ true
first_alone (Is i) (Is j) s t h = ap (λ c. c && true) (and_parts (i == j) _ h).0
first_alone (Is i) Any s t h = h
first_alone Any (Is j) s t h = h
first_alone Any Any s t h = refl

second_alone : (a b : Part) (s t : Option Part) → pattern_eq (record { first = a; second = s }) (record { first = b; second = t }) ≡ true → pattern_eq (record { first = Any; second = s }) (record { first = Any; second = t }) ≡ true
second_alone (Is i) (Is j) s t h = (and_parts (i == j) _ h).1
second_alone (Is i) Any s t h = absurd (true≢false (sym h))
second_alone Any (Is j) s t h = absurd (true≢false (sym h))
second_alone Any Any s t h = h

same_second : (s t : Option Part) → pattern_eq (record { first = Any; second = s }) (record { first = Any; second = t }) ≡ true → s ≡ t
same_second None None h = refl
same_second None (Some y) h = absurd (true≢false (sym h))
same_second (Some x) None h = absurd (true≢false (sym h))
same_second (Some (Is i)) (Some (Is j)) h = ap (λ n. Some (Is n)) (number i j h)
same_second (Some (Is i)) (Some Any) h = absurd (true≢false (sym h))
same_second (Some Any) (Some (Is j)) h = absurd (true≢false (sym h))
same_second (Some Any) (Some Any) h = refl

-- patterns that compare equal are one
pub same_pattern : (p q : Pattern) → pattern_eq p q ≡ true → p ≡ q
same_pattern p q h =
    let a = same_first p.first q.first (first_alone p.first q.first p.second q.second h) in
    let s = same_second p.second q.second (second_alone p.first q.first p.second q.second h) in
    λ i. record { first = a i; second = s i }
