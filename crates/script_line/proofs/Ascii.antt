-- Bytes that are tested for ASCII eight at a time.
use Rattle.std.proofs.Common.{◌≡◌, ℕ, zero, suc, ◌+◌, ◌-◌, ◌<◌, ◌≤◌, inl, inr, Bool, true, false, List, [], ◌∷◌, drop, get_or, length, take, ap, ◌∙◌, subst, arith}
use Rattle.std.specs.Prelude.{nat_lt}
use Rattle.std.specs.Bool.{MatchBool}
use Rattle.std.specs.List.{list_all}
use Rattle.std.specs.Str.{IsAscii, IsNotAscii}
use Rattle.std.proofs.lemmas.Bool.{and_parts, cases_lt}
use Rattle.std.proofs.lemmas.Bool.Decides.{nat_tests}
use Rattle.std.proofs.lemmas.List.{get_or-drop, get_or-take}
use Rattle.std.proofs.lemmas.Str.Ascii.{IsAscii-from_reads}

-- eight bytes from a place on say what each of them is
eight_here : (bs : List ℕ) (at : ℕ) → IsAscii (take 8 (drop at bs)) → (i : ℕ) → at ≤ i → i < at + 8 → get_or bs i 0 < 128
eight_here bs at here i low high =
    let past : at + (i - at) ≡ i = omega arith in
    let same : get_or (take 8 (drop at bs)) (i - at) 0 ≡ get_or bs i 0 = get_or-take 8 (drop at bs) (i - at) 0 (omega arith) ∙ get_or-drop at bs (i - at) 0 ∙ ap (λ k. get_or bs k 0) past in
    subst (λ b. b < 128) same (here (i - at))

-- eight more
pub eight_more : (bs : List ℕ) (at : ℕ) → ((i : ℕ) → i < at → get_or bs i 0 < 128) → IsAscii (take 8 (drop at bs)) → (i : ℕ) → i < at + 8 → get_or bs i 0 < 128
eight_more bs at before here i lt = elim (cases_lt i at) [
  | inl low ↦ before i low
  | inr high ↦ eight_here bs at here i high lt
]

-- the last eight, of which some were looked at
pub last_eight : (bs : List ℕ) (at last : ℕ) → last + 8 ≡ length bs → last ≤ at → ((i : ℕ) → i < at → get_or bs i 0 < 128) → IsAscii (take 8 (drop last bs)) → IsAscii bs
last_eight bs at last long reached before here =
    IsAscii-from_reads bs (last + 8) (omega arith) (eight_more bs last (λ i lt. before i (omega arith)) here)

-- a test of eight bytes that said yes
pub eight_at : (bs : List ℕ) (from at : ℕ) (b : Bool) → from ≡ at → b ≡ true → MatchBool b (IsAscii (take (from + 8 - from) (drop from bs))) (IsNotAscii (take (from + 8 - from) (drop from bs))) → IsAscii (take 8 (drop at bs))
eight_at bs from at true same said told =
    let eight : from + 8 - from ≡ 8 = omega arith in
    subst (λ f. IsAscii (take 8 (drop f bs))) same (subst (λ n. IsAscii (take n (drop from bs))) eight told)
eight_at bs from at false same said told = absurd cc

-- bytes that were tested one by one
pub ascii_each : (bs : List ℕ) → list_all (λ b. nat_lt b 128) bs ≡ true → IsAscii bs
ascii_each [] h i = omega arith
ascii_each (c ∷ cs) h zero = let here = (and_parts (nat_lt c 128) (list_all (λ b. nat_lt b 128) cs) h).0 in grind (arith, nat_tests)
ascii_each (c ∷ cs) h (suc i) = ascii_each cs (and_parts (nat_lt c 128) (list_all (λ b. nat_lt b 128) cs) h).1 i
