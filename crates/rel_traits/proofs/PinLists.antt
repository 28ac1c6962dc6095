-- The counts of a list as a map: what stands at each index, and that the indexes rise.
use Rattle.std.proofs.Common.{◌≡◌, ◌≢◌, ◌⊎◌, ℕ, zero, suc, ◌+◌, ◌<◌, ◌==◌, Bool, true, false, cond, not, ◌&&◌, List, [], ◌∷◌, filter, length, nat_lt, get_or, set, Option, Some, None, unwrap_or, refl, sym, ap, ◌∙◌, inl, inr, arith}
use Rattle.std.proofs.lemmas.Bool.{cases_eq, ne_eqb}
use Rattle.std.proofs.lemmas.Bool.Decides.{nat_tests, Decides-eqb}
use Rattle.std.proofs.lemmas.Grind.{get_or-set_at}
use Rattle.std.proofs.lemmas.List.{get_or-set_other}
use Rattle.std.specs.Cmp.{nat_cmp_total}
use Rattle.std.specs.FinMap.{nat_cmp-IsAntisymmetric}
use Rattle.std.specs.FinMap.Entries.{below_all, is_sorted, same_entries}
use Rattle.std.specs.List.{enumerate_from}
use Rattle.std.specs.Ordering.{nat_cmp, eq_by_cmp, is_eq, is_lt}
use Rattle.std.specs.declared.cmp.Ordering.TheVariants.{Equal, Greater}
use Rattle.ecs_model.specs.Map.{Map, IsMap, count_at, value_at}
use Rattle.ecs_model.specs.steps.Pins.{with_count}
use Rattle.ecs_model.proofs.Maps.{absent_below, nat_value_at, to_T}
use Rattle.ecs_model.proofs.steps.Deletions.{nat_value_at-without}
use Rattle.ecs_model.proofs.steps.PinCounts.{IsMap-with_count}

-- the counts of a list whose first has this index
abbrev pub counts_from : ℕ → List ℕ → Map ℕ ℕ
counts_from a counts = filter (λ e. nat_lt 0 e.1) (enumerate_from a counts)

-- a count as it stands in the map
abbrev kept : ℕ → Option ℕ
kept zero = None
kept (suc n) = Some (suc n)

below : (d a : ℕ) → d < a → is_lt (nat_cmp d a) ≡ true
below d a h = grind (arith, nat_tests)

pub tied : (k : ℕ) → nat_cmp k k ≡ Equal
tied k = grind (arith, nat_tests)

not_tied : (k a : ℕ) → a < k → nat_cmp k a ≡ Greater
not_tied k a h = grind (arith, nat_tests)

some : (n : ℕ) → nat_lt 0 (suc n) ≡ true
some n = grind (arith, nat_tests)

counts_more : (a n : ℕ) (counts : List ℕ) → counts_from a (suc n ∷ counts) ≡ (a, suc n) ∷ counts_from (a + 1) counts
counts_more a n counts = λ i. cond (some n i) ((a, suc n) ∷ counts_from (a + 1) counts) (counts_from (a + 1) counts)

-- no index is below the first
below_from : (d a : ℕ) (counts : List ℕ) → d < a → below_all nat_cmp d (counts_from a counts) ≡ true
below_from d a [] h = refl
below_from d a (zero ∷ counts) h = below_from d (a + 1) counts (omega (arith, h))
below_from d a (suc n ∷ counts) h = ap (below_all nat_cmp d) (counts_more a n counts) ∙ λ i. below d a h i && below_from d (a + 1) counts (omega (arith, h)) i

IsMap-from : (a : ℕ) (counts : List ℕ) → IsMap nat_cmp (counts_from a counts)
IsMap-from a [] = refl
IsMap-from a (zero ∷ counts) = IsMap-from (a + 1) counts
IsMap-from a (suc n ∷ counts) = ap (is_sorted nat_cmp) (counts_more a n counts) ∙ λ i. below_from a (a + 1) counts (omega arith) i && IsMap-from (a + 1) counts i

-- at each index stands the count of the list
value_from : (a : ℕ) (counts : List ℕ) (i k : ℕ) → k ≡ a + i → value_at nat_cmp (counts_from a counts) k ≡ kept (get_or counts i 0)
value_from a [] i k h = refl
value_from a (zero ∷ counts) zero k h = absent_below nat_cmp nat_cmp_total k (counts_from (a + 1) counts) (below_from k (a + 1) counts (omega (arith, h)))
value_from a (zero ∷ counts) (suc i) k h = value_from (a + 1) counts i k (omega (arith, h))
value_from a (suc n ∷ counts) zero k h =
    let same : k ≡ a = omega (arith, h) in
    ap (λ m. value_at nat_cmp m k) (counts_more a n counts)
    ∙ ap (λ j. cond (eq_by_cmp nat_cmp j a) (Some (suc n)) (value_at nat_cmp (counts_from (a + 1) counts) j)) same
    ∙ ap (λ o. cond (is_eq o) (Some (suc n)) (value_at nat_cmp (counts_from (a + 1) counts) a)) (tied a)
value_from a (suc n ∷ counts) (suc i) k h =
    ap (λ m. value_at nat_cmp m k) (counts_more a n counts)
    ∙ ap (λ o. cond (is_eq o) (Some (suc n)) (value_at nat_cmp (counts_from (a + 1) counts) k)) (not_tied k a (omega (arith, h)))
    ∙ value_from (a + 1) counts i k (omega (arith, h))

value_is : (counts : List ℕ) (i : ℕ) → value_at nat_cmp (counts_from 0 counts) i ≡ kept (get_or counts i 0)
value_is counts i = value_from 0 counts i i (omega arith)

count_of : (n : ℕ) → unwrap_or (kept n) 0 ≡ n
count_of zero = refl
count_of (suc n) = refl

pub count_is : (counts : List ℕ) (i : ℕ) → count_at (counts_from 0 counts) i ≡ get_or counts i 0
count_is counts i = ap (λ o. unwrap_or o 0) (value_is counts i) ∙ count_of (get_or counts i 0)

same_map : (m n : Map ℕ ℕ) → IsMap nat_cmp m → IsMap nat_cmp n → ((i : ℕ) → value_at nat_cmp m i ≡ value_at nat_cmp n i) → m ≡ n
same_map m n h g same = same_entries nat_cmp nat_cmp_total nat_cmp-IsAntisymmetric m n (to_T _ h) (to_T _ g) same

-- lists with the same counts are one map
pub same_counts : (old new : List ℕ) → ((i : ℕ) → get_or new i 0 ≡ get_or old i 0) → counts_from 0 new ≡ counts_from 0 old
same_counts old new same =
    same_map (counts_from 0 new) (counts_from 0 old) (IsMap-from 0 new) (IsMap-from 0 old) (λ i. value_is new i ∙ ap kept (same i) ∙ sym (value_is old i))

value_put : (m : Map ℕ ℕ) (i n j : ℕ) → value_at nat_cmp (with_count m i n) j ≡ cond (j == i) (kept n) (value_at nat_cmp m j)
value_put m i zero j = nat_value_at-without m (λ j. j == i) j ∙ by (j == i)
  where
    by : (b : Bool) → cond (not b) (value_at nat_cmp m j) None ≡ cond b None (value_at nat_cmp m j)
    by true = refl
    by false = refl
value_put m i (suc n) j =
    elim (nat_value_at m i (suc n) j) [
      | inl p ↦ p.1 ∙ sym (ap (λ b. cond b (Some (suc n)) (value_at nat_cmp m j)) ((Decides-eqb j i).1 p.0))
      | inr p ↦ p.1 ∙ sym (ap (λ b. cond b (Some (suc n)) (value_at nat_cmp m j)) (ne_eqb j i p.0))
    ]

-- a count in the place of another
pub count_put : (counts : List ℕ) (i n : ℕ) → i < length counts → counts_from 0 (set counts i n) ≡ with_count (counts_from 0 counts) i n
count_put counts i n within =
    same_map (counts_from 0 (set counts i n)) (with_count (counts_from 0 counts) i n) (IsMap-from 0 (set counts i n)) (IsMap-with_count (counts_from 0 counts) i n (IsMap-from 0 counts))
    (λ j. value_is (set counts i n) j ∙ by j (cases_eq j i) ∙ sym (value_put (counts_from 0 counts) i n j))
  where
    by : (j : ℕ) → (j ≡ i) ⊎ (j ≢ i) → kept (get_or (set counts i n) j 0) ≡ cond (j == i) (kept n) (value_at nat_cmp (counts_from 0 counts) j)
    by j (inl same) =
        ap kept (get_or-set_at counts i j n 0 same within) ∙ sym (ap (λ b. cond b (kept n) (value_at nat_cmp (counts_from 0 counts) j)) ((Decides-eqb j i).1 same))
    by j (inr other) =
        ap kept (get_or-set_other counts i j n 0 other) ∙ sym (value_is counts j)
        ∙ sym (ap (λ b. cond b (kept n) (value_at nat_cmp (counts_from 0 counts) j)) (ne_eqb j i other))
