-- Ids that ascend: where one is found, and that none is.
use Rattle.std.proofs.Common.{◌≡◌, ◌≢◌, ℕ, zero, suc, ◌+◌, ◌-◌, ◌≤◌, ◌<◌, List, [], ◌∷◌, length, nat_lt, not, cond, Bool, true, false, refl, sym, ap, subst, ◌∙◌, arith, get_or, inl, inr, Some, None, option_map}
use Rattle.std.proofs.lemmas.Bool.{cases_lt}
use Rattle.std.proofs.lemmas.Bool.Decides.{nat_tests}
use Rattle.std.specs.List.{position, prefix_len}
use Rattle.std.specs.List.Sorted.{IsNonDecreasingBy}
use Rattle.std.specs.Ordering.{ordering_index}
use Rattle.std.specs.declared.cmp.Ordering.{Ordering}
use Rattle.std.specs.declared.cmp.Ordering.TheVariants.{Less, Equal, Greater}
use Rattle.ecs_id.specs.Id.{Id, id_cmp, id_cmp_itself, id_cmp_same, id_cmp_total, id_eq, id_eq_apart, id_eq_itself}
use Rattle.ecs_table.specs.Archetype.{Ascend, index_in}

apart_of : (x y : Id) (o : Ordering) → o ≢ Equal → id_cmp x y ≡ o → x ≢ y
apart_of x y o ne e p = ne (sym e ∙ ap (id_cmp x) (sym p) ∙ id_cmp_itself x)

pub lt_suc : (m n : ℕ) → nat_lt (1 + m) (suc n) ≡ nat_lt m n
lt_suc m n = grind (arith, nat_tests)

pub lt_zero : (n : ℕ) → nat_lt 0 (suc n) ≡ true
lt_zero n = grind (arith, nat_tests)

pub position_cons : {X : Type 0} (p : X → Bool) (x : X) (xs : List X) → position p (x ∷ xs) ≡ cond (p x) (Some 0) (option_map suc (position p xs))
position_cons p x xs = by (p x)
  where
    next : (b : Bool) (l : ℕ) → cond b (Some (1 + l)) None ≡ option_map suc (cond b (Some l) None)
    next true l = let e : 1 + l ≡ suc l = omega arith in ap Some e
    next false l = refl

    by : (b : Bool) → cond (nat_lt (cond (not b) (1 + prefix_len (λ y. not (p y)) xs) 0) (suc (length xs))) (Some (cond (not b) (1 + prefix_len (λ y. not (p y)) xs) 0)) None
        ≡ cond b (Some 0) (option_map suc (cond (nat_lt (prefix_len (λ y. not (p y)) xs) (length xs)) (Some (prefix_len (λ y. not (p y)) xs)) None))
    by true = ap (λ t. cond t (Some 0) None) (lt_zero (length xs))
    by false = ap (λ t. cond t (Some (1 + prefix_len (λ y. not (p y)) xs)) None) (lt_suc (prefix_len (λ y. not (p y)) xs) (length xs)) ∙ next _ _

pub index_cons : (x i : Id) (ids : List Id) → index_in (x ∷ ids) i ≡ cond (id_eq x i) (Some 0) (option_map suc (index_in ids i))
unfolding index_in
index_cons x i ids = position_cons (λ j. id_eq j i) x ids

pub index_nil : (i : Id) → index_in [] i ≡ None
unfolding index_in
index_nil i = refl

-- where an id stands that comes after all before it
pub index_at : (ids : List Id) (k : ℕ) (i : Id) → Ascend ids → k < length ids → get_or ids k i ≡ i → index_in ids i ≡ Some k
index_at [] k i h lt e = absurd (omega arith)
index_at (x ∷ ids) zero i h lt e = let same : id_eq x i ≡ true = ap (λ y. id_eq y i) e ∙ id_eq_itself i in index_cons x i ids ∙ ap (λ b. cond b (Some 0) (option_map suc (index_in ids i))) same
index_at (x ∷ ids) (suc k) i h lt e =
    let less : id_cmp x i ≡ Less = ap (id_cmp x) (sym e) ∙ h 0 (suc k) i (omega arith) lt in
    let other : id_eq x i ≡ false = id_eq_apart x i (apart_of x i Less (λ p. cc) less) in
    let rest = index_at ids k i (λ a b d lo hi. h (suc a) (suc b) d (omega arith) (omega arith)) (omega arith) e in
    index_cons x i ids ∙ ap (λ b. cond b (Some 0) (option_map suc (index_in ids i))) other ∙ ap (option_map suc) rest

pub index_none : (ids : List Id) (i : Id) → ((k : ℕ) → k < length ids → get_or ids k i ≢ i) → index_in ids i ≡ None
index_none [] i h = index_nil i
index_none (x ∷ ids) i h =
    let other : id_eq x i ≡ false = id_eq_apart x i (h 0 (omega arith)) in
    index_cons x i ids ∙ ap (λ b. cond b (Some 0) (option_map suc (index_in ids i))) other ∙ ap (option_map suc) (index_none ids i (λ k lt. h (suc k) (omega arith)))

index_rises : (a b c : Id) → id_cmp a b ≡ Less → ordering_index (id_cmp a c) ≤ ordering_index (id_cmp b c)
index_rises a b c less = by (id_cmp b c) refl
  where
    by : (o : Ordering) → id_cmp b c ≡ o → ordering_index (id_cmp a c) ≤ ordering_index (id_cmp b c)
    by Less e = let f : id_cmp a c ≡ Less = id_cmp_total.trans a b c less e in subst (λ o. ordering_index o ≤ ordering_index (id_cmp b c)) (sym f) (subst (λ o. ordering_index Less ≤ ordering_index o) (sym e) (omega arith))
    by Equal e = let f : id_cmp a c ≡ Less = ap (id_cmp a) (sym (id_cmp_same b c e)) ∙ less in subst (λ o. ordering_index o ≤ ordering_index (id_cmp b c)) (sym f) (subst (λ o. ordering_index Less ≤ ordering_index o) (sym e) (omega arith))
    by Greater e = subst (λ o. ordering_index (id_cmp a c) ≤ ordering_index o) (sym e) (most (id_cmp a c))
      where
        most : (o : Ordering) → ordering_index o ≤ ordering_index Greater
        most Less = omega arith
        most Equal = omega arith
        most Greater = omega arith

pub search_rises : (ids : List Id) (i : Id) → Ascend ids → IsNonDecreasingBy (λ y. ordering_index (id_cmp y i)) ids
search_rises ids i h = λ a b d le lt. elim (cases_lt a b) [
  | inl lo ↦ index_rises (get_or ids a d) (get_or ids b d) i (h a b d lo lt)
  | inr hi ↦ let same : a ≡ b = omega arith in subst (λ n. ordering_index (id_cmp (get_or ids n d) i) ≤ ordering_index (id_cmp (get_or ids b d) i)) (sym same) (omega arith)
]

-- one more id that comes after the last
pub ascend_more : (ids : List Id) (k : ℕ) (prior next : Id) → ((i j : ℕ) (d : Id) → i < j → j < k → id_cmp (get_or ids i d) (get_or ids j d) ≡ Less) → 0 < k → ((d : Id) → get_or ids (k - 1) d ≡ prior) → ((d : Id) → get_or ids k d ≡ next) → id_cmp prior next ≡ Less
    → (i j : ℕ) (d : Id) → i < j → j < k + 1 → id_cmp (get_or ids i d) (get_or ids j d) ≡ Less
ascend_more ids k prior next h some p q less i j d lo hi = elim (cases_lt j k) [
  | inl a ↦ h i j d lo a
  | inr b ↦
      let here : j ≡ k = omega arith in
      let last : get_or ids j d ≡ next = ap (λ n. get_or ids n d) here ∙ q d in
      ap (id_cmp (get_or ids i d)) last ∙ elim (cases_lt i (k - 1)) [
        | inl c ↦ id_cmp_total.trans (get_or ids i d) prior next (ap (id_cmp (get_or ids i d)) (sym (p d)) ∙ h i (k - 1) d c (omega arith)) less
        | inr c ↦ let at : i ≡ k - 1 = omega arith in ap (λ n. id_cmp (get_or ids n d) next) at ∙ ap (λ x. id_cmp x next) (p d) ∙ less
      ]
]
