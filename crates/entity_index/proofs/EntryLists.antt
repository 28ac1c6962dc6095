-- What a list gives as a map by index: found, in order, and after one place has changed.
use Rattle.std.proofs.Common.{◌≡◌, ◌≢◌, ℕ, zero, suc, ◌+◌, ◌<◌, Bool, true, false, not, ◌&&◌, cond, eqb, List, [], ◌∷◌, ◌++◌, length, get_or, set, Option, Some, None, refl, sym, ap, ◌∙◌, arith, IsTrue, ◌⊎◌, inl, inr, T}
use Rattle.std.proofs.lemmas.Bool.{cases_lt, cases_eq}
use Rattle.std.proofs.lemmas.Bool.Decides.{nat_tests}
use Rattle.std.proofs.lemmas.List.{get_or-set_same, get_or-set_other, get_or_push, get_or_append_left, get_or_past, length_push}
use Rattle.std.specs.Bool.{passes}
use Rattle.std.specs.Ordering.{nat_cmp, eq_by_cmp, is_lt}
use Rattle.std.specs.Cmp.{nat_cmp_total}
use Rattle.std.specs.FinMap.{find, put, is_sorted, nat_cmp-IsAntisymmetric}
use Rattle.std.specs.FinMap.Entries.{below_all, is_sorted-put, is_sorted-where_key, find-put, find-where_key, same_entries}
use Rattle.ecs_model.specs.Map.{without}
use Rattle.entity_index.specs.Slots.{with_entry, entries_from}

lt_true : (x n : ℕ) (b : Bool) → x < n → b ≡ true → (is_lt (nat_cmp x n) && b) ≡ true
lt_true x n b h e = grind (arith, nat_tests)

eq_by_cmp-eqb : (x y : ℕ) → eq_by_cmp nat_cmp x y ≡ eqb x y
eq_by_cmp-eqb x y = grind (arith, nat_tests)

pub eqb-apart : (x y : ℕ) → x ≢ y → eqb x y ≡ false
eqb-apart x y ne = grind (arith, nat_tests)

pub eqb-same : (x y : ℕ) → x ≡ y → eqb x y ≡ true
eqb-same x y e = grind (arith, nat_tests)

-- a list, with its default, after one place has changed
pub record Changes {S : Type 0} (d : S) (old new : List S) (i : ℕ) (s : S) : Type 0 where
  pub changed : get_or new i d ≡ s
  pub others : (q : ℕ) → q ≢ i → get_or new q d ≡ get_or old q d

module _ {S : Type 0} (d : S) where
  pub Changes-set : (slots : List S) (i : ℕ) (s : S) → i < length slots → Changes d slots (set slots i s) i s
  Changes-set slots i s h = record { changed = get_or-set_same slots i s d h; others = λ q ne. get_or-set_other slots i q s d ne }

  pub Changes-push : (slots : List S) (s : S) → Changes d slots (slots ++ s ∷ []) (length slots) s
  Changes-push slots s = record {
    changed = get_or_push slots s d (length slots) refl;
    others = λ q ne. elim (cases_lt q (length slots)) [
      | inl h ↦ get_or_append_left slots (s ∷ []) d q h
      | inr h ↦ get_or_past (slots ++ s ∷ []) q d (omega (arith, length_push slots s)) ∙ sym (get_or_past slots q d h)
    ];
  }

module _ {S X : Type 0} (f : S → Option X) where
  below_entry : (x n : ℕ) (o : Option X) (es : List (ℕ × X)) → x < n → below_all nat_cmp x es ≡ true → below_all nat_cmp x (with_entry n o es) ≡ true
  below_entry x n None es h k = k
  below_entry x n (Some v) es h k = lt_true x n _ h k

  below_entries : (x n : ℕ) (slots : List S) → x < n → below_all nat_cmp x (entries_from f n slots) ≡ true
  below_entries x n [] h = refl
  below_entries x n (s ∷ slots) h = below_entry x n (f s) _ h (below_entries x (suc n) slots (omega arith))

  sorted_entry : (n : ℕ) (o : Option X) (es : List (ℕ × X)) → below_all nat_cmp n es ≡ true → is_sorted nat_cmp es ≡ true → is_sorted nat_cmp (with_entry n o es) ≡ true
  sorted_entry n None es h k = k
  sorted_entry n (Some v) es h k = ap (λ b. b && is_sorted nat_cmp es) h ∙ k

  -- the keys ascend
  pub is_sorted-entries : (n : ℕ) (slots : List S) → IsTrue (is_sorted nat_cmp (entries_from f n slots))
  is_sorted-entries n [] = refl
  is_sorted-entries n (s ∷ slots) = sorted_entry n (f s) _ (below_entries n (suc n) slots (omega arith)) (is_sorted-entries (suc n) slots)

  missed : (q n : ℕ) (o : Option X) (es : List (ℕ × X)) → q ≢ n → find nat_cmp q (with_entry n o es) ≡ find nat_cmp q es
  missed q n None es ne = refl
  missed q n (Some v) es ne = ap (λ b. cond b (Some v) (find nat_cmp q es)) (eq_by_cmp-eqb q n ∙ eqb-apart q n ne)

  find-below : (q n : ℕ) (slots : List S) → q < n → find nat_cmp q (entries_from f n slots) ≡ None
  find-below q n [] h = refl
  find-below q n (s ∷ slots) h = missed q n (f s) _ (λ e. omega arith) ∙ find-below q (suc n) slots (omega arith)

  hit : (q n : ℕ) (o : Option X) (es : List (ℕ × X)) → q ≡ n → find nat_cmp q es ≡ None → find nat_cmp q (with_entry n o es) ≡ o
  hit q n None es e none = none
  hit q n (Some v) es e none = ap (λ b. cond b (Some v) (find nat_cmp q es)) (eq_by_cmp-eqb q n ∙ eqb-same q n e)

  module _ (d : S) (none : f d ≡ None) where
    found : (q k n : ℕ) (slots : List S) → q ≡ n + k → find nat_cmp q (entries_from f n slots) ≡ f (get_or slots k d)
    found q zero n [] e = sym none
    found q (suc k) n [] e = sym none
    found q zero n (s ∷ slots) e = hit q n (f s) _ (omega arith) (find-below q (suc n) slots (omega arith))
    found q (suc k) n (s ∷ slots) e = missed q n (f s) _ (λ p. omega arith) ∙ found q k (suc n) slots (omega arith)

    -- what is found at an index is what its slot says
    pub find-entries : (slots : List S) (q : ℕ) → find nat_cmp q (entries_from f 0 slots) ≡ f (get_or slots q d)
    find-entries slots q = found q q 0 slots (omega arith)

    entries_are : (slots : List S) (es : List (ℕ × X)) → T (is_sorted nat_cmp es) → ((q : ℕ) → f (get_or slots q d) ≡ find nat_cmp q es) → entries_from f 0 slots ≡ es
    entries_are slots es up same = same_entries nat_cmp nat_cmp_total nat_cmp-IsAntisymmetric _ _ (passes _ (is_sorted-entries 0 slots)) up (λ q. find-entries slots q ∙ same q)

    module _ (old new : List S) (i : ℕ) (s : S) (change : Changes d old new i s) where
      at_change : (q : ℕ) → f (get_or new q d) ≡ cond (eqb q i) (f s) (f (get_or old q d))
      at_change q = elim (cases_eq q i) [
        | inl e ↦ ap (λ j. f (get_or new j d)) e ∙ ap f change.changed ∙ sym (ap (λ b. cond b (f s) (f (get_or old q d))) (eqb-same q i e))
        | inr ne ↦ ap f (change.others q ne) ∙ sym (ap (λ b. cond b (f s) (f (get_or old q d))) (eqb-apart q i ne))
      ]

      -- where the changed slot has an entry, the map has it
      pub entries-put : (x : X) → f s ≡ Some x → entries_from f 0 new ≡ put nat_cmp i x (entries_from f 0 old)
      entries-put x e =
          let up = passes _ (is_sorted-entries 0 old) in
          entries_are new (put nat_cmp i x (entries_from f 0 old)) (is_sorted-put nat_cmp nat_cmp_total i x _ up)
          (λ q. at_change q ∙ (λ k. cond (eqb q i) (e k) (sym (find-entries old q) k))
          ∙ ap (λ b. cond b (Some x) (find nat_cmp q (entries_from f 0 old))) (sym (eq_by_cmp-eqb q i)) ∙ sym (find-put nat_cmp nat_cmp_total q i x (entries_from f 0 old)))

      -- where it has none, the map is without the index
      pub entries-without : f s ≡ None → entries_from f 0 new ≡ without nat_cmp (entries_from f 0 old) (λ k. eqb k i)
      entries-without e =
          let other : ℕ → Bool = λ k. not (eqb k i) in
          let up = passes _ (is_sorted-entries 0 old) in
          entries_are new (without nat_cmp (entries_from f 0 old) (λ k. eqb k i)) (is_sorted-where_key nat_cmp other _ up)
          (λ q. at_change q ∙ (λ k. cond (eqb q i) (e k) (sym (find-entries old q) k))
          ∙ turned q (find nat_cmp q (entries_from f 0 old)) ∙ sym (find-where_key nat_cmp other q (λ x t. ap other (sym (nat_cmp-IsAntisymmetric q x t))) (entries_from f 0 old)))
        where
          turned_at : (b : Bool) (o : Option X) → cond b None o ≡ cond (not b) o None
          turned_at true o = refl
          turned_at false o = refl

          turned : (q : ℕ) (o : Option X) → cond (eqb q i) None o ≡ cond (not (eqb q i)) o None
          turned q o = turned_at (eqb q i) o

      -- where its entry stays, the map stays
      pub entries-same : f s ≡ f (get_or old i d) → entries_from f 0 new ≡ entries_from f 0 old
      entries-same e =
          entries_are new (entries_from f 0 old) (passes _ (is_sorted-entries 0 old))
          (λ q. at_change q ∙ stays q (cases_eq q i) ∙ sym (find-entries old q))
        where
          stays : (q : ℕ) → (q ≡ i) ⊎ (q ≡ i → ⊥) → cond (eqb q i) (f s) (f (get_or old q d)) ≡ f (get_or old q d)
          stays q (inl p) = ap (λ b. cond b (f s) (f (get_or old q d))) (eqb-same q i p) ∙ e ∙ ap (λ j. f (get_or old j d)) (sym p)
          stays q (inr ne) = ap (λ b. cond b (f s) (f (get_or old q d))) (eqb-apart q i ne)
