-- Maps of std in the order of their keys, as the maps of the definitions.
use Rattle.std.proofs.Common.{◌≡◌, ℕ, ◌==◌, Bool, true, false, cond, not, [], ◌∷◌, Some, None, is_some, refl, sym, ap, subst, ◌∙◌, true≢false}
use Rattle.std.specs.declared.cmp.Ordering.{Ordering}
use Rattle.std.specs.declared.cmp.Ordering.TheVariants.{Less, Equal, Greater}
use Rattle.std.specs.Cmp.{nat_cmp_total}
use Rattle.std.specs.FinMap.{nat_cmp-IsAntisymmetric}
use Rattle.std.specs.FinMap.Entries.{below_all, by_order, is_sorted}
use Rattle.std.specs.Ordering.{nat_cmp, is_eq, is_lt, match_ordering}
use Rattle.std.proofs.lemmas.Cmp.{tied_itself}
use Rattle.std.specs.BTreeMap.{insert_entry, is_at}
use Rattle.std.specs.Map.{remove_entry}
use Rattle.ecs_model.specs.Map.{Map, IsMap, value_at, with_value, without}
use Rattle.ecs_model.proofs.Maps.{both_true}
use Rattle.ecs_model.proofs.Members.{eq_itself, eq_same}

module _ {X : Type 0} where
  pub insert_put : (m : Map ℕ X) (k : ℕ) (x : X) → insert_entry nat_cmp m k x ≡ with_value nat_cmp m k x
  insert_put [] k x = refl
  insert_put (e ∷ m) k x = by (nat_cmp k e.0) (insert_put m k x)
    where
      by : (r : Ordering) → insert_entry nat_cmp m k x ≡ with_value nat_cmp m k x
          → match_ordering r ((k, x) ∷ e ∷ m) ((e.0, x) ∷ m) (e ∷ insert_entry nat_cmp m k x) ≡ by_order r ((k, x) ∷ e ∷ m) ((e.0, x) ∷ m) (e ∷ with_value nat_cmp m k x)
      by Less rest = refl
      by Equal rest = refl
      by Greater rest = ap (λ l. e ∷ l) rest

  -- a new entry that is taken out again
  pub removed_again : (m : Map ℕ X) (k : ℕ) (x : X) → value_at nat_cmp m k ≡ None → remove_entry (is_at (nat_cmp k)) (insert_entry nat_cmp m k x) ≡ m
  removed_again [] k x none = ap (λ r. cond (is_eq r) [] ((k, x) ∷ [])) (tied_itself nat_cmp_total k)
  removed_again (e ∷ m) k x none = by (nat_cmp k e.0) refl none (removed_again m k x)
    where
      by : (r : Ordering) → nat_cmp k e.0 ≡ r → cond (is_eq r) (Some e.1) (value_at nat_cmp m k) ≡ None → (value_at nat_cmp m k ≡ None → remove_entry (is_at (nat_cmp k)) (insert_entry nat_cmp m k x) ≡ m)
          → remove_entry (is_at (nat_cmp k)) (match_ordering r ((k, x) ∷ e ∷ m) ((e.0, x) ∷ m) (e ∷ insert_entry nat_cmp m k x)) ≡ e ∷ m
      by Less p n rest = ap (λ r. cond (is_eq r) (e ∷ m) ((k, x) ∷ remove_entry (is_at (nat_cmp k)) (e ∷ m))) (tied_itself nat_cmp_total k)
      by Equal p n rest = absurd (true≢false (ap is_some n))
      by Greater p n rest = ap (λ r. cond (is_eq r) (insert_entry nat_cmp m k x) (e ∷ remove_entry (is_at (nat_cmp k)) (insert_entry nat_cmp m k x))) p ∙ ap (λ l. e ∷ l) (rest n)

-- both tests of equality are one
pub same_test : (k j : ℕ) → is_eq (nat_cmp k j) ≡ (j == k)
same_test k j = by (nat_cmp k j) refl (j == k) refl
  where
    tied : (j == k) ≡ true → nat_cmp k j ≡ Equal
    tied e = ap (nat_cmp k) (eq_same j k e) ∙ tied_itself nat_cmp_total k

    by : (r : Ordering) → nat_cmp k j ≡ r → (b : Bool) → (j == k) ≡ b → is_eq r ≡ b
    by Equal p true e = refl
    by Equal p false e = absurd (true≢false (sym (ap (λ x. x == k) (sym (nat_cmp-IsAntisymmetric k j p)) ∙ eq_itself k) ∙ e))
    by Less p true e = ap is_eq (sym p ∙ tied e)
    by Less p false e = refl
    by Greater p true e = ap is_eq (sym p ∙ tied e)
    by Greater p false e = refl

less_apart : (r : Ordering) → is_lt r ≡ true → is_eq r ≡ false
less_apart Less h = refl
less_apart Equal h = absurd (true≢false (sym h))
less_apart Greater h = absurd (true≢false (sym h))

module _ {X : Type 0} where
  -- nothing goes where all keys are greater
  none_goes : (m : Map ℕ X) (k : ℕ) → below_all nat_cmp k m ≡ true → without nat_cmp m (λ j. j == k) ≡ m
  none_goes [] k h = refl
  none_goes (e ∷ m) k h =
      let parts = both_true (is_lt (nat_cmp k e.0)) (below_all nat_cmp k m) h in
      ap (λ b. cond (not b) (e ∷ without nat_cmp m (λ j. j == k)) (without nat_cmp m (λ j. j == k))) (sym (same_test k e.0) ∙ less_apart (nat_cmp k e.0) parts.0)
      ∙ ap (λ l. e ∷ l) (none_goes m k parts.1)

  -- an entry that is taken out
  pub remove_without : (m : Map ℕ X) (k : ℕ) → IsMap nat_cmp m → remove_entry (is_at (nat_cmp k)) m ≡ without nat_cmp m (λ j. j == k)
  remove_without [] k h = refl
  remove_without (e ∷ m) k h =
      let parts = both_true (below_all nat_cmp e.0 m) (is_sorted nat_cmp m) h in
      by (nat_cmp k e.0) refl parts.0 (remove_without m k parts.1) ∙ ap (λ b. cond (not b) (e ∷ without nat_cmp m (λ j. j == k)) (without nat_cmp m (λ j. j == k))) (same_test k e.0)
    where
      by : (r : Ordering) → nat_cmp k e.0 ≡ r → below_all nat_cmp e.0 m ≡ true → remove_entry (is_at (nat_cmp k)) m ≡ without nat_cmp m (λ j. j == k)
          → cond (is_eq r) m (e ∷ remove_entry (is_at (nat_cmp k)) m) ≡ cond (not (is_eq r)) (e ∷ without nat_cmp m (λ j. j == k)) (without nat_cmp m (λ j. j == k))
      by Less p low rest = ap (λ l. e ∷ l) rest
      by Equal p low rest = sym (none_goes m k (subst (λ x. below_all nat_cmp x m ≡ true) (sym (nat_cmp-IsAntisymmetric k e.0 p)) low))
      by Greater p low rest = ap (λ l. e ∷ l) rest
