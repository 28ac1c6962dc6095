-- The tables that are entered: a finite map from the key of a table to its ids.
use Rattle.std.specs.Prelude.{◌≡◌, ◌≢◌, ℕ, ◌==◌, ◌⊎◌, Bool, true, false, cond, List, Some, None, IsTrue, refl}
use Rattle.std.specs.declared.cmp.Ordering.{Ordering}
use Rattle.std.specs.Ordering.{nat_cmp, eq_by_cmp, on, then_cmp}
use Rattle.std.specs.Cmp.{IsTotalOrder}
use Rattle.std.specs.FinMap.{get-empty, get-insert, get-remove}
use Rattle.std.proofs.Common.{true≢false, inl, inr, sym, ◌∙◌, arith}
use Rattle.std.proofs.lemmas.Bool.{and_parts}
use Rattle.std.proofs.lemmas.Bool.Decides.{Decides-eqb, nat_tests}
use Rattle.std.proofs.lemmas.Cmp.{nat_cmp_total, on_total, then_total, eq_by_cmp_equiv}
use Rattle.std.specs.Coded.{Coded, code_by, coded×, coded_ℕ}
use Rattle.std.specs.List.{list_any}
use Rattle.std.specs.FinMap as finite
use Rattle.ecs_id.specs.Id.{Id}
use Rattle.ecs_id.specs.TableKeys.{table_eq}
use Rattle.ecs_id.specs.declared.TableKey.{TableKey}
use Rattle.id_pattern.specs.declared.Pattern.{Pattern}
use Rattle.id_pattern.specs.Patterns.{matches}

-- keys of tables by slot, then by serial number
abbrev pub table_cmp : TableKey → TableKey → Ordering
table_cmp = then_cmp (on (λ key. key.slot) nat_cmp) (on (λ key. key.serial) nat_cmp)

-- a key is stored as its slot and its serial number
abbrev pub table_code : Coded TableKey
table_code =
    code_by (ℕ × ℕ) (coded× coded_ℕ coded_ℕ) (λ key. (key.slot, key.serial)) (λ p. record { slot = p.0; serial = p.1 }) (λ _. refl)

abbrev pub Entered : Type 0
Entered = finite.FinMap table_cmp (List Id)

-- the table is entered, with an id that the pattern matches
abbrev pub IsMatched : Entered → Pattern → TableKey → Type 0
IsMatched tables pattern key = (ids : List Id) × (finite.get tables key ≡ Some ids) × IsTrue (list_any (matches pattern) ids)

-- the laws of the order, for proofs about maps by table
pub table_cmp_total : IsTotalOrder table_cmp
table_cmp_total = then_total (on_total (λ key. key.slot) nat_cmp_total) (on_total (λ key. key.serial) nat_cmp_total)

-- the order ties where the keys are the same
pub eq_by-table_cmp : (x y : TableKey) → eq_by_cmp table_cmp x y ≡ table_eq x y
eq_by-table_cmp x y = grind (arith, nat_tests)

-- keys that compare equal are one
pub same_table : (x y : TableKey) → table_eq x y ≡ true → x ≡ y
same_table x y h =
    let tests = and_parts (x.slot == y.slot) (x.serial == y.serial) h in
    λ i. record { slot = (Decides-eqb x.slot y.slot).0 tests.0 i; serial = (Decides-eqb x.serial y.serial).0 tests.1 i }

table_eq_itself : (x : TableKey) → table_eq x x ≡ true
table_eq_itself x = sym (eq_by-table_cmp x x) ∙ (eq_by_cmp_equiv table_cmp_total).refl x

-- the test of a map by table with what it means, for `grind`
pub table_cmp_tells : (x y : TableKey) → ((eq_by_cmp table_cmp x y ≡ true) × (x ≡ y)) ⊎ ((eq_by_cmp table_cmp x y ≡ false) × (x ≢ y))
table_cmp_tells x y = by (table_eq x y) refl
  where
    by : (b : Bool) → table_eq x y ≡ b → ((eq_by_cmp table_cmp x y ≡ true) × (x ≡ y)) ⊎ ((eq_by_cmp table_cmp x y ≡ false) × (x ≢ y))
    by true e = inl (eq_by-table_cmp x y ∙ e, same_table x y e)
    by false e = inr (eq_by-table_cmp x y ∙ e, λ p. true≢false (sym (rw p (table_eq_itself y)) ∙ e))

table_cmp_apart : (q key : TableKey) → q ≢ key → eq_by_cmp table_cmp q key ≡ false
table_cmp_apart q key apart = elim (table_cmp_tells q key) [ inl t ↦ absurd (apart t.1) | inr t ↦ t.0 ]

-- what a caller reads after a table enters or leaves: its ids at its key, and at each other key what was there
pub get-entered : (tables : Entered) (key : TableKey) (ids : List Id) → finite.get (finite.insert tables key ids) key ≡ Some ids
get-entered tables key ids = get-insert table_cmp_total tables key ids key ∙ (λ i. cond ((eq_by_cmp_equiv table_cmp_total).refl key i) (Some ids) (finite.get tables key))

pub get-entered_other : (tables : Entered) (key : TableKey) (ids : List Id) (q : TableKey) → q ≢ key → finite.get (finite.insert tables key ids) q ≡ finite.get tables q
get-entered_other tables key ids q apart = get-insert table_cmp_total tables key ids q ∙ (λ i. cond (table_cmp_apart q key apart i) (Some ids) (finite.get tables q))

pub get-left_other : (tables : Entered) (key q : TableKey) → q ≢ key → finite.get (finite.remove tables key) q ≡ finite.get tables q
get-left_other tables key q apart = get-remove table_cmp_total tables key q ∙ (λ i. cond (table_cmp_apart q key apart i) None (finite.get tables q))

-- for maps by table in the proofs of callers
pub ruleset table_gets = (get-empty, get-insert, get-remove, table_cmp_total, table_cmp_tells)
