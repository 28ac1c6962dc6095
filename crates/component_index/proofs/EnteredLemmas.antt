-- What the map of the entered tables holds after a change, and that the lists keep to it.
use Rattle.std.proofs.Common.{◌≡◌, ◌&&◌, ◌||◌, ◌↔◌, not, Bool, true, false, cond, true≢false, List, [], Option, Some, None, unwrap_or, Contains, refl, sym, ap, subst, ◌∙◌}
use Rattle.std.specs.Option.{option_map_or}
use Rattle.std.specs.Ordering.{eq_by_cmp}
use Rattle.std.specs.Map.{lookup}
use Rattle.std.specs.HashMap.{HashMap, get}
use Rattle.std.specs.List.{list_any, IsDistinct}
use Rattle.std.specs.FinMap as finite
use Rattle.std.proofs.lemmas.Bool.{and_parts}
use Rattle.std.proofs.lemmas.Cmp.{eq_by_cmp_equiv}
use Rattle.std.proofs.lemmas.Map.Views.{list_any-from_Contains, Contains-from_any}
use Rattle.ecs_id.specs.Id.{Id}
use Rattle.ecs_id.specs.declared.TableKey.{TableKey}
use Rattle.id_pattern.specs.declared.Pattern.{Pattern}
use Rattle.id_pattern.specs.Patterns.{matches}
use Rattle.ecs_id.specs.TableKeys.{table_eq}
use Rattle.component_index.specs.Entered.{Entered, IsMatched, table_cmp, table_cmp_total, eq_by-table_cmp, same_table}
use Rattle.component_index.specs.Listed.{is_listed, is_matched, Adds, Drops, AreListed, IsNewest, Keeps as KeepsOthers}
use Rattle.component_index.specs.Mentions.{AreMarked, Keeps, may_match}
use Rattle.component_index.specs.TableList.{has}
use Rattle.id_pattern.specs.SamePattern.{pattern_eq}
use Rattle.component_index.proofs.MentionLemmas.{match_kept}
use Rattle.component_index.proofs.ListedLemmas.{and_all}
use Rattle.component_index.proofs.TableLemmas.{table_eq_equiv}

-- ---- the lists beside it
abbrev matched_in : Pattern → Option (List Id) → Bool
matched_in pattern o = option_map_or (list_any (matches pattern)) o false

-- one table at one pattern: t says whether it is the table that changes, and s whether the pattern matches one of its ids
enter_at : (t s h : Bool) → (t ≡ true → h ≡ false) → (h || (s && t)) ≡ cond t s h
enter_at true true false f = refl
enter_at true false false f = refl
enter_at true s true f = absurd (true≢false (f refl))
enter_at false true true f = refl
enter_at false true false f = refl
enter_at false false true f = refl
enter_at false false false f = refl

leave_at : (t s h : Bool) → (t ≡ true → h ≡ s) → (h && not (s && t)) ≡ cond t false h
leave_at true true h f = (λ i. f refl i && false)
leave_at true false h f = (λ i. f refl i && true)
leave_at false true true f = refl
leave_at false true false f = refl
leave_at false false true f = refl
leave_at false false false f = refl

-- what a pattern matches at a key that the map's new value is put at, or taken from
matched_at : (p : Pattern) (t : Bool) (w o : Option (List Id)) → matched_in p (cond t w o) ≡ cond t (matched_in p w) (matched_in p o)
matched_at p true w o = refl
matched_at p false w o = refl

module _ (tables : Entered) (key : TableKey) where
  here : (o : Option (List Id)) → finite.get tables key ≡ o → (p : Pattern) (k : TableKey) → table_eq key k ≡ true → is_matched tables p k ≡ matched_in p o
  here o is p k e = ap (λ q. is_matched tables p q) (sym (same_table key k e)) ∙ ap (matched_in p) is

  there : (k : TableKey) → eq_by_cmp table_cmp k key ≡ table_eq key k
  there k = sym (sym (eq_by-table_cmp key k) ∙ (eq_by_cmp_equiv table_cmp_total).symm key k)

  matched-insert : (ids : List Id) (p : Pattern) (k : TableKey) → is_matched (finite.insert tables key ids) p k ≡ cond (table_eq key k) (list_any (matches p) ids) (is_matched tables p k)
  matched-insert ids p k = ap (matched_in p) (finite.get-insert table_cmp_total tables key ids k) ∙ matched_at p (eq_by_cmp table_cmp k key) (Some ids) (finite.get tables k)
      ∙ (λ i. cond (there k i) (list_any (matches p) ids) (is_matched tables p k))

  matched-remove : (p : Pattern) (k : TableKey) → is_matched (finite.remove tables key) p k ≡ cond (table_eq key k) false (is_matched tables p k)
  matched-remove p k = ap (matched_in p) (finite.get-remove table_cmp_total tables key k) ∙ matched_at p (eq_by_cmp table_cmp k key) None (finite.get tables k)
      ∙ (λ i. cond (there k i) false (is_matched tables p k))

-- the lists are right after each call
module _ {S : Type 0} (old new : HashMap Pattern (List TableKey) S) (was is : Entered) (right : AreListed was old) (tables : Entered) (view : was ≡ tables) (key : TableKey) (ids : List Id) where
  right_at : (p : Pattern) (k : TableKey) → is_listed old p k ≡ is_matched tables p k
  right_at p k = right p k ∙ ap (λ t. is_matched t p k) view

  pub AreListed-enter : finite.get tables key ≡ None → is ≡ finite.insert was key ids → Adds old new (λ p. list_any (matches p) ids) key → AreListed is new
  AreListed-enter none changed adds p k = adds p k
      ∙ enter_at (table_eq key k) (list_any (matches p) ids) (is_listed old p k) (λ e. right_at p k ∙ here tables key None none p k e)
      ∙ (λ i. cond (table_eq key k) (list_any (matches p) ids) (right_at p k i)) ∙ sym (matched-insert tables key ids p k)
      ∙ (λ i. is_matched (finite.insert (sym view i) key ids) p k) ∙ ap (λ t. is_matched t p k) (sym changed)

  pub AreListed-leave : finite.get tables key ≡ Some ids → is ≡ finite.remove was key → Drops old new (λ p. list_any (matches p) ids) key → AreListed is new
  AreListed-leave had changed drops p k = drops p k
      ∙ leave_at (table_eq key k) (list_any (matches p) ids) (is_listed old p k) (λ e. right_at p k ∙ here tables key (Some ids) had p k e)
      ∙ (λ i. cond (table_eq key k) false (right_at p k i)) ∙ sym (matched-remove tables key p k)
      ∙ (λ i. is_matched (finite.remove (sym view i) key) p k) ∙ ap (λ t. is_matched t p k) (sym changed)

none_and : (b : Bool) → (b && false) ≡ false
none_and true = refl
none_and false = refl

-- the lists are right again once a table that couldn't be entered is taken out of those that had taken it
module _ {S : Type 0} (old mid new : HashMap Pattern (List TableKey) S) (was : Entered) (right : AreListed was old) (tables : Entered) (view : was ≡ tables) (key : TableKey) (ids : List Id) where
  pub AreListed-refused : finite.get tables key ≡ None → KeepsOthers old mid (λ p. list_any (matches p) ids) key → Drops mid new (λ p. list_any (matches p) ids) key → AreListed was new
  AreListed-refused none keeps drops p k = by (list_any (matches p) ids && table_eq key k) refl
    where
      by : (b : Bool) → (list_any (matches p) ids && table_eq key k) ≡ b → is_listed new p k ≡ is_matched was p k
      by true e = drops p k ∙ (λ i. is_listed mid p k && not (e i)) ∙ none_and (is_listed mid p k)
          ∙ sym (ap (λ t. is_matched t p k) view ∙ here tables key None none p k (and_parts (list_any (matches p) ids) (table_eq key k) e).1)
      by false e = drops p k ∙ (λ i. is_listed mid p k && not (e i)) ∙ sym (and_all (is_listed mid p k)) ∙ keeps p k e ∙ right p k

-- no list has a table that isn't entered
unwrapped_has : (o : Option (List TableKey)) (k : TableKey) → has (unwrap_or o []) k ≡ option_map_or (λ list. has list k) o false
unwrapped_has None k = refl
unwrapped_has (Some list) k = refl

pub IsNewest-none : {S : Type 0} (was : Entered) (lists : HashMap Pattern (List TableKey) S) → AreListed was lists → (tables : Entered) → was ≡ tables → (key : TableKey) → finite.get tables key ≡ None → IsNewest lists key
IsNewest-none was lists right tables view key none p h =
    absurd (true≢false (sym h ∙ unwrapped_has (get pattern_eq lists p) key ∙ right p key ∙ ap (λ t. is_matched t p key) view ∙ here tables key None none p key (table_eq_equiv.refl key)))

pub AreListed-empty : {S : Type 0} (tables : Entered) (lists : HashMap Pattern (List TableKey) S) → tables ≡ finite.empty → lists.entries ≡ [] → AreListed tables lists
AreListed-empty tables lists none no_lists p k =
    (λ i. option_map_or (λ list. has list k) (lookup (pattern_eq p) (no_lists i)) false)
    ∙ sym (ap (λ t. is_matched t p k) none ∙ ap (matched_in p) (finite.get-empty table_cmp k))

-- ---- the marks beside it
pub AreMarked-empty : (marks : List Bool) (tables : Entered) → tables ≡ finite.empty → AreMarked marks tables
AreMarked-empty marks tables none p k h = absurd (true≢false (sym h ∙ ap (λ t. is_matched t p k) none ∙ ap (matched_in p) (finite.get-empty table_cmp k)))

pub AreMarked-kept : (old new : List Bool) (tables : Entered) → AreMarked old tables → Keeps old new → AreMarked new tables
AreMarked-kept old new tables marked kept p k h = match_kept old new kept p (marked p k h)

module _ (was is : Entered) (key : TableKey) where
  pub AreMarked-enter : (old new : List Bool) (ids : List Id) → AreMarked old was → Keeps old new → ((p : Pattern) → list_any (matches p) ids ≡ true → may_match new p ≡ true) → is ≡ finite.insert was key ids → AreMarked new is
  AreMarked-enter old new ids marked kept noted changed p k h =
      by (table_eq key k) refl (sym (matched-insert was key ids p k) ∙ ap (λ t. is_matched t p k) (sym changed) ∙ h)
    where
      by : (b : Bool) → table_eq key k ≡ b → cond (table_eq key k) (list_any (matches p) ids) (is_matched was p k) ≡ true → may_match new p ≡ true
      by true e g = noted p (sym (λ i. cond (e i) (list_any (matches p) ids) (is_matched was p k)) ∙ g)
      by false e g = match_kept old new kept p (marked p k (sym (λ i. cond (e i) (list_any (matches p) ids) (is_matched was p k)) ∙ g))

  pub AreMarked-leave : (marks : List Bool) → AreMarked marks was → is ≡ finite.remove was key → AreMarked marks is
  AreMarked-leave marks marked changed p k h = by (table_eq key k) refl (sym (matched-remove was key p k) ∙ ap (λ t. is_matched t p k) (sym changed) ∙ h)
    where
      by : (b : Bool) → table_eq key k ≡ b → cond (table_eq key k) false (is_matched was p k) ≡ true → may_match marks p ≡ true
      by true e g = absurd (true≢false (sym g ∙ (λ i. cond (e i) false (is_matched was p k))))
      by false e g = marked p k (sym (λ i. cond (e i) false (is_matched was p k)) ∙ g)

-- ---- what `tables_of` answers
matched : (p : Pattern) (o : Option (List Id)) → matched_in p o ≡ true → (ids : List Id) × (o ≡ Some ids) × (list_any (matches p) ids ≡ true)
matched p None h = absurd (true≢false (sym h))
matched p (Some ids) h = (ids, refl, h)

pub IsMatched-from_test : (tables : Entered) (p : Pattern) (k : TableKey) → is_matched tables p k ≡ true → IsMatched tables p k
IsMatched-from_test tables p k h = matched p (finite.get tables k) h

pub test-from_IsMatched : (tables : Entered) (p : Pattern) (k : TableKey) → IsMatched tables p k → is_matched tables p k ≡ true
test-from_IsMatched tables p k h = ap (matched_in p) h.1 ∙ h.2

-- the list of a pattern has the tables that it matches
listed : (keys : List TableKey) (tables : Entered) (p : Pattern) → ((k : TableKey) → list_any (table_eq k) keys ≡ is_matched tables p k) → (k : TableKey) → Contains keys k ↔ IsMatched tables p k
listed keys tables p same k = (
  λ h. IsMatched-from_test tables p k (sym (same k) ∙ list_any-from_Contains table_eq_equiv k keys h),
  λ h. Contains-from_any same_table k keys (same k ∙ test-from_IsMatched tables p k h),
)

module _ {S : Type 0} (was : Entered) (lists : HashMap Pattern (List TableKey) S) (right : AreListed was lists) (tables : Entered) (view : was ≡ tables) (p : Pattern) where
  has_matched : (keys : List TableKey) → ((k : TableKey) → list_any (table_eq k) keys ≡ is_listed lists p k) → (k : TableKey) → Contains keys k ↔ IsMatched tables p k
  has_matched keys same = listed keys tables p (λ k. same k ∙ right p k ∙ ap (λ t. is_matched t p k) view)

  pub in_list : (list : List TableKey) → get pattern_eq lists p ≡ Some list → (keys : List TableKey) → keys ≡ list → (k : TableKey) → Contains keys k ↔ IsMatched tables p k
  in_list list is keys e = has_matched keys (λ k. ap (list_any (table_eq k)) e ∙ ap (λ o. option_map_or (λ list. has list k) o false) (sym is))

  pub in_no_list : get pattern_eq lists p ≡ None → (k : TableKey) → Contains [] k ↔ IsMatched tables p k
  in_no_list is = has_matched [] (λ k. ap (λ o. option_map_or (λ list. has list k) o false) (sym is))

pub none_distinct : (keys : List TableKey) → keys ≡ [] → IsDistinct table_eq keys
unfolding IsDistinct
none_distinct keys e = subst (IsDistinct table_eq) (sym e) tt
