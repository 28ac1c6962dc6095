-- The lists of tables, each of which has a table once.
use Rattle.std.proofs.Common.{◌≡◌, ◌⊎◌, ◌↔◌, ◌||◌, Bool, true, false, true≢false, cond, List, [], ◌∷◌, ◌++◌, Option, Some, None, Contains, refl, sym, ap, ◌∙◌, inl, inr, arith}
use Rattle.std.specs.Prelude.{unwrap_or}
use Rattle.std.specs.Option.{option_map_or}
use Rattle.std.specs.List.{IsDistinct, list_any}
use Rattle.std.specs.HashMap.{HashMap, get}
use Rattle.std.specs.Map.{lookup}
use Rattle.std.proofs.lemmas.List.Elements.{Contains-append_cases, Contains-append_left, Contains-append_right, Contains-push_cases}
use Rattle.indexmap.specs.IndexSet.{insert_all, insert_key}
use Rattle.indexmap.proofs.CallerLemmas.{Contains-insert_key}
use Rattle.indexmap.proofs.SetLemmas.{set_all_distinct}
use Rattle.ecs_id.specs.declared.TableKey.{TableKey}
use Rattle.id_pattern.specs.declared.Pattern.{Pattern}
use Rattle.ecs_id.specs.TableKeys.{table_eq}
use Rattle.component_index.specs.Entered.{Entered, IsMatched, same_table}
use Rattle.component_index.specs.Listed.{AreListed}
use Rattle.component_index.specs.Listings.{Lists, ListsEntered, listed_in, lists_of}
use Rattle.component_index.specs.Mentions.{MayBeListed, may_match}
use Rattle.id_pattern.specs.SamePattern.{pattern_eq}
use Rattle.component_index.specs.TableList.{has}
use Rattle.component_index.proofs.EnteredLemmas.{in_list, in_no_list, none_distinct}
use Rattle.component_index.proofs.TableLemmas.{distinct_key, none_once, table_eq_equiv}

-- ---- keys that are put in, one after another
distinct_keys : (ks xs : List TableKey) → IsDistinct table_eq ks → IsDistinct table_eq (insert_all table_eq ks xs)
distinct_keys ks [] d = d
distinct_keys ks (x ∷ xs) d = distinct_keys (insert_key table_eq ks x) xs (distinct_key ks x d)

key_kept : (ks : List TableKey) (x k : TableKey) → Contains ks k → Contains (insert_key table_eq ks x) k
key_kept ks x k h = by (list_any (table_eq x) ks)
  where
    by : (b : Bool) → Contains (cond b ks (ks ++ x ∷ [])) k
    by true = h
    by false = Contains-append_left ks (x ∷ []) k h

key_from : (ks : List TableKey) (x k : TableKey) → Contains (insert_key table_eq ks x) k → Contains ks k ⊎ (x ≡ k)
key_from ks x k h = by (list_any (table_eq x) ks) h
  where
    by : (b : Bool) → Contains (cond b ks (ks ++ x ∷ [])) k → Contains ks k ⊎ (x ≡ k)
    by true i = inl i
    by false i = Contains-push_cases ks x k i

keys_from : (ks xs : List TableKey) (k : TableKey) → Contains (insert_all table_eq ks xs) k → Contains ks k ⊎ Contains xs k
keys_from ks [] k h = inl h
keys_from ks (x ∷ xs) k h =
    elim (keys_from (insert_key table_eq ks x) xs k h) [
      | inl i ↦ elim (key_from ks x k i) [ inl j ↦ inl j | inr e ↦ inr (0, omega arith, e) ]
      | inr t ↦ inr (Contains-append_right (x ∷ []) xs k t)
    ]

keys_in : (ks xs : List TableKey) (k : TableKey) → Contains ks k ⊎ Contains xs k → Contains (insert_all table_eq ks xs) k
keys_in ks [] k (inl h) = h
keys_in ks [] k (inr h) = absurd (omega (arith, h.1))
keys_in ks (x ∷ xs) k (inl h) = keys_in (insert_key table_eq ks x) xs k (inl (key_kept ks x k h))
keys_in ks (x ∷ xs) k (inr h) =
    elim (Contains-append_cases (x ∷ []) xs k h) [
      | inl i ↦ elim (Contains-push_cases [] x k i) [ inl n ↦ absurd (omega (arith, n.1)) | inr e ↦ keys_in (insert_key table_eq ks x) xs k (inl (rw (← e) (Contains-insert_key table_eq same_table ks x))) ]
      | inr t ↦ keys_in (insert_key table_eq ks x) xs k (inr t)
    ]

each_once : (xs : List TableKey) (k : TableKey) → Contains (insert_all table_eq [] xs) k ↔ Contains xs k
each_once xs k = (λ h. elim (keys_from [] xs k h) [ inl n ↦ absurd (omega (arith, n.1)) | inr t ↦ t ], λ h. keys_in [] xs k (inr h))

pub listed_once : (lists : Lists) (p : Pattern) → IsDistinct table_eq (listed_in lists p)
listed_once lists p = distinct_keys [] (unwrap_or (lookup (pattern_eq p) lists) []) none_once

-- ---- the list of a pattern
module _ {S : Type 0} (lists : HashMap Pattern (List TableKey) S) (p : Pattern) where
  read_of : (o : Option (List TableKey)) → get pattern_eq lists p ≡ o → listed_in (lists_of lists) p ≡ insert_all table_eq [] (unwrap_or o [])
  read_of o is = ap (λ found. insert_all table_eq [] (unwrap_or found [])) is

  pub read_some : (list : List TableKey) → get pattern_eq lists p ≡ Some list → IsDistinct table_eq list → list ≡ listed_in (lists_of lists) p
  read_some list is d = sym (read_of (Some list) is ∙ set_all_distinct table_eq_equiv [] list d)

  pub read_none : get pattern_eq lists p ≡ None → [] ≡ listed_in (lists_of lists) p
  read_none is = sym (read_of None is)

pub lists_entered : {S : Type 0} (was : Entered) (lists : HashMap Pattern (List TableKey) S) → AreListed was lists → (tables : Entered) → was ≡ tables → ListsEntered tables (lists_of lists)
lists_entered {S} was lists right tables view p k = by (get pattern_eq lists p) refl
  where
    by : (o : Option (List TableKey)) → get pattern_eq lists p ≡ o → Contains (listed_in (lists_of lists) p) k ↔ IsMatched tables p k
    by None is = rw (read_of lists p None is) (in_no_list was lists right tables view p is k)
    by (Some list) is =
        let same = each_once list k in
        let holds = in_list was lists right tables view p list is list refl k in
        rw (read_of lists p (Some list) is) (λ h. holds.0 (same.0 h), λ h. same.1 (holds.1 h))

-- ---- a list that is given by marks
none_had : (list : List TableKey) → ((k : TableKey) → has list k ≡ true → ⊥) → list ≡ []
none_had [] f = refl
none_had (x ∷ list) f = absurd (f x (λ i. table_eq_equiv.refl x i || list_any (table_eq x) list))

-- a pattern that can't match has an empty list, or none
pub none_listed : {S : Type 0} (marks : List Bool) (lists : HashMap Pattern (List TableKey) S) → MayBeListed marks lists → (p : Pattern) → may_match marks p ≡ false → [] ≡ listed_in (lists_of lists) p
none_listed {S} marks lists marked p unmet = by (get pattern_eq lists p) refl
  where
    by : (o : Option (List TableKey)) → get pattern_eq lists p ≡ o → [] ≡ listed_in (lists_of lists) p
    by None is = read_none lists p is
    by (Some list) is =
        let empty : list ≡ [] = none_had list (λ k h. true≢false (sym (marked p k (ap (λ o. option_map_or (λ l. has l k) o false) is ∙ h)) ∙ unmet)) in
        sym empty ∙ read_some lists p list is (none_distinct list empty)
