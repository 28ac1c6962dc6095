-- Lists of tables, each of which has a table once.
use Rattle.std.proofs.Common.{◌≡◌, ℕ, suc, ◌-◌, ◌<◌, ◌||◌, not, Bool, true, false, cond, true≢false, List, [], ◌∷◌, ◌++◌, length, get_or, nat_lt, length-append, Option, Some, None, Result, Ok, Err, OnOk, OnErr, refl, sym, ap, subst, ◌∙◌, arith}
use Rattle.std.specs.Option.{option_map_or}
use Rattle.std.specs.List.{IsDistinct, AllByRecursion, list_any, position, position_or_len, slice_get, swap_remove}
use Rattle.std.specs.List.Sorted.{IsPermutation}
use Rattle.std.specs.Cmp.{IsEquivalence}
use Rattle.std.proofs.lemmas.Bool.Decides.{Decides-ltb}
use Rattle.std.proofs.lemmas.Bool.{ltb-false, not-false}
use Rattle.std.proofs.lemmas.Cmp.{eq_by_cmp_equiv}
use Rattle.std.proofs.Math.Seq.{get_or-append_seam}
use Rattle.std.proofs.lemmas.List.{get_or_default}
use Rattle.std.proofs.lemmas.Option.{get_or_from_slice_get, slice_get-get_or, slice_get_within}
use Rattle.std.proofs.lemmas.List.Folds.{list_any_at, list_any-append}
use Rattle.std.proofs.lemmas.List.Sorted.{IsPermutation-swap_remove, list_any-IsPermutation}
use Rattle.std.proofs.lemmas.List.Sums.{fails_before_first, prefix_len_stops}
use Rattle.std.proofs.lemmas.Map.Keys.{IsDistinct-IsPermutation, IsDistinct-head, IsDistinct-push, IsDistinct-tail}
use Rattle.std.proofs.Math.Bool.{or-false}
use Rattle.indexmap.specs.IndexSet.{insert_key}
use Rattle.ecs_id.specs.declared.TableKey.{TableKey}
use Rattle.ecs_id.specs.TableKeys.{table_eq}
use Rattle.component_index.specs.Entered.{table_cmp_total, eq_by-table_cmp, same_table}
use Rattle.component_index.specs.TableList.{has, is_last, IsNewOrLast, IsPlace, Loses}
pub use Rattle.id_pattern.proofs.Errors.{on_err}

pub table_eq_equiv : IsEquivalence table_eq
table_eq_equiv = subst IsEquivalence (λ i x y. eq_by-table_cmp x y i) (eq_by_cmp_equiv table_cmp_total)

-- ---- a table that comes in
pub none_once : IsDistinct table_eq []
unfolding IsDistinct
none_once = tt

pub distinct_key : (ks : List TableKey) (x : TableKey) → IsDistinct table_eq ks → IsDistinct table_eq (insert_key table_eq ks x)
distinct_key ks x d = by (list_any (table_eq x) ks) refl
  where
    by : (b : Bool) → list_any (table_eq x) ks ≡ b → IsDistinct table_eq (cond b ks (ks ++ x ∷ []))
    by true e = d
    by false e = IsDistinct-push table_eq_equiv ks x d e

pub one_once : (key : TableKey) → IsDistinct table_eq (key ∷ [])
one_once key = distinct_key [] key none_once

pub kept : (ks : List TableKey) (key : TableKey) → has ks key ≡ true → ks ≡ insert_key table_eq ks key
kept ks key h = λ i. cond (sym h i) ks (ks ++ key ∷ [])

pub put : (ks : List TableKey) (key : TableKey) → has ks key ≡ false → ks ++ key ∷ [] ≡ insert_key table_eq ks key
put ks key h = λ i. cond (sym h i) ks (ks ++ key ∷ [])

-- the only item of a list
pub only_item : (ks : List TableKey) (x : TableKey) → length ks ≡ 1 → x ≡ get_or ks 0 x → ks ≡ x ∷ []
only_item [] x one is = absurd (omega arith)
only_item (y ∷ []) x one is = λ i. sym is i ∷ []
only_item (y ∷ z ∷ ks) x one is = absurd (omega arith)

in_or : (a b : Bool) → (a || (b || false)) ≡ cond b true a
in_or true true = refl
in_or true false = refl
in_or false true = refl
in_or false false = refl

-- the list has what it had, and the table
pub has-insert_key : (ks : List TableKey) (key k : TableKey) → has (insert_key table_eq ks key) k ≡ cond (table_eq key k) true (has ks k)
has-insert_key ks key k = by (has ks key) refl
  where
    at : (t : Bool) → table_eq key k ≡ t → has ks key ≡ true → has ks k ≡ cond t true (has ks k)
    at true e h = ap (has ks) (sym (same_table key k e)) ∙ h
    at false e h = refl

    by : (b : Bool) → has ks key ≡ b → has (cond b ks (ks ++ key ∷ [])) k ≡ cond (table_eq key k) true (has ks k)
    by true h = at (table_eq key k) refl h
    by false h = list_any-append (table_eq k) ks (key ∷ []) ∙ in_or (has ks k) (table_eq k key) ∙ (λ i. cond (table_eq_equiv.symm k key i) true (has ks k))

-- ---- a table that is new, or stands last
last_at : (ks : List TableKey) (key : TableKey) (o : Option TableKey) → slice_get ks (length ks - 1) ≡ o → option_map_or (table_eq key) o false ≡ true → has ks key ≡ true
last_at ks key None e h = absurd (true≢false (sym h))
last_at ks key (Some x) e h =
    list_any_at (table_eq key) ks (length ks - 1) x (slice_get_within ks (length ks - 1) x e) (ap (table_eq key) (get_or_from_slice_get ks (length ks - 1) x x e) ∙ h)

-- a list has the table that stands last
pub last_has : (ks : List TableKey) (key : TableKey) → is_last ks key ≡ true → has ks key ≡ true
last_has ks key h = last_at ks key (slice_get ks (length ks - 1)) refl h

pub new_unless_last : (ks : List TableKey) (key : TableKey) → IsNewOrLast ks key → is_last ks key ≡ false → has ks key ≡ false
new_unless_last ks key f h = by (has ks key) refl
  where
    by : (b : Bool) → has ks key ≡ b → b ≡ false
    by true e = sym (f e) ∙ h
    by false e = refl

last_pushed : (ks : List TableKey) (key : TableKey) → is_last (ks ++ key ∷ []) key ≡ true
last_pushed ks key =
    let count : length (ks ++ key ∷ []) - 1 ≡ length ks = omega (arith, length-append ks (key ∷ [])) in
    let within : length ks < length (ks ++ key ∷ []) = omega (arith, length-append ks (key ∷ [])) in
    ap (λ n. option_map_or (table_eq key) (slice_get (ks ++ key ∷ []) n) false) count
    ∙ ap (λ o. option_map_or (table_eq key) o false) (slice_get-get_or (ks ++ key ∷ []) (length ks) key within ∙ ap Some (get_or-append_seam ks key [] key))
    ∙ table_eq_equiv.refl key

pub last_inserted : (ks : List TableKey) (key : TableKey) → IsNewOrLast ks key → IsNewOrLast (insert_key table_eq ks key) key
last_inserted ks key f = by (has ks key)
  where
    by : (b : Bool) → IsNewOrLast (cond b ks (ks ++ key ∷ [])) key
    by true = f
    by false = λ _. last_pushed ks key

-- what a push that succeeds makes of a list that doesn't have the table
pub inserted : {X E : Type 0} (r : Result X E) (old new : List TableKey) (key : TableKey) → has old key ≡ false → OnOk r (new ≡ old ++ key ∷ []) → OnOk r (new ≡ insert_key table_eq old key)
inserted (Ok x) old new key h e = e ∙ put old key h
inserted (Err x) old new key h e = e

-- ---- where a table stands
none_passes : {X : Type 0} (t : X → Bool) (xs : List X) → ((k : ℕ) (d : X) → k < length xs → t (get_or xs k d) ≡ false) → list_any t xs ≡ false
none_passes t [] h = refl
none_passes t (x ∷ xs) h = (λ i. h 0 x (omega arith) i || none_passes t xs (λ k d w. h (suc k) d (omega arith)) i)

module _ (key : TableKey) (ks : List TableKey) where
  abbrev place : ℕ
  place = position_or_len (table_eq key) ks

  place_some : (i : ℕ) → position (table_eq key) ks ≡ Some i → (d : TableKey) → (i < length ks) × (table_eq key (get_or ks i d) ≡ true)
  place_some i e d = by (nat_lt place (length ks)) refl e
    where
      by : (b : Bool) → nat_lt place (length ks) ≡ b → cond b (Some place) None ≡ Some i → (i < length ks) × (table_eq key (get_or ks i d) ≡ true)
      by true w e =
          let within : place < length ks = (Decides-ltb place (length ks)).0 w in
          let at : place ≡ i = cc in
          subst (λ j. (j < length ks) × (table_eq key (get_or ks j d) ≡ true)) at (within, not-false _ (prefix_len_stops (λ x. not (table_eq key x)) ks d within))
      by false w e = absurd (cc)

  pub place_none : position (table_eq key) ks ≡ None → has ks key ≡ false
  place_none e = by (nat_lt place (length ks)) refl e
    where
      by : (b : Bool) → nat_lt place (length ks) ≡ b → cond b (Some place) None ≡ None → has ks key ≡ false
      by true w e = absurd (cc)
      by false w e = none_passes (table_eq key) ks (λ k d below. fails_before_first (table_eq key) ks k d (omega (arith, ltb-false place (length ks) w)))

  -- a key that is read at a place stands there
  pub IsPlace-at : (i : ℕ) (x : TableKey) → i < length ks → x ≡ get_or ks i x → table_eq key x ≡ true → IsPlace ks key (Some i)
  IsPlace-at i x within is h = (within, λ d. ap (table_eq key) (get_or_default ks i d x within ∙ sym is) ∙ h)

  -- what a search finds is where the table stands
  pub IsPlace-position : IsPlace ks key (position (table_eq key) ks)
  IsPlace-position = by (position (table_eq key) ks) refl
    where
      by : (o : Option ℕ) → position (table_eq key) ks ≡ o → IsPlace ks key o
      by None e = place_none e
      by (Some i) e = ((place_some i e key).0, λ d. (place_some i e d).1)

-- ---- a table that goes
none_among : (x : TableKey) (ks : List TableKey) → AllByRecursion (λ y. table_eq x y ≡ false) ks → has ks x ≡ false
none_among x [] h = refl
none_among x (y ∷ ks) h = (λ i. h.0 i || none_among x ks h.1 i)

pub Loses-none : (ks : List TableKey) (key : TableKey) → has ks key ≡ false → Loses ks ks key
Loses-none ks key h k = by (table_eq key k) refl
  where
    by : (b : Bool) → table_eq key k ≡ b → has ks k ≡ cond b false (has ks k)
    by true e = ap (has ks) (sym (same_table key k e)) ∙ h
    by false e = refl

pub Loses-only : (ks : List TableKey) (first key : TableKey) → ks ≡ first ∷ [] → table_eq first key ≡ true → Loses ks [] key
Loses-only ks first key is e k = by (table_eq key k) refl
  where
    by : (b : Bool) → table_eq key k ≡ b → false ≡ cond b false (has ks k)
    by true t = refl
    by false t =
        sym (ap (λ l. has l k) is ∙ or-false (table_eq k first) ∙ table_eq_equiv.symm k first ∙ ap (λ x. table_eq x k) (same_table first key e) ∙ t)

module _ (ks : List TableKey) (once : IsDistinct table_eq ks) (key : TableKey) (i : ℕ) (is : IsPlace ks key (Some i)) (x : TableKey) (taken : x ≡ get_or ks i x) where
  at : (i < length ks) × (table_eq key (get_or ks i x) ≡ true)
  at = (is.0, is.1 x)

  same : key ≡ x
  same = same_table key (get_or ks i x) at.1 ∙ sym taken

  abbrev rest : List TableKey
  rest = swap_remove ks i x

  moved : IsPermutation ks (x ∷ rest)
  moved = IsPermutation-swap_remove ks i x at.0 taken

  apart : IsDistinct table_eq (x ∷ rest)
  apart = IsDistinct-IsPermutation table_eq table_eq_equiv.symm ks (x ∷ rest) moved once

  pub once-swap_remove : IsDistinct table_eq (swap_remove ks i x)
  once-swap_remove = IsDistinct-tail table_eq x rest apart

  gone : (k : TableKey) → has rest k ≡ cond (table_eq key k) false (table_eq k x || has rest k)
  gone k = by (table_eq key k) refl
    where
      by : (b : Bool) → table_eq key k ≡ b → has rest k ≡ cond b false (table_eq k x || has rest k)
      by true e = ap (has rest) (sym (same_table key k e) ∙ same) ∙ none_among x rest (IsDistinct-head table_eq x rest apart)
      by false e = λ j. sym (table_eq_equiv.symm k x ∙ ap (λ y. table_eq y k) (sym same) ∙ e) j || has rest k

  pub Loses-swap_remove : Loses ks (swap_remove ks i x) key
  Loses-swap_remove k = gone k ∙ (λ j. cond (table_eq key k) false (sym (list_any-IsPermutation (table_eq k) ks (x ∷ rest) moved) j))

-- what is left of a list once its last fills a gap
module _ (ks new : List TableKey) (once : IsDistinct table_eq ks) (key : TableKey) (i : ℕ) (is : IsPlace ks key (Some i)) (x : TableKey) (taken : x ≡ get_or ks i x) (left : new ≡ swap_remove ks i x) where
  pub Loses-taken : Loses ks new key
  Loses-taken = subst (λ l. Loses ks l key) (sym left) (Loses-swap_remove ks once key i is x taken)

  pub once-taken : IsDistinct table_eq new
  once-taken = subst (IsDistinct table_eq) (sym left) (once-swap_remove ks once key i is x taken)

-- ---- what calls answer
pub once_inserted : {E : Type 0} (r : Result (Unit {0}) E) (key : TableKey) (old new : List TableKey) → OnOk r (new ≡ insert_key table_eq old key) → OnErr r (new ≡ old) → IsDistinct table_eq old → IsDistinct table_eq new
once_inserted (Ok u) key old new e h d = subst (IsDistinct table_eq) (sym e) (distinct_key old key d)
once_inserted (Err x) key old new e h d = subst (IsDistinct table_eq) (sym h) d

pub only_has : (ks : List TableKey) (first key : TableKey) (b : Bool) → ks ≡ first ∷ [] → b ≡ table_eq first key → has ks key ≡ b
only_has ks first key b is e = ap (λ l. has l key) is ∙ or-false (table_eq key first) ∙ table_eq_equiv.symm key first ∙ sym e
