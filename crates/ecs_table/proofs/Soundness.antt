-- What every table has, after each call.
use Rattle.std.proofs.Common.{◌≡◌, ℕ, ◌+◌, ◌-◌, ◌≤◌, ◌<◌, List, [], ◌∷◌, ◌++◌, length, map, take, replicate, nat_lt, cond, zero, suc, refl, sym, ap, subst, ◌∙◌, true, false, arith, get_or, slice_get, slice_set, slice_index, slice_index_or, get_or-set_other, inl, inr, Option, Some, None, IfSome, option_copied, Bor}
use Rattle.std.proofs.lemmas.Grind.{get_or-set_at}
use Rattle.std.proofs.lemmas.List.{get_or-map, get_or-take, get_or_default, get_or_append_left, get_or_push, length-map, length-set, length-take, length-replicate, length_push}
use Rattle.std.proofs.lemmas.Slice.Zip.{length-zip, get_or-zip}
use Rattle.std.proofs.lemmas.Option.{slice_get-get_or, slice_get_past}
use Rattle.std.proofs.lemmas.Bool.{cases_lt, cases_eq, false≢true}
use Rattle.std.proofs.lemmas.Bool.Decides.{eqb_tells, nat_tests}
use Rattle.std.specs.List.{filter, zip, swap_remove}
use Rattle.std.specs.Option.{is_some}
use Rattle.ecs_id.specs.Id.{Id}
use Rattle.ecs_id.specs.declared.EntityId.{EntityId}
use Rattle.ecs_table.proofs.ColumnLemmas.{paired}
use Rattle.raw_column.specs.Contents.{with_item, with_zero, without_item}
use Rattle.raw_column.specs.Places.{Values}
use Rattle.ecs_table.specs.Archetype.{Archetype, IsShaped, IsSound, empty_table, entity_at, fitting, moved_into, no_entity, value_of, values_at, with_last, with_moved, with_row, without_row, no_values}

-- each id with data has a column
pub columns_paired : (t : Archetype) → IsSound t → length t.data_ids ≡ length t.columns
columns_paired t h = ap length h.with_data ∙ paired t.ids h.sizes h.beside ∙ sym (ap length h.sized) ∙ length-map t.columns (λ v. v.size)

-- the values of one column
pub shaped_last : (n : ℕ) (bytes : List ℕ) (v : Values) → length bytes ≡ v.size → IsShaped n v → IsShaped (n + 1) (record v { items = v.items ++ bytes ∷ [] })
shaped_last n bytes v e h = record {
  rows = length_push v.items bytes ∙ ap (λ m. m + 1) h.rows;
  bytes = λ j d lt. elim (cases_lt j n) [
    | inl a ↦ ap length (get_or_append_left v.items (bytes ∷ []) d j (subst (λ m. j < m) (sym h.rows) a)) ∙ h.bytes j d a
    | inr b ↦ let last : length v.items ≡ j = omega (arith, h.rows) in ap length (get_or_push v.items bytes d j last) ∙ e
  ];
}

pub shaped_set : (n row : ℕ) (bytes : List ℕ) (v : Values) → length bytes ≡ v.size → row < n → IsShaped n v → IsShaped n (with_item v row bytes)
shaped_set n row bytes v e lt h = record {
  rows = length-set v.items row bytes ∙ h.rows;
  bytes = λ j d within. elim (cases_eq j row) [
    | inl a ↦ ap length (get_or-set_at v.items row j bytes d a (subst (λ m. row < m) (sym h.rows) lt)) ∙ e
    | inr b ↦ ap length (get_or-set_other v.items row j bytes d b) ∙ h.bytes j d within
  ];
}

pub shaped_removed : (n row : ℕ) (v : Values) → row < n → IsShaped n v → IsShaped (n - 1) (without_item row v)
shaped_removed n row v lt h =
    let long = length v.items in
    let final = get_or v.items (long - 1) [] in
    let filled = slice_set v.items row final in
    let within : row < long = subst (λ m. row < m) (sym h.rows) lt in
    record {
      rows = omega (arith, length-take (long - 1) filled, length-set v.items row final, h.rows);
      bytes = λ j d below.
          let low : j < long - 1 = omega (arith, h.rows) in
          let front = get_or-take (long - 1) filled j d low in
          let lastly : long - 1 < n = omega (arith, h.rows) in
          let early : j < n = omega arith in
          elim (cases_eq j row) [
            | inl a ↦ ap length (front ∙ get_or-set_at v.items row j final d a within) ∙ h.bytes (long - 1) [] lastly
            | inr b ↦ ap length (front ∙ get_or-set_other v.items row j final d b) ∙ h.bytes j d early
          ];
    }

pub length-fitting : (n : ℕ) (o : Option (List ℕ)) → length (fitting n o) ≡ n
length-fitting n None = length-replicate n 0
length-fitting n (Some bytes) = elim (eqb_tells (length bytes) n) [
  | inl p ↦ ap (λ b. length (cond b bytes (replicate n 0))) p.0 ∙ p.1
  | inr q ↦ ap (λ b. length (cond b bytes (replicate n 0))) q.0 ∙ length-replicate n 0
]

-- each column of a list
abbrev pub AreShaped : ℕ → List Values → Type 0
AreShaped n cs = (k : ℕ) (d : Values) → k < length cs → IsShaped n (slice_index_or cs k d)

shaped_each : (f : Values → Values) (n m : ℕ) (cs : List Values) → ((v : Values) → IsShaped n v → IsShaped m (f v)) → AreShaped n cs → AreShaped m (map f cs)
shaped_each f n m cs step h k d lt =
    let within : k < length cs = subst (λ l. k < l) (length-map cs f) lt in
    subst (IsShaped m) (sym (get_or-map f cs k d d within)) (step (get_or cs k d) (h k d within))

shaped_paired : (value : Id → Option (List ℕ)) (n : ℕ) (ids : List Id) (cs : List Values) → AreShaped n cs → AreShaped (n + 1) (map (λ p. with_last (value p.0) p.1) (zip ids cs))
shaped_paired value n [] cs h k d lt = absurd (omega arith)
shaped_paired value n (i ∷ ids) cs h k d lt =
    let f : Id × Values → Values = λ p. with_last (value p.0) p.1 in
    let pairs = zip (i ∷ ids) cs in
    let inside : k < length pairs = subst (λ l. k < l) (length-map pairs f) lt in
    let first : k < length (i ∷ ids) = omega (arith, length-zip (i ∷ ids) cs) in
    let second : k < length cs = omega (arith, length-zip (i ∷ ids) cs) in
    let v = get_or cs k d in
    let o = value (get_or (i ∷ ids) k i) in
    let same : get_or (map f pairs) k d ≡ with_last o v = get_or-map f pairs k (i, d) d inside ∙ ap f (get_or-zip (i ∷ ids) cs k (i, d) first second) in
    subst (IsShaped (n + 1)) (sym same) (shaped_last n (fitting v.size o) v (length-fitting v.size o) (h k d second))

pub shaped_changed : (n k : ℕ) (cs : List Values) (new : Values) → k < length cs → IsShaped n new → AreShaped n cs → AreShaped n (slice_set cs k new)
shaped_changed n k cs new lt here h j d within =
    let inside : j < length cs = subst (λ l. j < l) (length-set cs k new) within in
    elim (cases_eq j k) [
      | inl a ↦ subst (IsShaped n) (sym (get_or-set_at cs k j new d a lt)) here
      | inr b ↦ subst (IsShaped n) (sym (get_or-set_other cs k j new d b)) (h j d inside)
    ]

pub sizes_each : (f : Values → Values) → ((v : Values) → (f v).size ≡ v.size) → (cs : List Values) → map (λ v. v.size) (map f cs) ≡ map (λ v. v.size) cs
sizes_each f same [] = refl
sizes_each f same (c ∷ cs) = λ i. same c i ∷ sizes_each f same cs i

pub sizes_paired : (value : Id → Option (List ℕ)) (ids : List Id) (cs : List Values) → length ids ≡ length cs → map (λ v. v.size) (map (λ p. with_last (value p.0) p.1) (zip ids cs)) ≡ map (λ v. v.size) cs
sizes_paired value [] [] e = refl
sizes_paired value [] (c ∷ cs) e = absurd (omega arith)
sizes_paired value (i ∷ ids) [] e = absurd (omega arith)
sizes_paired value (i ∷ ids) (c ∷ cs) e = ap (λ l. c.size ∷ l) (sizes_paired value ids cs (omega arith))

pub sizes_set : (cs : List Values) (k : ℕ) (v : Values) → k < length cs → v.size ≡ (values_at cs k).size → map (λ w. w.size) (slice_set cs k v) ≡ map (λ w. w.size) cs
sizes_set [] k v lt e = refl
sizes_set (c ∷ cs) zero v lt e = ap (λ n. n ∷ map (λ w. w.size) cs) e
sizes_set (c ∷ cs) (suc k) v lt e = ap (λ l. c.size ∷ l) (sizes_set cs k v (omega arith) e)

sizes_none : (ss : List ℕ) → map (λ v. v.size) (map no_values ss) ≡ ss
sizes_none [] = refl
sizes_none (s ∷ ss) = ap (λ l. s ∷ l) (sizes_none ss)

-- the tables after each call
pub sound_empty : (ids : List Id) (sizes : List ℕ) → length ids ≡ length sizes → ((k : ℕ) → k < length sizes → slice_index sizes k ≤ 64) → IsSound (empty_table ids sizes)
sound_empty ids sizes e small =
    let with_bytes = filter (λ s. nat_lt 0 s) sizes in
    record {
      sizes = sizes;
      beside = e;
      small = small;
      with_data = refl;
      sized = sizes_none with_bytes;
      shaped = λ k d lt.
          let within : k < length with_bytes = subst (λ l. k < l) (length-map with_bytes no_values) lt in
          subst (IsShaped 0) (sym (get_or-map no_values with_bytes k 0 d within)) (record { rows = refl; bytes = λ j b none. absurd (omega arith) });
    }

pub sound_with_room : (t : Archetype) (n : ℕ) → IsSound t → IsSound (record t { room = n })
sound_with_room t n h = record { sizes = h.sizes; beside = h.beside; small = h.small; with_data = h.with_data; sized = h.sized; shaped = h.shaped }

pub sound_with_row : (t : Archetype) (e : EntityId) → IsSound t → IsSound (with_row t e)
sound_with_row t e h =
    let n = length t.entities in
    record {
      sizes = h.sizes;
      beside = h.beside;
      small = h.small;
      with_data = h.with_data;
      sized = sizes_each with_zero (λ v. refl) t.columns ∙ h.sized;
      shaped = subst (λ m. AreShaped m (map with_zero t.columns)) (sym (length_push t.entities e))
          (shaped_each with_zero n (n + 1) t.columns (λ v. shaped_last n (replicate v.size 0) v (length-replicate v.size 0)) h.shaped);
    }

-- the table with another value in one column
pub sound_with_item : (t : Archetype) (row k : ℕ) (bytes : List ℕ) → k < length t.columns → row < length t.entities → length bytes ≡ (values_at t.columns k).size → IsSound t
    → IsSound (record t { columns = slice_set t.columns k (with_item (values_at t.columns k) row bytes) })
sound_with_item t row k bytes lt within e h =
    let v = values_at t.columns k in
    record {
      sizes = h.sizes;
      beside = h.beside;
      small = h.small;
      with_data = h.with_data;
      sized = sizes_set t.columns k (with_item v row bytes) lt refl ∙ h.sized;
      shaped = shaped_changed (length t.entities) k t.columns (with_item v row bytes) lt (shaped_set (length t.entities) row bytes v e within (h.shaped k (no_values 0) lt)) h.shaped;
    }

pub length_without : (t : Archetype) (row : ℕ) → length (without_row t row).entities ≡ length t.entities - 1
length_without t row =
    let es = t.entities in let final = get_or es (length es - 1) no_entity in
    omega (arith, length-take (length es - 1) (slice_set es row final), length-set es row final)

-- what a look-up in a slice gives, as one equation
pub copied_is : {X : Type 0} (r : Option (Bor X)) (xs : List X) (i : ℕ) → is_some r ≡ nat_lt i (length xs) → IfSome r (λ x. x.now ≡ get_or xs i x.now) → option_copied r ≡ slice_get xs i
copied_is None xs i e h = elim (cases_lt i (length xs)) [
  | inl a ↦ let yes : nat_lt i (length xs) ≡ true = grind (arith, nat_tests) in absurd (false≢true (e ∙ yes))
  | inr b ↦ sym (slice_get_past xs i b)
]
copied_is (Some x) xs i e h = elim (cases_lt i (length xs)) [
  | inl a ↦ ap Some h ∙ sym (slice_get-get_or xs i x.now a)
  | inr b ↦ let no : nat_lt i (length xs) ≡ false = grind (arith, nat_tests) in absurd (false≢true (sym no ∙ sym e))
]

-- std's list after a removal, at this crate's default
pub swap_remove_default : {X : Type 0} (xs : List X) (i : ℕ) (d e : X) → 0 < length xs → swap_remove xs i d ≡ swap_remove xs i e
swap_remove_default xs i d e some = ap (λ x. take (length xs - 1) (slice_set xs i x)) (get_or_default xs (length xs - 1) d e (omega arith))

-- what stands in the gap is what was said to move there
pub moved_is : (t : Archetype) (row : ℕ) → row < length t.entities → slice_get (without_row t row).entities row ≡ moved_into t row
moved_is t row lt =
    let es = t.entities in let n = length es in let final = get_or es (n - 1) no_entity in let filled = slice_set es row final in
    let long : length (take (n - 1) filled) ≡ n - 1 = length_without t row in
    elim (cases_lt (row + 1) n) [
      | inl a ↦
          let yes : nat_lt (row + 1) n ≡ true = grind (arith, nat_tests) in
          let within : row < length (take (n - 1) filled) = omega arith in
          let low : row < n - 1 = omega arith in
          let lastly : n - 1 < n = omega arith in
          slice_get-get_or (take (n - 1) filled) row no_entity within ∙ ap Some (get_or-take (n - 1) filled row no_entity low ∙ get_or-set_at es row row final no_entity refl lt)
          ∙ sym (slice_get-get_or es (n - 1) no_entity lastly) ∙ sym (ap (λ b. cond b (slice_get es (n - 1)) None) yes)
      | inr b ↦
          let no : nat_lt (row + 1) n ≡ false = grind (arith, nat_tests) in
          let past : length (take (n - 1) filled) ≤ row = omega arith in
          slice_get_past (take (n - 1) filled) row past ∙ sym (ap (λ b. cond b (slice_get es (n - 1)) None) no)
    ]

pub sound_without_row : (t : Archetype) (row : ℕ) → row < length t.entities → IsSound t → IsSound (without_row t row)
sound_without_row t row lt h =
    let n = length t.entities in
    record {
      sizes = h.sizes;
      beside = h.beside;
      small = h.small;
      with_data = h.with_data;
      sized = sizes_each (without_item row) (λ v. refl) t.columns ∙ h.sized;
      shaped = subst (λ m. AreShaped m (map (without_item row) t.columns)) (sym (length_without t row))
          (shaped_each (without_item row) n (n - 1) t.columns (λ v. shaped_removed n row v lt) h.shaped);
    }

pub sound_with_moved : (t s : Archetype) (row : ℕ) → IsSound t → IsSound (with_moved t s row)
sound_with_moved t s row h =
    let n = length t.entities in let value : Id → Option (List ℕ) = value_of s row in
    let columns = map (λ p. with_last (value p.0) p.1) (zip t.data_ids t.columns) in
    record {
      sizes = h.sizes;
      beside = h.beside;
      small = h.small;
      with_data = h.with_data;
      sized = sizes_paired value t.data_ids t.columns (columns_paired t h) ∙ h.sized;
      shaped = subst (λ m. AreShaped m columns) (sym (length_push t.entities (entity_at s row))) (shaped_paired value n t.data_ids t.columns h.shaped);
    }
