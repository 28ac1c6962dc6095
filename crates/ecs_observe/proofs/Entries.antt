-- Stored queries by their names, as they are held: in a list of boxes, of which one is written or taken out.
use Rattle.std.specs.Prelude.{◌≡◌, ℕ, zero, suc, ◌+◌, ◌<◌, ◌≤◌, ◌≢◌, cond, Bool, true, false, List, [], ◌∷◌, All, length, map, slice_get, slice_set, Option, None, Some, option_map}
use Rattle.std.specs.List.{remove}
use Rattle.std.specs.Map.{lookup, remove_entry}
use Rattle.std.specs.Cmp.Lexicographic.{bytes_decides}
use Rattle.std.specs.declared.string.String.{String}
use Rattle.std.specs.String.{string_bytes}
use Rattle.std.proofs.Common.{refl, sym, ap, subst, ◌∙◌, arith, get_or, inl, inr}
use Rattle.std.proofs.lemmas.Bool.{cases_lt}
use Rattle.std.proofs.lemmas.List.{length-map}
use Rattle.std.proofs.lemmas.List.Edits.{get_or-remove_above, get_or-remove_below, length-remove}
use Rattle.std.proofs.lemmas.List.Elements.{All-cons, All-head, All-tail}
use Rattle.std.proofs.lemmas.Option.{slice_get-map}
use Rattle.std.proofs.lemmas.Simd.{map-map}
use Rattle.watch_index.specs.NameOrder as order
use Rattle.table_store.specs.Store.{Store}
use Rattle.watch_index.specs.WatchOrder.{Boxed}
use Rattle.watch_index.specs.declared.watch_order.Watcher.{Watcher}
use Rattle.watch_stored.specs.Lists.{HasList}
use Rattle.ecs_observe.specs.Lists.{HaveLists}
use Rattle.ecs_observe.specs.Parts.{held_of, with_kept_at}
use Rattle.watch_stored.specs.Parts.{with_kept}
use Rattle.ecs_observe.specs.Stored.{entries_in}
use Rattle.watch_stored.specs.declared.moves.RowsAfter.{RowsAfter}
use Rattle.watch_stored.specs.declared.stored.StoredQuery.{StoredQuery}
use Rattle.ecs_observe.proofs.NamedQueries.{is_key}

-- ---- values that hold others
module _ {K V W : Type 0} (f : V → W) (test : K → Bool) where
  abbrev inner : List (K × V) → List (K × W)
  inner es = map (λ e. (e.0, f e.1)) es

  look_inner : (es : List (K × V)) → lookup test (inner es) ≡ option_map f (lookup test es)
  look_inner [] = refl
  look_inner (e ∷ es) = by (test e.0) (look_inner es)
    where
      by : (b : Bool) → lookup test (inner es) ≡ option_map f (lookup test es) → cond b (Some (f e.1)) (lookup test (inner es)) ≡ option_map f (cond b (Some e.1) (lookup test es))
      by true rest = refl
      by false rest = rest

  less_inner : (es : List (K × V)) → inner (remove_entry test es) ≡ remove_entry test (inner es)
  less_inner [] = refl
  less_inner (e ∷ es) = by (test e.0) (less_inner es)
    where
      by : (b : Bool) → inner (remove_entry test es) ≡ remove_entry test (inner es)
          → inner (cond b es (e ∷ remove_entry test es)) ≡ cond b (inner es) ((e.0, f e.1) ∷ remove_entry test (inner es))
      by true rest = refl
      by false rest = ap (λ xs. (e.0, f e.1) ∷ xs) rest

-- ---- all, but for one that is taken out
pub all_left : {X : Type 0} (P : X → Type 0) (xs : List X) (i : ℕ) → i < length xs → All P xs → All P (remove xs i)
all_left P xs i within all k d l = elim (cases_lt k i) [
  | inl low ↦ subst P (sym (get_or-remove_below xs i d k low within)) (all k d (omega (arith, low, within)))
  | inr high ↦ subst P (sym (get_or-remove_above xs i d k high within)) (all (k + 1) d (omega (arith, l, length-remove xs i within)))
]

-- ---- in boxes
module _ {A : Type 0} where
  -- a stored query without what it looks out for
  abbrev pub stored_in : Watcher (StoredQuery A) A → StoredQuery A
  stored_in w = w.value

  -- what stands in boxes, by what looks out for something
  pub entries_are : (bs : List (Boxed (StoredQuery A) A)) → entries_in bs ≡ map (λ e. (e.0, stored_in e.1)) (order.entries_in bs)
  entries_are bs = sym (map-map (λ (e : String A × Watcher (StoredQuery A) A). (e.0, stored_in e.1)) (λ (b : Boxed (StoredQuery A) A). (b.value.name, b.value.value)) bs)

  module _ (n : List ℕ) (bs : List (Boxed (StoredQuery A) A)) where
    pub look_stored : lookup (is_key n) (entries_in bs) ≡ option_map stored_in (lookup (is_key n) (order.entries_in bs))
    look_stored = ap (lookup (is_key n)) (entries_are bs) ∙ look_inner stored_in (is_key n) (order.entries_in bs)

    pub none_stored : lookup (is_key n) (entries_in bs) ≡ None → lookup (is_key n) (order.entries_in bs) ≡ None
    none_stored none = by (lookup (is_key n) (order.entries_in bs)) (sym look_stored ∙ none)
      where
        by : (o : Option (Watcher (StoredQuery A) A)) → option_map stored_in o ≡ None → o ≡ None
        by None e = refl
        by (Some w) e = let no : Some (stored_in w) ≡ None = e in cc

    pub less_stored : (cs : List (Boxed (StoredQuery A) A)) → order.entries_in cs ≡ remove_entry (is_key n) (order.entries_in bs) → entries_in cs ≡ remove_entry (is_key n) (entries_in bs)
    less_stored cs left =
        entries_are cs ∙ ap (map (λ (e : String A × Watcher (StoredQuery A) A). (e.0, stored_in e.1))) left
        ∙ less_inner stored_in (is_key n) (order.entries_in bs) ∙ sym (ap (remove_entry (is_key n)) (entries_are bs))

  pub get_stored : (bs : List (Boxed (StoredQuery A) A)) (i : ℕ) → slice_get (entries_in bs) i ≡ option_map (λ e. (e.0, stored_in e.1)) (slice_get (order.entries_in bs) i)
  get_stored bs i =
      ap (λ es. slice_get es i) (entries_are bs) ∙ slice_get-map (λ (e : String A × Watcher (StoredQuery A) A). (e.0, stored_in e.1)) (order.entries_in bs) i

  -- there are as many
  pub as_many : (bs : List (Boxed (StoredQuery A) A)) → length (entries_in bs) ≡ length bs
  as_many bs = length-map bs (λ (b : Boxed (StoredQuery A) A). (b.value.name, b.value.value.value))

  pub as_many_boxes : (bs : List (Boxed (StoredQuery A) A)) → length (order.entries_in bs) ≡ length bs
  as_many_boxes bs = length-map bs (λ (b : Boxed (StoredQuery A) A). (b.value.name, b.value.value))

  -- a name that none of them has is found nowhere
  pub none_of_name : (n : List ℕ) (es : List (String A × StoredQuery A)) → All (λ h. h.name ≢ n) (map held_of es) → lookup (is_key n) es ≡ None
  none_of_name n [] free = refl
  none_of_name n (e ∷ es) free = by (is_key n e.0) refl (none_of_name n es (All-tail (λ h. h.name ≢ n) (held_of e) (map held_of es) free))
    where
      by : (b : Bool) → is_key n e.0 ≡ b → lookup (is_key n) es ≡ None → cond b (Some e.1) (lookup (is_key n) es) ≡ None
      by true t rest = absurd (All-head (λ h. h.name ≢ n) (held_of e) (map held_of es) free (sym ((bytes_decides n (string_bytes e.0)).0 t)))
      by false t rest = rest

-- ---- one is written
module _ {A X : Type 0} (name : X → String A) (value : X → StoredQuery A) where
  abbrev named : List X → List (String A × StoredQuery A)
  named xs = map (λ x. (name x, value x)) xs

  pub entry_written : (xs : List X) (i : ℕ) (y : X) (rows : RowsAfter A) → i < length xs
      → ((d : X) → name y ≡ name (get_or xs i d)) → ((d : X) → value y ≡ with_kept rows (value (get_or xs i d)))
      → named (slice_set xs i y) ≡ with_kept_at i rows (named xs)
  entry_written [] i y rows within names values = absurd (omega (arith, within))
  entry_written (x ∷ xs) zero y rows within names values = λ j. (names x j, values x j) ∷ named xs
  entry_written (x ∷ xs) (suc i) y rows within names values = ap (λ es. (name x, value x) ∷ es) (entry_written xs i y rows (omega (arith, within)) (λ d. names d) (λ d. values d))

  -- what isn't there can't be written
  pub entry_past : (xs : List X) (i : ℕ) (rows : RowsAfter A) → length xs ≤ i → named xs ≡ with_kept_at i rows (named xs)
  entry_past [] i rows past = refl
  entry_past (x ∷ xs) zero rows past = absurd (omega (arith, past))
  entry_past (x ∷ xs) (suc i) rows past = ap (λ es. (name x, value x) ∷ es) (entry_past xs i rows (omega (arith, past)))

  -- of one that holds the same all hold the same
  pub held_same : (xs : List X) (i : ℕ) (y : X) → ((d : X) → held_of (name y, value y) ≡ held_of (name (get_or xs i d), value (get_or xs i d))) → map held_of (named (slice_set xs i y)) ≡ map held_of (named xs)
  held_same [] i y one = refl
  held_same (x ∷ xs) zero y one = ap (λ h. h ∷ map held_of (named xs)) (one x)
  held_same (x ∷ xs) (suc i) y one = ap (λ hs. held_of (name x, value x) ∷ hs) (held_same xs i y (λ d. one d))

  pub lists_written : (s : Store) (xs : List X) (i : ℕ) (y : X) → HasList s (value y) → HaveLists s (named xs) → HaveLists s (named (slice_set xs i y))
  lists_written s [] i y one all = all
  lists_written s (x ∷ xs) zero y one all = All-cons (λ e. HasList s e.1) (name y, value y) (named xs) one (All-tail (λ e. HasList s e.1) (name x, value x) (named xs) all)
  lists_written s (x ∷ xs) (suc i) y one all =
      All-cons (λ e. HasList s e.1) (name x, value x) (named (slice_set xs i y)) (All-head (λ e. HasList s e.1) (name x, value x) (named xs) all)
      (lists_written s xs i y one (All-tail (λ e. HasList s e.1) (name x, value x) (named xs) all))
