-- What is taken in from the tables above a serial.
use Rattle.std.proofs.Math.Seq.{take-append_seam}
use Rattle.std.proofs.lemmas.List.{length-append, length_push, take-append-drop}
use Rattle.std.specs.Option.{option_map_or}
use Rattle.std.proofs.Common.{◌≡◌, drop, take, inl, inr, ℕ, zero, suc, ◌+◌, ◌<◌, ◌≤◌, Bool, true, false, append-nil, append_assoc, cond, le-leb, List, [], ◌∷◌, ◌++◌, IsTrue, Ok, Err, OnErr, OnOk, Option, Some, None, Result, is_err, is_some, option_map, length, map, max, min, nat_le, slice_index_or, refl, sym, ap, subst, ◌∙◌, arith, true≢false}
use Rattle.std.specs.List.{AllByRecursion, Contains, filter}
use Rattle.std.proofs.lemmas.Bool.Decides.{nat_tests}
use Rattle.std.proofs.lemmas.List.Elements.{Contains-append_left, Contains-get_or, filter-append, recursion_from_All}
use Rattle.id_pattern.specs.declared.Pattern.{Pattern}
use Rattle.ecs_id.specs.declared.TableKey.{TableKey}
use Rattle.ecs_table.specs.Archetype.{Archetype}
use Rattle.table_store.specs.Store.{Store, IsStore, table_at}
pub use Rattle.table_store.proofs.Order.{less_is}
use Rattle.query_cache.specs.Kept.{AreAbove, Counts, IsRising, IsTakenIn, is_kept, stands, suits}
use Rattle.query_cache.proofs.Filters.{from_filter, rising_filter, to_filter}

abbrev pub serials_of : List TableKey → List ℕ
serials_of keys = map (λ k. k.serial) keys

module _ {X Y : Type 0} (f : X → Y) where
  pub from_mapped : (xs : List X) (y : Y) (i : ℕ) → i < length (map f xs) → slice_index_or (map f xs) i y ≡ y → (x : X) × Contains xs x × (f x ≡ y)
  from_mapped [] y i lt at = absurd (omega (arith, lt))
  from_mapped (x ∷ xs) y zero lt at = (x, (zero, omega arith, refl), at)
  from_mapped (x ∷ xs) y (suc i) lt at =
      let c = from_mapped xs y i (omega (arith, lt)) at in
      (c.0, (suc c.1.0, omega (arith, c.1.1), c.1.2), c.2)

pub all_of : {X : Type 0} (P : X → Type 0) (xs : List X) → ((x : X) → Contains xs x → P x) → AllByRecursion P xs
all_of P xs each = recursion_from_All P xs (λ k d lt. each _ (Contains-get_or xs k d lt))

pub counts_more : (before n mid after : ℕ) → Counts before n mid → after ≡ min (mid + 1) 18446744073709551615 → Counts before (n + 1) after
counts_more before n mid after (inl e) h = by (mid + 1) refl
  where
    by : (m : ℕ) → mid + 1 ≡ m → Counts before (n + 1) after
    by m e' = grind arith
counts_more before n mid after (inr e) h = inr (omega arith, omega (arith, e.1, h), omega (arith, e.2))

-- ---- of some keys those whose tables stand
module _ (s : Store) (patterns : List Pattern) where
  -- a table that is gone is none of the query
  gone : (o : Option Archetype) → is_some o ≡ false → option_map_or (suits patterns) (option_map (λ t. t.ids) o) false ≡ false
  gone None h = refl
  gone (Some t) h = absurd (true≢false h)

  kept_of_standing : (keys : List TableKey) → filter (is_kept patterns s) (filter (stands s) keys) ≡ filter (is_kept patterns s) keys
  kept_of_standing [] = refl
  kept_of_standing (k ∷ keys) = by (stands s k) refl (kept_of_standing keys)
    where
      by : (b : Bool) → stands s k ≡ b → filter (is_kept patterns s) (filter (stands s) keys) ≡ filter (is_kept patterns s) keys
          → filter (is_kept patterns s) (cond b (k ∷ filter (stands s) keys) (filter (stands s) keys)) ≡ cond (is_kept patterns s k) (k ∷ filter (is_kept patterns s) keys) (filter (is_kept patterns s) keys)
      by true e rest = ap (λ l. cond (is_kept patterns s k) (k ∷ l) l) rest
      by false e rest = rest ∙ ap (λ b. cond b (k ∷ filter (is_kept patterns s) keys) (filter (is_kept patterns s) keys)) (sym (gone (table_at s k) e))

-- one more key, whose table is judged where it stands
pub one_judged : (p : TableKey → Bool) (before mid after : ℕ) (keys : List TableKey) (x : TableKey) → Counts before (length (filter p keys)) mid → after ≡ cond (p x) (min (mid + 1) 18446744073709551615) mid
    → Counts before (length (filter p (keys ++ x ∷ []))) after
one_judged p before mid after keys x counts is =
    subst (λ l. Counts before (length l) after) (sym (filter-append p keys (x ∷ []))) (by (p x) is)
  where
    by : (b : Bool) → after ≡ cond b (min (mid + 1) 18446744073709551615) mid → Counts before (length (filter p keys ++ cond b (x ∷ []) [])) after
    by true e = subst (λ n. Counts before n after) (sym (length_push (filter p keys) x)) (counts_more before (length (filter p keys)) mid after counts e)
    by false e = subst (λ l. Counts before (length l) after) (sym (append-nil (filter p keys))) (subst (Counts before (length (filter p keys))) (sym e) counts)

front_less : {X : Type 0} (p : X → Bool) (n : ℕ) (xs : List X) → length (filter p (take n xs)) ≤ length (filter p xs)
front_less p n xs =
    let all = ap (λ l. length (filter p l)) (sym (take-append-drop n xs)) ∙ ap length (filter-append p (take n xs) (drop n xs)) ∙ length-append (filter p (take n xs)) (filter p (drop n xs)) in
    omega (arith, all)

-- what the first of some keys have, all of them do
pub from_front : {X : Type 0} (n : ℕ) (xs : List X) (x : X) → Contains (take n xs) x → Contains xs x
from_front n xs x c = subst (λ l. Contains l x) (take-append-drop n xs) (Contains-append_left (take n xs) (drop n xs) x c)

-- these are the keys above a serial, of tables that stand and of some that don't
module _ (s : Store) (store : IsStore s) (patterns : List Pattern) (last : ℕ) (newer : List TableKey) (has : (k : TableKey) → IsTrue (stands s k) → last < k.serial → Contains newer k) (over : (k : TableKey) → Contains newer k → last < k.serial)
    (rising : IsRising newer) where
  abbrev above : List TableKey
  above = filter (stands s) newer

  are_above : AreAbove s last above
  are_above = record {
    listed = λ k. (
      λ c. let w = from_filter (stands s) newer k c.0 c.1 c.2 in (w.1, over k w.0),
      λ h. let c = has k h.0 h.1 in to_filter (stands s) newer k c.0 c.1 c.2 h.0,
    );
    rising = rising_filter (stands s) newer rising;
  }

  module _ {E : Type 0} (keys now : List TableKey) (before after : ℕ) where
    -- the loop is at its end
    pub all_taken_in : (n : ℕ) → now ≡ keys ++ filter (is_kept patterns s) newer → Counts before (length (filter (stands s) newer)) after → n ≡ max last s.last → IsTakenIn {E = E} s patterns last (Ok n) keys now before after
    all_taken_in n is counts e = record {
      judges = record { above = above; are_above = are_above; count = length above; at_most = omega arith; ok = refl; counted = counts };
      taken = is ∙ ap (λ l. keys ++ l) (sym (kept_of_standing s patterns newer));
      greatest = (omega (arith, e), omega (arith, e), λ k there high. let given = (store.serials k there).1 in omega (arith, given, e));
      err = tt;
      store = store;
    }

    -- no room for a key
    pub refused : (x : E) (n : ℕ) → Counts before (length (filter (stands s) (take n newer))) after → now ≡ keys → IsTakenIn s patterns last (Err x) keys now before after
    refused x n counts e = record {
      judges = record { above = above; are_above = are_above; count = length (filter (stands s) (take n newer)); at_most = front_less (stands s) n newer; ok = tt; counted = counts };
      taken = tt;
      greatest = tt;
      err = e;
      store = store;
    }

-- ---- a refused call leaves those that were there
keeps_all : (p : TableKey → Bool) (keys : List TableKey) → ((k : TableKey) → Contains keys k → p k ≡ true) → filter p keys ≡ keys
keeps_all p [] all = refl
keeps_all p (x ∷ keys) all =
    ap (λ b. cond b (x ∷ filter p keys) (filter p keys)) (all x (zero, omega arith, refl))
    ∙ ap (λ ks. x ∷ ks) (keeps_all p keys (λ k c. all k (suc c.0, omega (arith, c.1), c.2)))

keeps_none : (p : TableKey → Bool) (keys : List TableKey) → ((k : TableKey) → Contains keys k → p k ≡ false) → filter p keys ≡ []
keeps_none p [] none = refl
keeps_none p (x ∷ keys) none =
    ap (λ b. cond b (x ∷ filter p keys) (filter p keys)) (none x (zero, omega arith, refl))
    ∙ keeps_none p keys (λ k c. none k (suc c.0, omega (arith, c.1), c.2))

pub only_before : (last : ℕ) (p : TableKey → Bool) (old taken : List TableKey) → ((k : TableKey) → Contains old k → k.serial ≤ last) → ((k : TableKey) → Contains taken k → last < k.serial)
    → filter (λ k. nat_le k.serial last) (old ++ filter p taken) ≡ old
only_before last p old taken low high =
    let q : TableKey → Bool = λ k. nat_le k.serial last in
    filter-append q old (filter p taken)
    ∙ (λ i. keeps_all q old (λ k c. le-leb k.serial last (low k c)) i
    ++ keeps_none q (filter p taken) (λ k c. past k.serial last (high k (from_filter p taken k c.0 c.1 c.2).0)) i)
    ∙ append-nil old
  where
    past : (n last : ℕ) → last < n → nat_le n last ≡ false
    past n last h = grind (arith, nat_tests)

pub on_err_anyway : {T E P : Type 0} (r : Result T E) → P → OnErr r P
on_err_anyway (Ok x) p = tt
on_err_anyway (Err e) p = p

-- what comes first of a list comes first of what this begins
pub front_of_front : {X : Type 0} (old more mid new : List X) → mid ≡ old ++ more → take (length mid) new ≡ mid → take (length old) new ≡ old
front_of_front old more mid new is front =
    let rest = drop (length mid) new in
    let all : new ≡ old ++ (more ++ rest) = sym (take-append-drop (length mid) new) ∙ ap (λ t. t ++ rest) (front ∙ is) ∙ append_assoc old more rest in
    ap (take (length old)) all ∙ take-append_seam old (more ++ rest)

pub on_err : {T E : Type 0} (P : Type 0) (r : Result T E) → is_err r ≡ true → OnErr r P → P
on_err P (Ok x) is h = absurd (true≢false (sym is))
on_err P (Err x) is h = h

pub on_ok : {T E : Type 0} (P : Type 0) (r : Result T E) → is_err r ≡ false → OnOk r P → P
on_ok P (Ok x) is h = h
on_ok P (Err x) is h = absurd (true≢false is)

-- one more is judged, and taken in where it suits
pub one_taken : (p : TableKey → Bool) (keys yielded had now : List TableKey) (x : TableKey) (kept : Bool) → kept ≡ p x → had ≡ keys ++ filter p yielded → now ≡ had ++ cond kept (x ∷ []) []
    → now ≡ keys ++ filter p (yielded ++ x ∷ [])
one_taken p keys yielded had now x kept judged so is =
    is
    ∙ (λ i. so i ++ cond (judged i) (x ∷ []) [])
    ∙ append_assoc keys (filter p yielded) (cond (p x) (x ∷ []) [])
    ∙ ap (λ ks. keys ++ ks) (sym (filter-append p yielded (x ∷ [])))
