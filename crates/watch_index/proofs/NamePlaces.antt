-- Values in the order in which they were put in: where the one of a name stands, with one more, and with one less.
use Rattle.std.specs.Prelude.{◌≡◌, ◌≢◌, ℕ, suc, ◌+◌, ◌-◌, ◌<◌, ◌≤◌, cond, Bool, true, false, List, [], ◌∷◌, ◌++◌, All, length, map, bytes_eq, slice_get, Option, None, Some, OnOk, IsOk}
use Rattle.std.specs.List.{AllPairs, remove}
use Rattle.std.specs.List.Sorted.{IsBinarySearchResult, IsSortedBy}
use Rattle.std.specs.Map.{AreApart, IsKeyTest, KeepsOthers, lookup, remove_entry}
use Rattle.std.specs.Ordering.{is_lt, nat_cmp}
use Rattle.std.specs.Cmp.{nat_cmp_total}
use Rattle.std.specs.Cmp.Lexicographic.{bytes_decides}
use Rattle.std.specs.FinMap.{nat_cmp-IsAntisymmetric}
use Rattle.std.specs.declared.cmp.Ordering.TheVariants.{Less, Greater}
use Rattle.std.specs.declared.result.Result.{Result}
use Rattle.std.specs.declared.result.Result.TheVariants.{Ok, Err}
use Rattle.std.specs.declared.string.String.{String}
use Rattle.std.specs.String.{string_bytes, string_eq}
use Rattle.std.proofs.Common.{refl, sym, ap, subst, ◌∙◌, arith, get_or, inl, inr, true≢false}
use Rattle.std.proofs.lemmas.Bool.{cases_lt}
use Rattle.std.proofs.lemmas.Bool.Decides.{nat_tests}
use Rattle.std.proofs.lemmas.List.{map-append}
use Rattle.std.proofs.lemmas.List.Elements.{All-cons, All-head, All-tail}
use Rattle.std.proofs.lemmas.List.Sorted.{searchable_from_sorted}
use Rattle.std.proofs.lemmas.Option.{get_or_from_slice_get}
use Rattle.indexmap.specs.IndexMap.{insert_entry}
use Rattle.watch_index.specs.NameOrder.{Boxed, IsPlaceOf, StandsAt, is_key, name_in, number_in, numbered_in, value_in}

-- ---- look-ups in lists of names

abbrev or_else : {V : Type 0} → Option V → Option V → Option V
or_else None o = o
or_else (Some v) o = Some v

module _ {K V : Type 0} (test : K → Bool) where
  look_behind : (xs ys : List (K × V)) → lookup test (xs ++ ys) ≡ or_else (lookup test xs) (lookup test ys)
  look_behind [] ys = refl
  look_behind (x ∷ xs) ys = by (test x.0) (look_behind xs ys)
    where
      by : (b : Bool) → lookup test (xs ++ ys) ≡ or_else (lookup test xs) (lookup test ys)
          → cond b (Some x.1) (lookup test (xs ++ ys)) ≡ or_else (cond b (Some x.1) (lookup test xs)) (lookup test ys)
      by true rest = refl
      by false rest = rest

  -- lists in which the same is found still are, with the same after them
  pub same_behind : (xs ys us vs : List (K × V)) → lookup test xs ≡ lookup test ys → lookup test us ≡ lookup test vs → lookup test (xs ++ us) ≡ lookup test (ys ++ vs)
  same_behind xs ys us vs e f = look_behind xs us ∙ (λ i. or_else (e i) (f i)) ∙ sym (look_behind ys vs)

module _ {A : Type 0} where
  name_is : (n : List ℕ) (k : String A) → is_key n k ≡ true → n ≡ string_bytes k
  name_is n k e = (bytes_decides n (string_bytes k)).0 e

  other_name : (n : List ℕ) (k : String A) → n ≢ string_bytes k → is_key n k ≡ false
  other_name n k other = by (is_key n k) refl
    where
      by : (b : Bool) → is_key n k ≡ b → b ≡ false
      by true e = absurd (other (name_is n k e))
      by false e = refl

  -- one key of a name is as good as another
  pub one_name : (m : List ℕ) (a b : String A) (v : ℕ) → string_bytes a ≡ string_bytes b → lookup (is_key m) ((a, v) ∷ []) ≡ lookup (is_key m) ((b, v) ∷ [])
  one_name m a b v e = ap (λ n. cond (bytes_eq m n) (Some v) None) e

  -- a name decides whether a key is its own
  pub names_test : (n : List ℕ) → IsKeyTest string_eq (is_key {A = A} n)
  names_test n x y e = ap (λ m. bytes_eq m (string_bytes y)) (name_is n x e)

  pub names_apart : (n m : List ℕ) → n ≢ m → AreApart (is_key {A = A} n) (is_key m)
  names_apart n m apart k e = other_name m k (λ same. apart (name_is n k e ∙ sym same))

  -- a new key goes last
  pub put_last : {V : Type 0} (k : String A) (v : V) (es : List (String A × V)) → lookup (is_key (string_bytes k)) es ≡ None → insert_entry string_eq es k v ≡ es ++ (k, v) ∷ []
  put_last k v [] free = refl
  put_last {V} k v (e ∷ es) free = by (string_eq k e.0) free (put_last k v es)
    where
      by : (b : Bool) → cond b (Some e.1) (lookup (is_key (string_bytes k)) es) ≡ None → (lookup (is_key (string_bytes k)) es ≡ None → insert_entry string_eq es k v ≡ es ++ (k, v) ∷ [])
          → cond b ((e.0, v) ∷ es) (e ∷ insert_entry string_eq es k v) ≡ e ∷ (es ++ (k, v) ∷ [])
      by true h rest = let no : Some e.1 ≡ None = h in cc
      by false h rest = ap (λ xs. e ∷ xs) (rest h)

-- ---- where the one of a name stands
module _ {A X V : Type 0} (name : X → String A) (number : X → ℕ) (value : X → V) where
  abbrev pub entries : List X → List (String A × V)
  entries xs = map (λ x. (name x, value x)) xs

  abbrev pub numbered : List X → List (String A × ℕ)
  numbered xs = map (λ x. (name x, number x)) xs

  module _ (n : List ℕ) where
    -- the first of the name
    pub record IsFirst (xs : List X) (k : ℕ) (num : ℕ) : Type 0 where
      pub within : k < length xs
      pub has : (d : X) → number (get_or xs k d) ≡ num
      pub named : (d : X) → is_key n (name (get_or xs k d)) ≡ true
      pub found : (d : X) → lookup (is_key n) (entries xs) ≡ Some (value (get_or xs k d))
      pub left : entries (remove xs k) ≡ remove_entry (is_key n) (entries xs)
      pub left_numbered : numbered (remove xs k) ≡ remove_entry (is_key n) (numbered xs)

    pub first_of : (xs : List X) (num : ℕ) → lookup (is_key n) (numbered xs) ≡ Some num → (k : ℕ) × IsFirst xs k num
    first_of [] num h = let no : None ≡ Some num = h in cc
    first_of (x ∷ xs) num h = by (is_key n (name x)) refl h (first_of xs num)
      where
        by : (b : Bool) → is_key n (name x) ≡ b → cond b (Some (number x)) (lookup (is_key n) (numbered xs)) ≡ Some num
            → (lookup (is_key n) (numbered xs) ≡ Some num → (k : ℕ) × IsFirst xs k num) → (k : ℕ) × IsFirst (x ∷ xs) k num
        by true e h rest =
            let same : Some (number x) ≡ Some num = h in (
              0,
              record {
                within = omega arith;
                has = λ d. cc;
                named = λ d. e;
                found = λ d. ap (λ b. cond b (Some (value x)) (lookup (is_key n) (entries xs))) e;
                left = sym (ap (λ b. cond b (entries xs) ((name x, value x) ∷ remove_entry (is_key n) (entries xs))) e);
                left_numbered = sym (ap (λ b. cond b (numbered xs) ((name x, number x) ∷ remove_entry (is_key n) (numbered xs))) e);
              },
            )
        by false e h rest =
            let r = rest h in (
              suc r.0,
              record {
                within = omega (arith, (r.1).within);
                has = (r.1).has;
                named = (r.1).named;
                found = λ d. ap (λ b. cond b (Some (value x)) (lookup (is_key n) (entries xs))) e ∙ (r.1).found d;
                left = ap (λ ys. (name x, value x) ∷ ys) (r.1).left ∙ sym (ap (λ b. cond b (entries xs) ((name x, value x) ∷ remove_entry (is_key n) (entries xs))) e);
                left_numbered = ap (λ ys. (name x, number x) ∷ ys) (r.1).left_numbered ∙ sym (ap (λ b. cond b (numbered xs) ((name x, number x) ∷ remove_entry (is_key n) (numbered xs))) e);
              },
            )

    -- where none has a number of the name, none has it
    pub none_of : (xs : List X) → lookup (is_key n) (numbered xs) ≡ None → lookup (is_key n) (entries xs) ≡ None
    none_of [] h = refl
    none_of (x ∷ xs) h = by (is_key n (name x)) refl h (none_of xs)
      where
        by : (b : Bool) → is_key n (name x) ≡ b → cond b (Some (number x)) (lookup (is_key n) (numbered xs)) ≡ None
            → (lookup (is_key n) (numbered xs) ≡ None → lookup (is_key n) (entries xs) ≡ None) → lookup (is_key n) (entries (x ∷ xs)) ≡ None
        by true e h rest = let no : Some (number x) ≡ None = h in cc
        by false e h rest = ap (λ b. cond b (Some (value x)) (lookup (is_key n) (entries xs))) e ∙ rest h

    pub none_numbered : (xs : List X) → lookup (is_key n) (entries xs) ≡ None → lookup (is_key n) (numbered xs) ≡ None
    none_numbered [] h = refl
    none_numbered (x ∷ xs) h = by (is_key n (name x)) refl h (none_numbered xs)
      where
        by : (b : Bool) → is_key n (name x) ≡ b → cond b (Some (value x)) (lookup (is_key n) (entries xs)) ≡ None
            → (lookup (is_key n) (entries xs) ≡ None → lookup (is_key n) (numbered xs) ≡ None) → lookup (is_key n) (numbered (x ∷ xs)) ≡ None
        by true e h rest = let no : Some (value x) ≡ None = h in cc
        by false e h rest = ap (λ b. cond b (Some (number x)) (lookup (is_key n) (numbered xs))) e ∙ rest h

    -- so all have other names
    pub all_others : (xs : List X) → lookup (is_key n) (entries xs) ≡ None → All (λ x. string_bytes (name x) ≢ n) xs
    all_others [] h = λ k d l. absurd (omega (arith, l))
    all_others (x ∷ xs) h = by (is_key n (name x)) refl h (all_others xs)
      where
        by : (b : Bool) → is_key n (name x) ≡ b → cond b (Some (value x)) (lookup (is_key n) (entries xs)) ≡ None
            → (lookup (is_key n) (entries xs) ≡ None → All (λ x. string_bytes (name x) ≢ n) xs) → All (λ x. string_bytes (name x) ≢ n) (x ∷ xs)
        by true e h rest = let no : Some (value x) ≡ None = h in cc
        by false e h rest = All-cons (λ y. string_bytes (name y) ≢ n) x xs (λ same. true≢false (sym ((bytes_decides n (string_bytes (name x))).1 (sym same)) ∙ e)) (rest h)

  -- ---- without the first of a name
  module _ (n : List ℕ) where
    none_behind : (x : X) (xs : List X) → n ≡ string_bytes (name x) → All (λ y. string_bytes (name x) ≢ string_bytes (name y)) xs → lookup (is_key n) (numbered xs) ≡ None
    none_behind x [] e apart = refl
    none_behind x (y ∷ ys) e apart =
        ap (λ b. cond b (Some (number y)) (lookup (is_key n) (numbered ys)))
        (other_name n (name y) (λ same. All-head (λ z. string_bytes (name x) ≢ string_bytes (name z)) y ys apart (sym e ∙ same)))
        ∙ none_behind x ys e (All-tail (λ z. string_bytes (name x) ≢ string_bytes (name z)) y ys apart)

    -- nothing is left under the name
    pub none_left : (xs : List X) → AllPairs (λ x y. string_bytes (name x) ≢ string_bytes (name y)) xs → lookup (is_key n) (remove_entry (is_key n) (numbered xs)) ≡ None
    none_left [] apart = refl
    none_left (x ∷ xs) apart = by (is_key n (name x)) refl (none_left xs (λ i j d l m. apart (suc i) (suc j) d (omega (arith, l)) (omega (arith, m))))
      where
        by : (b : Bool) → is_key n (name x) ≡ b → lookup (is_key n) (remove_entry (is_key n) (numbered xs)) ≡ None
            → lookup (is_key n) (cond b (numbered xs) ((name x, number x) ∷ remove_entry (is_key n) (numbered xs))) ≡ None
        by true e rest = none_behind x xs (name_is n (name x) e) (λ k d l. apart 0 (suc k) d (omega arith) (omega (arith, l)))
        by false e rest = ap (λ b. cond b (Some (number x)) (lookup (is_key n) (remove_entry (is_key n) (numbered xs)))) e ∙ rest

    -- what is left under other names is what was there
    pub others_left : (m : List ℕ) → n ≢ m → (xs : List X) → lookup (is_key m) (remove_entry (is_key n) (numbered xs)) ≡ lookup (is_key m) (numbered xs)
    others_left m apart [] = refl
    others_left m apart (x ∷ xs) = by (is_key n (name x)) refl (others_left m apart xs)
      where
        by : (b : Bool) → is_key n (name x) ≡ b → lookup (is_key m) (remove_entry (is_key n) (numbered xs)) ≡ lookup (is_key m) (numbered xs)
            → lookup (is_key m) (cond b (numbered xs) ((name x, number x) ∷ remove_entry (is_key n) (numbered xs))) ≡ lookup (is_key m) (numbered (x ∷ xs))
        by true e rest = sym (ap (λ b. cond b (Some (number x)) (lookup (is_key m) (numbered xs))) (names_apart n m apart (name x) e))
        by false e rest = ap (λ o. cond (is_key m (name x)) (Some (number x)) o) rest

    -- so each is still found by its name
    pub still_named : (old new : List (String A × ℕ)) (xs ys : List X) → AllPairs (λ x y. string_bytes (name x) ≢ string_bytes (name y)) xs
        → ((m : List ℕ) → lookup (is_key m) old ≡ lookup (is_key m) (numbered xs)) → lookup (is_key n) new ≡ None → KeepsOthers string_eq (is_key n) old new
        → numbered ys ≡ remove_entry (is_key n) (numbered xs) → (m : List ℕ) → lookup (is_key m) new ≡ lookup (is_key m) (numbered ys)
    unfolding KeepsOthers
    still_named old new xs ys apart named gone keeps left m = by (bytes_eq n m) refl
      where
        by : (b : Bool) → bytes_eq n m ≡ b → lookup (is_key m) new ≡ lookup (is_key m) (numbered ys)
        by true e =
            let same : n ≡ m = (bytes_decides n m).0 e in
            subst (λ k. lookup (is_key k) new ≡ lookup (is_key k) (numbered ys)) same (gone ∙ sym (ap (lookup (is_key n)) left ∙ none_left xs apart))
        by false e =
            let other : n ≢ m = λ same. true≢false (sym ((bytes_decides n m).1 same) ∙ e) in
            keeps (is_key m) (names_test m) (names_apart n m other) ∙ named m ∙ sym (ap (lookup (is_key m)) left ∙ others_left m other xs)

  -- ---- with one more
  pub put_named : (old new : List (String A × ℕ)) (xs : List X) (x : X) (key : String A) → string_bytes key ≡ string_bytes (name x)
      → ((m : List ℕ) → lookup (is_key m) old ≡ lookup (is_key m) (numbered xs)) → lookup (is_key (string_bytes (name x))) (entries xs) ≡ None
      → new ≡ insert_entry string_eq old key (number x) → (m : List ℕ) → lookup (is_key m) new ≡ lookup (is_key m) (numbered (xs ++ x ∷ []))
  put_named old new xs x key same named free put m =
      let none : lookup (is_key (string_bytes key)) old ≡ None =
      named (string_bytes key) ∙ subst (λ n. lookup (is_key n) (numbered xs) ≡ None) (sym same) (none_numbered (string_bytes (name x)) xs free) in
      ap (lookup (is_key m)) (put ∙ put_last key (number x) old none)
      ∙ same_behind (is_key m) old (numbered xs) ((key, number x) ∷ []) ((name x, number x) ∷ []) (named m) (one_name m key (name x) (number x) same)
      ∙ ap (lookup (is_key m)) (sym (map-append (λ y. (name y, number y)) xs (x ∷ [])))

  -- ---- by its number
  module _ (xs : List X) (rise : AllPairs (λ x y. number x < number y) xs) where
    pub one_place : (i j : ℕ) (d : X) → i < length xs → j < length xs → number (get_or xs i d) ≡ number (get_or xs j d) → i ≡ j
    one_place i j d li lj same = elim (cases_lt i j) [
      | inl less ↦ absurd (omega (arith, rise i j d less lj, same))
      | inr more ↦ elim (cases_lt j i) [
        | inl less ↦ absurd (omega (arith, rise j i d less li, same))
        | inr none ↦ omega (arith, more, none)
      ]
    ]

    not_less : (a b : ℕ) → b < a → is_lt (nat_cmp a b) ≡ false
    not_less a b l = grind (arith, nat_tests)

    in_order : IsSortedBy (λ a b. is_lt (nat_cmp (number a) (number b))) xs
    in_order k d low l = not_less (number (get_or xs (k + 1) d)) (number (get_or xs k d)) (rise k (k + 1) d (omega arith) l)

    -- what is above the last is above all
    pub above_last : (x : X) (n : ℕ) → slice_get xs (length xs - 1) ≡ Some x → number x < n → All (λ y. number y < n) xs
    above_last x n there above k d l = elim (cases_lt k (length xs - 1)) [
      | inl less ↦
          let last : get_or xs (length xs - 1) d ≡ x = get_or_from_slice_get xs (length xs - 1) x d there in
          omega (arith, rise k (length xs - 1) d less (omega (arith, l)), ap number last, above)
      | inr more ↦
          let last : get_or xs k d ≡ x = ap (λ i. get_or xs i d) (at_last k l more) ∙ get_or_from_slice_get xs (length xs - 1) x d there in
          omega (arith, ap number last, above)
    ]
      where
        at_last : (k : ℕ) → k < length xs → length xs - 1 ≤ k → k ≡ length xs - 1
        at_last k a b = omega (arith, a, b)

    -- a search that finds a number says where a value has it
    pub found_at : (num i : ℕ) → IsBinarySearchResult (λ x. nat_cmp (number x) num) xs (Ok i) → (d : X) → number (get_or xs i d) ≡ num
    found_at num i search d = nat_cmp-IsAntisymmetric (number (get_or xs i d)) num (search d)

    -- and one that finds none says that none has it
    pub none_has : (num i : ℕ) → i ≤ length xs → IsBinarySearchResult (λ x. nat_cmp (number x) num) xs (Err i) → (k : ℕ) (d : X) → k < length xs → number (get_or xs k d) ≡ num → ⊥
    none_has num i l search k d lk same =
        let point = search (searchable_from_sorted nat_cmp_total number xs num in_order) in
        elim (cases_lt k i) [
          | inl low ↦ unlike (number (get_or xs k d)) num same (point.0 k d (omega arith) low)
          | inr high ↦ unlike_too (number (get_or xs k d)) num same (point.1 k d high lk)
        ]
      where
        unlike : (a b : ℕ) → a ≡ b → nat_cmp a b ≡ Less → ⊥
        unlike a b e less = grind (arith, nat_tests)

        unlike_too : (a b : ℕ) → a ≡ b → nat_cmp a b ≡ Greater → ⊥
        unlike_too a b e more = grind (arith, nat_tests)

    -- the value of a number that a name has is the first of the name
    pub is_first : (n : List ℕ) (num i : ℕ) → lookup (is_key n) (numbered xs) ≡ Some num → i < length xs → ((d : X) → number (get_or xs i d) ≡ num) → IsFirst n xs i num
    is_first n num i h l at =
        let first = first_of n xs num h in
        subst (λ k. IsFirst n xs k num) (place first.0 (first.1).within i l (λ d. (first.1).has d ∙ sym (at d))) first.1
      where
        place : (k : ℕ) → k < length xs → (i : ℕ) → i < length xs → ((d : X) → number (get_or xs k d) ≡ number (get_or xs i d)) → k ≡ i
        place k lk i li same = by xs refl
          where
            by : (ys : List X) → xs ≡ ys → k ≡ i
            by [] e = absurd (omega (arith, lk, ap length e))
            by (y ∷ ys) e = one_place k i y lk li (same y)

    -- and there is one
    pub has_one : (n : List ℕ) (num : ℕ) → lookup (is_key n) (numbered xs) ≡ Some num → ((k : ℕ) (d : X) → k < length xs → number (get_or xs k d) ≡ num → ⊥) → ⊥
    has_one n num h none =
        let first = first_of n xs num h in
        by xs refl first.0 (first.1).within (first.1).has
      where
        by : (ys : List X) → xs ≡ ys → (k : ℕ) → k < length xs → ((d : X) → number (get_or xs k d) ≡ num) → ⊥
        by [] e k lk has = absurd (omega (arith, lk, ap length e))
        by (y ∷ ys) e k lk has = none k y lk (has y)

-- the value of a name stands where that of its number does
pub placed_as : {V A : Type 0} (bs : List (Boxed V A)) → AllPairs (λ a b. number_in a < number_in b) bs → (n : List ℕ) (num : ℕ) (o : Option ℕ) → lookup (is_key n) (numbered_in bs) ≡ Some num
    → StandsAt num bs o → IsPlaceOf n bs o
placed_as bs rise n num None h none = absurd (has_one name_in number_in value_in bs rise n num h none)
placed_as bs rise n num (Some i) h at =
    let first = is_first name_in number_in value_in bs rise n num i h at.0 at.1 in
    (first.within, first.found, first.left, first.left_numbered)

-- what is so of an accepted call
pub of_ok : {T E P : Type 0} (r : Result T E) → OnOk r P → IsOk r → P
of_ok (Ok x) h ok = h
of_ok (Err e) h ok = absurd (true≢false (sym ok))
