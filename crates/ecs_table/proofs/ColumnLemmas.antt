-- What is known of lists of columns.
use Rattle.std.proofs.Common.{◌≡◌, ◌==◌, ℕ, ◌+◌, ◌≤◌, ◌<◌, List, [], ◌∷◌, ◌++◌, length, length-append, map, take, drop, replicate, cond, nat_lt, suc, refl, sym, ap, ◌∙◌, true, false, arith, get_or, slice_index, slice_index_or, slice_set, Option, Some, None, MatchOption, option_copied, Bor}
use Rattle.std.proofs.lemmas.List.{append-nil, append_assoc, set-get_or, map_more, get_or_at, set_at, drop_all, drop_more, take_all, length-map, length-take}
use Rattle.std.proofs.lemmas.List.Elements.{All-cons, All-filter, All-from_get_or, All-get_or, All-nil}
use Rattle.std.proofs.lemmas.Slice.Zip.{length-zip, get_or-zip}
use Rattle.std.proofs.lemmas.Bool.Decides.{nat_tests}
use Rattle.std.specs.List.{All, filter, zip}
use Rattle.ecs_id.specs.Id.{Id}
use Rattle.raw_column.specs.Contents.{with_item, with_zero}
use Rattle.raw_column.specs.Places.{Values}
use Rattle.ecs_table.specs.Archetype.{fitting, replaced, with_last}

-- the ids with data are as many as the sizes but 0
pub paired : {X : Type 0} (xs : List X) (ss : List ℕ) → length xs ≡ length ss → length (map (λ p. p.0) (filter (λ p. nat_lt 0 p.1) (zip xs ss))) ≡ length (filter (λ s. nat_lt 0 s) ss)
paired [] [] e = refl
paired [] (s ∷ ss) e = absurd (omega arith)
paired (x ∷ xs) [] e = absurd (omega arith)
paired (x ∷ xs) (s ∷ ss) e =
    let rest = paired xs ss (omega arith) in
    elim (nat_lt 0 s) as (λ b. length (map (λ p. p.0) (cond b ((x, s) ∷ filter (λ p. nat_lt 0 p.1) (zip xs ss)) (filter (λ p. nat_lt 0 p.1) (zip xs ss)))) ≡ length (cond b (s ∷ filter (λ t. nat_lt 0 t) ss) (filter (λ t. nat_lt 0 t) ss))) [
      | true ↦ ap suc rest
      | false ↦ rest
    ]

positive : (ss : List ℕ) (k : ℕ) → k < length (filter (λ s. nat_lt 0 s) ss) → 0 < slice_index (filter (λ s. nat_lt 0 s) ss) k
positive ss k lt = All-get_or (λ n. 0 < n) (filter (λ s. nat_lt 0 s) ss) k 0 lt (recurse ss)
  where
    recurse : (ss : List ℕ) → All (λ n. 0 < n) (filter (λ s. nat_lt 0 s) ss)
    recurse [] = All-nil (λ n. 0 < n)
    recurse (s ∷ ss) =
        let rest = filter (λ t. nat_lt 0 t) ss in
        elim (nat_lt 0 s) as (λ b. nat_lt 0 s ≡ b → All (λ n. 0 < n) (cond b (s ∷ rest) rest)) [
          | true ↦ λ e. let some : 0 < s = grind (arith, nat_tests) in All-cons (λ n. 0 < n) s rest some (recurse ss)
          | false ↦ λ e. recurse ss
        ] refl

-- a block's columns have the sizes but 0
pub sized_small : (ss : List ℕ) → ((k : ℕ) → k < length ss → slice_index ss k ≤ 64) → (k : ℕ) → k < length (filter (λ s. nat_lt 0 s) ss)
    → (0 < slice_index (filter (λ s. nat_lt 0 s) ss) k) × (slice_index (filter (λ s. nat_lt 0 s) ss) k ≤ 64)
sized_small ss small k lt =
    let kept = filter (λ s. nat_lt 0 s) ss in
    (positive ss k lt, All-get_or (λ n. n ≤ 64) kept k 0 lt (All-filter (λ s. nat_lt 0 s) (λ n. n ≤ 64) ss (All-from_get_or (λ n. n ≤ 64) ss 0 small)))

-- a loop over places that makes each element of itself and of its partner in another list
pub paired_more : {I X : Type 0} (f : I × X → X) (is : List I) (xs ys : List X) (k : ℕ) (i : I) (x : X) → k < length is → k < length xs → ys ≡ map f (take k (zip is xs)) ++ drop k xs
    → i ≡ get_or is k i → x ≡ get_or ys k x → slice_set ys k (f (i, x)) ≡ map f (take (k + 1) (zip is xs)) ++ drop (k + 1) xs
paired_more f is xs ys k i x lt lt2 e a b =
    let pairs = zip is xs in
    let front = map f (take k pairs) in
    let within : k < length pairs = omega (arith, length-zip is xs) in
    let long : length front ≡ k = omega (arith, length-map (take k pairs) f, length-take k pairs) in
    let split : ys ≡ front ++ get_or xs k x ∷ drop (k + 1) xs = e ∙ ap (λ l. front ++ l) (drop_more xs k x lt2) in
    let same : x ≡ get_or xs k x = b ∙ ap (λ l. get_or l k x) split ∙ get_or_at front (get_or xs k x) (drop (k + 1) xs) x k long in
    let here : (i, x) ≡ get_or pairs k (i, x) = ap (λ j. (j, x)) a ∙ ap (λ y. (get_or is k i, y)) same ∙ sym (get_or-zip is xs k (i, x) lt lt2) in
    ap (λ l. slice_set l k (f (i, x))) split ∙ set_at front (get_or xs k x) (drop (k + 1) xs) (f (i, x)) k long
    ∙ ap (λ p. front ++ f p ∷ drop (k + 1) xs) here
    ∙ sym (append_assoc front (f (get_or pairs k (i, x)) ∷ []) (drop (k + 1) xs))
    ∙ ap (λ l. l ++ drop (k + 1) xs) (sym (map_more f pairs k (i, x) within))

-- the places that the loop has not come to
pub paired_rest : {I X : Type 0} (f : I × X → X) (is : List I) (xs ys : List X) (k : ℕ) (d : X) → k < length is → k < length xs → ys ≡ map f (take k (zip is xs)) ++ drop k xs → (k < length ys) × (get_or ys k d ≡ get_or xs k d)
paired_rest f is xs ys k d lt lt2 e =
    let front = map f (take k (zip is xs)) in let long : length front ≡ k = omega (arith, length-map (take k (zip is xs)) f, length-take k (zip is xs), length-zip is xs) in
    let split : ys ≡ front ++ get_or xs k d ∷ drop (k + 1) xs = e ∙ ap (λ l. front ++ l) (drop_more xs k d lt2) in
    (omega (arith, ap length split, length-append front (get_or xs k d ∷ drop (k + 1) xs)), ap (λ l. get_or l k d) split ∙ get_or_at front (get_or xs k d) (drop (k + 1) xs) d k long)

pub paired_done : {I X : Type 0} (f : I × X → X) (is : List I) (xs ys : List X) (k : ℕ) → length is ≡ length xs → length xs ≤ k → ys ≡ map f (take k (zip is xs)) ++ drop k xs → ys ≡ map f (zip is xs)
paired_done f is xs ys k e past done =
    let all : length (zip is xs) ≤ k = omega (arith, length-zip is xs) in
    done ∙ ap (λ l. map f (take k (zip is xs)) ++ l) (drop_all k xs past) ∙ append-nil (map f (take k (zip is xs))) ∙ ap (map f) (take_all k (zip is xs) all)

-- what a clause on an optional slice says, as one equation
pub said_option : (r : Option (Bor (List ℕ))) (o : Option (List ℕ)) → MatchOption r (o ≡ None) (λ bytes. o ≡ Some bytes.now) → option_copied r ≡ o
said_option None o h = sym h
said_option (Some bytes) o h = sym h

pub fitting_same : (n : ℕ) (bytes : List ℕ) → length bytes ≡ n → fitting n (Some bytes) ≡ bytes
fitting_same n bytes e = grind (arith, nat_tests)

-- zeros at the end that are then replaced
replaced_zero : (o : Option (List ℕ)) (v : Values) (last : ℕ) → length v.items ≡ last → replaced last o (with_zero v) ≡ with_last o v
replaced_zero None v last at = refl
replaced_zero (Some bytes) v last at = elim (length bytes == v.size) as (λ b. cond b (with_item (with_zero v) last bytes) (with_zero v) ≡ record v { items = v.items ++ cond b bytes (replicate v.size 0) ∷ [] }) [
  | true ↦ ap (λ l. record v { items = l }) (set_at v.items (replicate v.size 0) [] bytes last at)
  | false ↦ refl
]

pub replaced_zeros : (value : Id → Option (List ℕ)) (last : ℕ) (ids : List Id) (cs : List Values) → ((k : ℕ) (d : Values) → k < length cs → length (get_or cs k d).items ≡ last)
    → map (λ p. replaced last (value p.0) p.1) (zip ids (map with_zero cs)) ≡ map (λ p. with_last (value p.0) p.1) (zip ids cs)
replaced_zeros value last [] cs at = refl
replaced_zeros value last (i ∷ ids) [] at = refl
replaced_zeros value last (i ∷ ids) (c ∷ cs) at = λ p. replaced_zero (value i) c last (at 0 c (omega arith)) p ∷ replaced_zeros value last ids cs (λ k d lt. at (suc k) d (omega arith)) p

-- a value in its own place
pub replaced_none : (cs : List Values) (k : ℕ) (d : Values) → slice_set cs k (slice_index_or cs k d) ≡ cs
replaced_none cs k d = set-get_or cs k d
