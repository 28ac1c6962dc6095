-- Values in the order in which they were put in, found by their names.
use Rattle.std.specs.Prelude.{◌≡◌, ◌≢◌, ℕ, ◌+◌, ◌<◌, ◌≤◌, Bool, List, length, map, bytes_eq, slice_index_or, Option, None, Some, vec_capacity, vec_len}
use Rattle.std.specs.List.{All, AllPairs, remove}
use Rattle.std.specs.Map.{lookup, remove_entry}
use Rattle.std.specs.declared.boxed.Box.{Box}
use Rattle.std.specs.declared.string.String.{String}
use Rattle.std.specs.String.{string_bytes}
use Rattle.indexmap.specs.IndexMap.{spare}
use Rattle.watch_index.specs.declared.name_order.NameOrder.{NameOrder}
use Rattle.watch_index.specs.declared.name_order.Named.{Named}

-- whether a key is this name
abbrev pub is_key : {A : Type 0} → List ℕ → String A → Bool
is_key n k = bytes_eq n (string_bytes k)

-- a value in a box, under its name
abbrev pub Boxed : Type 0 → Type 0 → Type 0
Boxed V A = Box (Named V A) A

abbrev pub name_in : {V A : Type 0} → Boxed V A → String A
name_in b = b.value.name

abbrev pub number_in : {V A : Type 0} → Boxed V A → ℕ
number_in b = b.value.number

abbrev pub value_in : {V A : Type 0} → Boxed V A → V
value_in b = b.value.value

-- the values by their names
abbrev pub entries_in : {V A : Type 0} → List (Boxed V A) → List (String A × V)
entries_in bs = map (λ b. (b.value.name, b.value.value)) bs

abbrev pub entries_of : {V A : Type 0} → NameOrder V A → List (String A × V)
entries_of s = entries_in s.made.items

-- their numbers by their names
abbrev pub numbered_in : {V A : Type 0} → List (Boxed V A) → List (String A × ℕ)
numbered_in bs = map (λ b. (b.value.name, b.value.number)) bs

-- numbers ascend, no two values have the same name, and each number is found by its name
pub record IsInOrder {V A : Type 0} (s : NameOrder V A) : Type 0 where
  pub rise : AllPairs (λ a b. number_in a < number_in b) s.made.items
  pub apart : AllPairs (λ a b. string_bytes (name_in a) ≢ string_bytes (name_in b)) s.made.items
  pub named : (n : List ℕ) → lookup (is_key n) s.numbers.entries ≡ lookup (is_key n) (numbered_in s.made.items)

-- one more value fits without taking memory
pub record HasRoom {V A : Type 0} (s : NameOrder V A) : Type 0 where
  pub made : vec_len s.made + 1 ≤ vec_capacity s.made
  pub numbers : 1 ≤ spare s.numbers

-- a value is ready to be appended, in a box and with its name as a key: its number is greater than each in use, and
-- there is room
pub record IsReady {V A : Type 0} (s : NameOrder V A) (k : String A) (v : V) (r : String A × Boxed V A) : Type 0 where
  pub key : string_bytes r.0 ≡ string_bytes k
  pub name : name_in r.1 ≡ k
  pub value : value_in r.1 ≡ v
  pub number : All (λ b. number_in b < number_in r.1) s.made.items
  pub room : HasRoom s

-- the place of the value with a number, if there is one
abbrev pub StandsAt : {V A : Type 0} → ℕ → List (Boxed V A) → Option ℕ → Type 0
StandsAt {V} {A} n bs None = (k : ℕ) (d : Boxed V A) → k < length bs → number_in (slice_index_or bs k d) ≢ n
StandsAt {V} {A} n bs (Some i) = (i < length bs) × ((d : Boxed V A) → number_in (slice_index_or bs i d) ≡ n)

-- the place of the value with a name
abbrev pub IsPlaceOf : {V A : Type 0} → List ℕ → List (Boxed V A) → Option ℕ → Type 0
IsPlaceOf n bs None = lookup (is_key n) (entries_in bs) ≡ None
IsPlaceOf {V} {A} n bs (Some i) =
    (i < length bs) × ((d : Boxed V A) → lookup (is_key n) (entries_in bs) ≡ Some (value_in (slice_index_or bs i d)))
    × (entries_in (remove bs i) ≡ remove_entry (is_key n) (entries_in bs)) × (numbered_in (remove bs i) ≡ remove_entry (is_key n) (numbered_in bs))

-- the value in this box was taken out of some place
pub record IsTakenOut {V A : Type 0} (old new : List (Boxed V A)) (b : Boxed V A) : Type 0 where
  pub place : ℕ
  pub within : place < length old
  pub stood : (d : Boxed V A) → slice_index_or old place d ≡ b
  pub left : new ≡ remove old place
