-- Finite maps and sets, as lists whose keys strictly rise: such a list is the only one with its entries.
use Rattle.std.specs.Prelude.{ℕ, Bool, not, List, map, filter, is_some, Option, unwrap_or, IsTrue}
use Rattle.std.specs.declared.cmp.Ordering.{Ordering}
use Rattle.std.specs.Ordering.{nat_cmp}
use Rattle.std.specs.FinMap.{find, put, is_sorted}

-- a map from keys to values
abbrev pub Map : Type 0 → Type 0 → Type 0
Map K X = List (K × X)

module _ {K : Type 0} (R : K → K → Ordering) where
  -- the value at a key
  abbrev pub value_at : {X : Type 0} → Map K X → K → Option X
  value_at m k = find R k m

  -- whether the key is there
  abbrev pub has_key : {X : Type 0} → Map K X → K → Bool
  has_key m k = is_some (value_at m k)

  -- the map with this value at the key
  abbrev pub with_value : {X : Type 0} → Map K X → K → X → Map K X
  with_value m k x = put R k x m

  -- the map without the keys that pass the test
  abbrev pub without : {X : Type 0} → Map K X → (K → Bool) → Map K X
  without m test = filter (λ e. not (test e.0)) m

  -- the keys strictly rise
  abbrev pub IsMap : {X : Type 0} → Map K X → Type 0
  IsMap m = IsTrue (is_sorted R m)

-- the keys in order
abbrev pub keys : {K X : Type 0} → Map K X → List K
keys m = map (λ e. e.0) m

-- the count at a number, 0 where none is kept
abbrev pub count_at : Map ℕ ℕ → ℕ → ℕ
count_at m k = unwrap_or (value_at nat_cmp m k) 0
