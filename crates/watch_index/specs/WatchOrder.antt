-- Values in order, and the index of the occasions that they listen for.
use Rattle.std.specs.Prelude.{◌≡◌, ℕ, ◌==◌, ◌<◌, ◌&&◌, Bool, true, List, [], ◌∷◌, ◌++◌, length, slice_index_or}
use Rattle.std.specs.List.{Contains, list_any}
use Rattle.std.specs.declared.string.String.{String}
use Rattle.watch_index.specs.NameOrder as named
use Rattle.watch_index.specs.declared.occasion.Occasion.{Occasion}
use Rattle.watch_index.specs.Laws.{meets}
use Rattle.watch_index.specs.Listed.{Listings, is_among, is_listed}
use Rattle.watch_index.specs.declared.watch_order.WatchOrder.{WatchOrder}
use Rattle.watch_index.specs.declared.watch_order.Watcher.{Watcher}

-- a value with its occasions, in a box, under its name
abbrev pub Boxed : Type 0 → Type 0 → Type 0
Boxed V A = named.Boxed (Watcher V A) A

abbrev pub occasions_in : {V A : Type 0} → Boxed V A → List Occasion
occasions_in b = (b.value.value).occasions.items

-- whether the value has this number, and listens for the occasion
abbrev pub looks_out : {V A : Type 0} → ℕ → Occasion → Boxed V A → Bool
looks_out n o b = named.number_in b == n && is_among (occasions_in b) o

-- for each occasion exactly the numbers of the values that listen for it are listed
abbrev pub IsIndexed : {V A : Type 0} → Listings → List (Boxed V A) → Type 0
IsIndexed ls bs = (o : Occasion) (n : ℕ) → is_listed ls o n ≡ list_any (looks_out n o) bs

pub record IsWatched {V A : Type 0} (s : WatchOrder V A) : Type 0 where
  pub order : named.IsInOrder s.order
  pub index : IsIndexed s.index s.order.made.items

-- a value is ready to be appended, and already listed
pub record IsOpen {V A : Type 0} (s : WatchOrder V A) (name : String A) (value : Watcher V A) (r : String A × Boxed V A) : Type 0 where
  pub order : named.IsInOrder s.order
  pub ready : named.IsReady s.order name value r
  pub index : IsIndexed s.index (s.order.made.items ++ r.1 ∷ [])

-- the place of each value with one of these numbers is among these places
abbrev pub HasPlaces : {V A : Type 0} → List (Boxed V A) → List ℕ → List ℕ → Type 0
HasPlaces {V} {A} bs ns places = (i : ℕ) (d : Boxed V A) → i < length bs → Contains ns (named.number_in (slice_index_or bs i d)) → Contains places i

-- the place of each value that listens for one of these changes is among these places
abbrev pub AreLed : {V A : Type 0} → List (Boxed V A) → List Occasion → List ℕ → Type 0
AreLed {V} {A} bs happened places = (i : ℕ) (d : Boxed V A) → i < length bs → meets (occasions_in (slice_index_or bs i d)) happened ≡ true → Contains places i
