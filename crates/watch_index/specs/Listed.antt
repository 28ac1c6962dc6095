-- The numbers listed for each occasion.
use Rattle.std.specs.Prelude.{◌≡◌, ℕ, ◌==◌, Bool, false, cond, not, ◌&&◌, ◌||◌, List, [], unwrap_or}
use Rattle.std.specs.Option.{option_map_or}
use Rattle.std.specs.List.{list_any}
use Rattle.std.specs.Map.{lookup}
use Rattle.watch_index.specs.declared.occasion.Occasion.{Occasion}
use Rattle.ecs_model.specs.BitWords.{has_bit as is_set}
use Rattle.watch_index.specs.Marks.{mark_of}
use Rattle.watch_index.specs.SameOccasion.{occasion_eq}

-- occasions, each with the numbers of the stored queries that listen for it
abbrev pub Listings : Type 0
Listings = List (Occasion × List ℕ)

-- the numbers listed for an occasion
abbrev pub listed : Listings → Occasion → List ℕ
listed ls o = unwrap_or (lookup (occasion_eq o) ls) []

-- whether this number is among the numbers
abbrev pub has : List ℕ → ℕ → Bool
has ns n = list_any (λ m. n == m) ns

-- whether a number is listed for an occasion
abbrev pub is_listed : Listings → Occasion → ℕ → Bool
is_listed ls o n = option_map_or (λ ns. has ns n) (lookup (occasion_eq o) ls) false

-- whether an occasion is one of these
abbrev pub is_among : List Occasion → Occasion → Bool
is_among os o = list_any (λ one. occasion_eq one o) os

-- the new list has exactly the numbers of the old one besides this number
abbrev pub Loses : List ℕ → List ℕ → ℕ → Type 0
Loses old new number = (n : ℕ) → has new n ≡ cond (number == n) false (has old n)

-- the new lists have what the old ones have, and this number for each occasion that passes the test
abbrev pub Adds : Listings → Listings → (Occasion → Bool) → ℕ → Type 0
Adds old new test number = (o : Occasion) (n : ℕ) → is_listed new o n ≡ (is_listed old o n || (test o && number == n))

-- the new lists have what the old ones have, but without this number for the occasions that pass the test
abbrev pub Drops : Listings → Listings → (Occasion → Bool) → ℕ → Type 0
Drops old new test number = (o : Occasion) (n : ℕ) → is_listed new o n ≡ (is_listed old o n && not (test o && number == n))

-- the new lists have what the old ones have, where it isn't this number for an occasion that passes the test
abbrev pub Keeps : Listings → Listings → (Occasion → Bool) → ℕ → Type 0
Keeps old new test number = (o : Occasion) (n : ℕ) → (test o && number == n) ≡ false → is_listed new o n ≡ is_listed old o n

-- both have the same numbers for each occasion
abbrev pub AreSame : Listings → Listings → Type 0
AreSame old new = (o : Occasion) (n : ℕ) → is_listed new o n ≡ is_listed old o n

-- ---- marks

-- whether one of these occasions has the mark
abbrev pub shares_mark : List Occasion → ℕ → Bool
shares_mark os m = list_any (λ one. m == mark_of one) os

-- an occasion whose mark isn't set has no numbers
abbrev pub AreMarked : List ℕ → Listings → Type 0
AreMarked words ls = (o : Occasion) (n : ℕ) → is_set words (mark_of o) ≡ false → is_listed ls o n ≡ false
