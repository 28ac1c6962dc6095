-- What is known of numbers of entities: a word for each, 0 where nothing is.
use Rattle.std.specs.Prelude.{◌≡◌, ◌≢◌, ℕ, ◌+◌, List, Contains, get_or}

-- a word that isn't 0 is one more than the number
abbrev pub AreNumbers : (ℕ → ℕ) → List ℕ → Type 0
AreNumbers number_of words = (i : ℕ) → get_or words i 0 ≢ 0 → get_or words i 0 ≡ number_of i + 1

-- something is known of each of these
abbrev pub AreNoted : List ℕ → List ℕ → Type 0
AreNoted words xs = (x : ℕ) → Contains xs x → get_or words x 0 ≢ 0

-- nothing is known
abbrev pub NoneNoted : List ℕ → Type 0
NoneNoted words = (i : ℕ) → get_or words i 0 ≡ 0

-- what is known is known of these alone
abbrev pub IsNotedOf : List ℕ → List ℕ → Type 0
IsNotedOf xs words = (i : ℕ) → get_or words i 0 ≢ 0 → Contains xs i
