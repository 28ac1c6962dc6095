-- Words on bytes: blanks, letters, and the words that are no names.
use Rattle.std.specs.Prelude.{ℕ, ◌==◌, Bool, false, ◌&&◌, ◌||◌, List, [], ◌∷◌, nat_le, codes, bytes_eq}
use Rattle.std.specs.List.{list_any, list_all}

-- space, tab, carriage return and line feed
abbrev pub is_query_blank : ℕ → Bool
is_query_blank b = b == 32 || b == 9 || b == 13 || b == 10

abbrev pub is_letter : ℕ → Bool
is_letter b = nat_le 65 b && nat_le b 90 || nat_le 97 b && nat_le b 122

abbrev pub is_digit : ℕ → Bool
is_digit b = nat_le 48 b && nat_le b 57

-- a letter, a digit or `_`
abbrev pub is_word_byte : ℕ → Bool
is_word_byte b = is_letter b || is_digit b || b == 95

-- a letter, a digit, `_` or `.`
abbrev pub is_name_byte : ℕ → Bool
is_name_byte b = is_word_byte b || b == 46

-- the words of the query language, which name nothing
abbrev pub reserved : List (List ℕ)
reserved = codes "self" ∷ codes "up" ∷ codes "cascade" ∷ codes "desc" ∷ []

abbrev pub is_reserved : List ℕ → Bool
is_reserved bs = list_any (bytes_eq bs) reserved

-- a letter, and then bytes that pass the test
abbrev pub is_spelled : (ℕ → Bool) → List ℕ → Bool
is_spelled test [] = false
is_spelled test (b ∷ bs) = is_letter b && list_all test bs
