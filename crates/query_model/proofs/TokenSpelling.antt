-- The tokens of a text as a function and by their spelling.
use Rattle.std.proofs.Common.{◌≡◌, ◌≢◌, ◌⊎◌, ℕ, zero, suc, ◌+◌, ◌-◌, ◌<◌, ◌≤◌, Bool, true, false, List, [], ◌∷◌, ◌++◌, length, get_or, take, drop, arith, refl, sym, ap, ◌∙◌, subst, inl, inr, Option, Some, None, Result, Ok, Err, append_assoc, length-append, length-take, length-drop, one-add}
use Rattle.std.specs.Prelude.{nat_eq, ◌==◌, option_map, if◌then◌else◌}
use Rattle.std.specs.List.{prefix_len, list_all, find, starts_with}
use Rattle.std.proofs.lemmas.Slice.Eq.{bytes_eq-Decides}
use Rattle.std.proofs.lemmas.Bool.{false≢true, cases_Bool, cond-true, cond-false, and_parts, and_from, eqb-true, eqb-false, cases_order}
use Rattle.std.proofs.lemmas.Bool.Decides.{nat_tests}
use Rattle.std.proofs.lemmas.List.{take-append-drop, take_at, drop_at}
use Rattle.std.proofs.lemmas.List.Sums.{prefix_len-le-length}
use Rattle.query_model.specs.declared.Span.{Span}
use Rattle.query_model.specs.declared.Mark.{Mark}
use Rattle.query_model.specs.declared.Mark.TheVariants.{Comma, OrOr, Bar, NotEqual, Bang, Question, EqualEqual, OpenParen, CloseParen, OpenBrace, CloseBrace, OpenBracket, CloseBracket, Star, Underscore}
use Rattle.query_model.specs.Laws.{OneSpelling, TokensAreSpelled}
use Rattle.query_model.specs.Text.{is_query_blank, is_letter, is_word_byte, is_name_byte, is_spelled}
use Rattle.query_model.specs.Tokens.{Sign, Name, Variable, Punct, End, spelling, marks, variable_at, Token, token, spelled, is_sign, mark_at, sign_at, char_len, before_rest, token_then, tokens_then, tokens_from, tokens_of, end_of, IsToken, IsLongest, Spells, IsSpelledBy, IsLexFault}

-- bytes of one kind

pub letter_is_name_byte : (b : ℕ) → is_letter b ≡ true → is_name_byte b ≡ true
letter_is_name_byte b e = grind (arith, nat_tests)

letter_is_no_blank : (b : ℕ) → is_letter b ≡ true → is_query_blank b ≡ false
letter_is_no_blank b e = grind (arith, nat_tests)

letter_is_word_byte : (b : ℕ) → is_letter b ≡ true → is_word_byte b ≡ true
letter_is_word_byte b e = grind (arith, nat_tests)

-- how a mark begins: with no letter, no `$` and no blank
record Begins (bytes : List ℕ) : Type 0 where
  first : ℕ
  others : List ℕ
  whole : bytes ≡ first ∷ others
  no_letter : is_letter first ≡ false
  no_dollar : nat_eq first 36 ≡ false
  no_blank : is_query_blank first ≡ false

mark_begins : (m : Mark) → Begins (spelling m)
mark_begins Comma = record { first = 44; others = []; whole = refl; no_letter = refl; no_dollar = refl; no_blank = refl }
mark_begins m = record { first = _; others = _; whole = refl; no_letter = refl; no_dollar = refl; no_blank = refl }

-- a mark is known by its spelling
mark_is_found : (m : Mark) → mark_at (spelling m) ≡ Some (Punct m)
mark_is_found Comma = refl
mark_is_found m = refl

one_mark : (m n : Mark) → spelling m ≡ spelling n → m ≡ n
one_mark m n e = let h : Some (Punct m) ≡ Some (Punct n) = sym (mark_is_found m) ∙ ap mark_at e ∙ mark_is_found n in cc

-- a front that passes

pub front_passes : (p : ℕ → Bool) (xs : List ℕ) → list_all p (take (prefix_len p xs) xs) ≡ true
front_passes p [] = refl
front_passes p (x ∷ xs) = by_test (p x) refl (front_passes p xs)
  where
    by_test : (b : Bool) → p x ≡ b → list_all p (take (prefix_len p xs) xs) ≡ true → list_all p (take (prefix_len p (x ∷ xs)) (x ∷ xs)) ≡ true
    by_test true e rest = rw (e, one-add) (and_from (p x) (list_all p (take (prefix_len p xs) xs)) e rest)
    by_test false e rest = rw e refl

no_longer_front_passes : (p : ℕ → Bool) (xs : List ℕ) (k : ℕ) → k ≤ length xs → list_all p (take k xs) ≡ true → k ≤ prefix_len p xs
no_longer_front_passes p xs zero fits all = omega arith
no_longer_front_passes p [] (suc k) fits all = absurd (omega arith)
no_longer_front_passes p (x ∷ xs) (suc k) fits all =
    let a = and_parts (p x) (list_all p (take k xs)) all in
    let h = no_longer_front_passes p xs k (omega arith) a.1 in
    rw a.0 (omega arith)

-- where a sign is spelled

pub mark_is_not_empty : (m : Mark) → 0 < length (spelling m)
mark_is_not_empty m = let b = mark_begins m in rw (b.whole) (omega arith)

sign_is_not_empty : (s : Sign) → is_sign s ≡ true → 0 < length (spelled s)
sign_is_not_empty (Name []) e = cc
sign_is_not_empty (Name (b ∷ bs)) e = omega arith
sign_is_not_empty (Variable v) e = omega arith
sign_is_not_empty (Punct m) e = mark_is_not_empty m
sign_is_not_empty End e = cc

sign_begins_with_no_blank : (s : Sign) (rest : List ℕ) → is_sign s ≡ true → (b : ℕ) × (bs : List ℕ) × (spelled s ++ rest ≡ b ∷ bs) × (is_query_blank b ≡ false)
sign_begins_with_no_blank (Name []) rest e = cc
sign_begins_with_no_blank (Name (b ∷ bs)) rest e = (b, bs ++ rest, refl, letter_is_no_blank b (and_parts (is_letter b) (list_all is_name_byte bs) e).0)
sign_begins_with_no_blank (Variable v) rest e = (36, v ++ rest, refl, refl)
sign_begins_with_no_blank (Punct m) rest e = let b = mark_begins m in (b.first, b.others ++ rest, ap (λ xs. xs ++ rest) b.whole, b.no_blank)
sign_begins_with_no_blank End rest e = cc

-- what the bytes of a token are
abbrev AreName : ℕ → List ℕ → Type 0
AreName b bs = (is_letter b ≡ true) × (list_all is_name_byte bs ≡ true)

abbrev AreVariable : ℕ → List ℕ → Type 0
AreVariable b bs = (b ≡ 36) × (is_spelled is_word_byte bs ≡ true)

abbrev AreMark : ℕ → List ℕ → Type 0
AreMark b bs = (m : Mark) × (spelling m ≡ b ∷ bs)

token_cases : (b : ℕ) (bs : List ℕ) → IsToken (b ∷ bs) → AreName b bs ⊎ (AreVariable b bs ⊎ AreMark b bs)
token_cases b bs (Name n, e, h) = let f : is_spelled is_name_byte (b ∷ bs) ≡ true = subst (λ xs. is_spelled is_name_byte xs ≡ true) h e in inl (and_parts (is_letter b) (list_all is_name_byte bs) f)
token_cases b bs (Variable v, e, h) = let tails : v ≡ bs = cc in let heads : 36 ≡ b = cc in inr (inl (sym heads, subst (λ xs. is_spelled is_word_byte xs ≡ true) tails e))
token_cases b bs (Punct m, e, h) = inr (inr (m, h))
token_cases b bs (End, e, h) = cc

-- which of these a first byte allows
letter_is_no_dollar : (b : ℕ) → is_letter b ≡ true → b ≢ 36
letter_is_no_dollar b e = grind (arith, nat_tests)

letter_begins_no_mark : (b : ℕ) (bs : List ℕ) → is_letter b ≡ true → AreMark b bs → ⊥
letter_begins_no_mark b bs letter (m, e) = let g = mark_begins m in let same : g.first ≡ b = (let h : g.first ∷ g.others ≡ b ∷ bs = sym g.whole ∙ e in cc) in false≢true (sym g.no_letter ∙ ap is_letter same ∙ letter)

dollar_begins_no_mark : (bs : List ℕ) → AreMark 36 bs → ⊥
dollar_begins_no_mark bs (m, e) = let g = mark_begins m in let same : g.first ≡ 36 = (let h : g.first ∷ g.others ≡ 36 ∷ bs = sym g.whole ∙ e in cc) in false≢true (sym g.no_dollar ∙ ap (λ b. nat_eq b 36) same)

-- a sign is known by its spelling
one_sign : (s t : Sign) → is_sign s ≡ true → is_sign t ≡ true → spelled s ≡ spelled t → s ≡ t
one_sign (Name n) (Name m) e f h = ap Name h
one_sign (Name []) t e f h = cc
one_sign (Name (b ∷ bs)) (Variable v) e f h = let same : b ≡ 36 = cc in absurd (letter_is_no_dollar b (and_parts (is_letter b) (list_all is_name_byte bs) e).0 same)
one_sign (Name (b ∷ bs)) (Punct m) e f h = absurd (letter_begins_no_mark b bs (and_parts (is_letter b) (list_all is_name_byte bs) e).0 (m, sym h))
one_sign (Name (b ∷ bs)) End e f h = cc
one_sign (Variable v) (Variable w) e f h = let tails : v ≡ w = cc in ap Variable tails
one_sign (Variable v) (Name []) e f h = cc
one_sign (Variable v) (Name (b ∷ bs)) e f h = let same : b ≡ 36 = cc in absurd (letter_is_no_dollar b (and_parts (is_letter b) (list_all is_name_byte bs) f).0 same)
one_sign (Variable v) (Punct m) e f h = absurd (dollar_begins_no_mark v (m, sym h))
one_sign (Variable v) End e f h = cc
one_sign (Punct m) (Name []) e f h = cc
one_sign (Punct m) (Name (b ∷ bs)) e f h = absurd (letter_begins_no_mark b bs (and_parts (is_letter b) (list_all is_name_byte bs) f).0 (m, h))
one_sign (Punct m) (Variable v) e f h = absurd (dollar_begins_no_mark v (m, h))
one_sign (Punct m) (Punct n) e f h = ap Punct (one_mark m n h)
one_sign (Punct m) End e f h = cc
one_sign End t e f h = cc

-- the longest token at the beginning
name_is_longest : (b : ℕ) (bs : List ℕ) → is_letter b ≡ true → IsLongest (prefix_len is_name_byte bs + 1) (b ∷ bs)
name_is_longest b bs letter zero more fits t = absurd (omega arith)
name_is_longest b bs letter (suc k) more fits t =
    elim (token_cases b (take k bs) t) [
      | inl name ↦ let l = no_longer_front_passes is_name_byte bs k (omega arith) name.1 in absurd (omega arith)
      | inr w ↦ elim w [ inl variable ↦ letter_is_no_dollar b letter variable.0 | inr mark ↦ letter_begins_no_mark b (take k bs) letter mark ]
    ]

-- after a `$`
variable_is_longest : (c : ℕ) (cs : List ℕ) → is_letter c ≡ true → IsLongest (prefix_len is_word_byte cs + 2) (36 ∷ c ∷ cs)
variable_is_longest c cs letter zero more fits t = absurd (omega arith)
variable_is_longest c cs letter (suc zero) more fits t = absurd (omega arith)
variable_is_longest c cs letter (suc (suc k)) more fits t =
    elim (token_cases 36 (c ∷ take k cs) t) [
      | inl name ↦ absurd (false≢true name.0)
      | inr w ↦ elim w [
        | inl variable ↦
            let all : list_all is_word_byte (take k cs) ≡ true = variable_rest (take k cs) variable.1 in
            let l = no_longer_front_passes is_word_byte cs k (omega arith) all in absurd (omega arith)
        | inr mark ↦ dollar_begins_no_mark (c ∷ take k cs) mark
      ]
    ]
  where
    variable_rest : (xs : List ℕ) → is_spelled is_word_byte (c ∷ xs) ≡ true → list_all is_word_byte xs ≡ true
    variable_rest xs e = (and_parts (is_letter c) (list_all is_word_byte xs) e).1

dollar_alone : (bs : List ℕ) → variable_at bs ≡ None → IsLongest 0 (36 ∷ bs)
dollar_alone bs none zero more fits t = absurd (omega arith)
dollar_alone bs none (suc k) more fits t =
    elim (token_cases 36 (take k bs) t) [
      | inl name ↦ absurd (false≢true name.0)
      | inr w ↦ elim w [ inl variable ↦ no_variable bs k none variable.1 | inr mark ↦ dollar_begins_no_mark (take k bs) mark ]
    ]
  where
    no_variable : (xs : List ℕ) (k : ℕ) → variable_at xs ≡ None → is_spelled is_word_byte (take k xs) ≡ true → ⊥
    no_variable xs zero e f = false≢true f
    no_variable [] (suc k) e f = false≢true f
    no_variable (x ∷ xs) (suc k) e f =
        let letter : is_letter x ≡ true = (and_parts (is_letter x) (list_all is_word_byte (take k xs)) f).0 in
        let g = rw letter at e in cc

-- the marks at the beginning of a text

abbrev pub at_front : List ℕ → Mark → Bool
at_front text m = starts_with nat_eq text (spelling m)

pub front_is_mark : (text : List ℕ) (m : Mark) → at_front text m ≡ true → spelling m ≡ take (length (spelling m)) text
front_is_mark text m e = (bytes_eq-Decides (spelling m) (take (length (spelling m)) text)).0 e

mark_is_front : (text : List ℕ) (m : Mark) → spelling m ≡ take (length (spelling m)) text → at_front text m ≡ true
mark_is_front text m e = (bytes_eq-Decides (spelling m) (take (length (spelling m)) text)).1 e

-- the first that passes a test passes it
pub first_passes : (p : Mark → Bool) (ms : List Mark) (m : Mark) → find p ms ≡ Some m → p m ≡ true
first_passes p [] m e = cc
first_passes p (x ∷ xs) m e = elim (cases_Bool (p x)) [
  | inl passes ↦ let g = rw passes at e in let same : x ≡ m = cc in ap p (sym same) ∙ passes
  | inr fails ↦ first_passes p xs m (rw fails at e)
]

none_here : (p : Mark → Bool) (front rest : List Mark) (m : Mark) → find p (front ++ m ∷ rest) ≡ None → p m ≡ true → ⊥
none_here p [] rest m e passes = let g = rw passes at e in cc
none_here p (x ∷ front) rest m e passes = elim (cases_Bool (p x)) [
  | inl earlier ↦ let g = rw earlier at e in cc
  | inr fails ↦ none_here p front rest m (rw fails at e) passes
]

place_of_mark : (m : Mark) → (front : List Mark) × (rest : List Mark) × (marks ≡ front ++ m ∷ rest)
place_of_mark Comma = ([], OrOr ∷ Bar ∷ NotEqual ∷ Bang ∷ Question ∷ EqualEqual ∷ OpenParen ∷ CloseParen ∷ OpenBrace ∷ CloseBrace ∷ OpenBracket ∷ CloseBracket ∷ Star ∷ Underscore ∷ [], refl)
place_of_mark OrOr = (Comma ∷ [], Bar ∷ NotEqual ∷ Bang ∷ Question ∷ EqualEqual ∷ OpenParen ∷ CloseParen ∷ OpenBrace ∷ CloseBrace ∷ OpenBracket ∷ CloseBracket ∷ Star ∷ Underscore ∷ [], refl)
place_of_mark Bar = (Comma ∷ OrOr ∷ [], NotEqual ∷ Bang ∷ Question ∷ EqualEqual ∷ OpenParen ∷ CloseParen ∷ OpenBrace ∷ CloseBrace ∷ OpenBracket ∷ CloseBracket ∷ Star ∷ Underscore ∷ [], refl)
place_of_mark NotEqual = (Comma ∷ OrOr ∷ Bar ∷ [], Bang ∷ Question ∷ EqualEqual ∷ OpenParen ∷ CloseParen ∷ OpenBrace ∷ CloseBrace ∷ OpenBracket ∷ CloseBracket ∷ Star ∷ Underscore ∷ [], refl)
place_of_mark Bang = (Comma ∷ OrOr ∷ Bar ∷ NotEqual ∷ [], Question ∷ EqualEqual ∷ OpenParen ∷ CloseParen ∷ OpenBrace ∷ CloseBrace ∷ OpenBracket ∷ CloseBracket ∷ Star ∷ Underscore ∷ [], refl)
place_of_mark Question = (Comma ∷ OrOr ∷ Bar ∷ NotEqual ∷ Bang ∷ [], EqualEqual ∷ OpenParen ∷ CloseParen ∷ OpenBrace ∷ CloseBrace ∷ OpenBracket ∷ CloseBracket ∷ Star ∷ Underscore ∷ [], refl)
place_of_mark EqualEqual = (Comma ∷ OrOr ∷ Bar ∷ NotEqual ∷ Bang ∷ Question ∷ [], OpenParen ∷ CloseParen ∷ OpenBrace ∷ CloseBrace ∷ OpenBracket ∷ CloseBracket ∷ Star ∷ Underscore ∷ [], refl)
place_of_mark OpenParen = (Comma ∷ OrOr ∷ Bar ∷ NotEqual ∷ Bang ∷ Question ∷ EqualEqual ∷ [], CloseParen ∷ OpenBrace ∷ CloseBrace ∷ OpenBracket ∷ CloseBracket ∷ Star ∷ Underscore ∷ [], refl)
place_of_mark CloseParen = (Comma ∷ OrOr ∷ Bar ∷ NotEqual ∷ Bang ∷ Question ∷ EqualEqual ∷ OpenParen ∷ [], OpenBrace ∷ CloseBrace ∷ OpenBracket ∷ CloseBracket ∷ Star ∷ Underscore ∷ [], refl)
place_of_mark OpenBrace = (Comma ∷ OrOr ∷ Bar ∷ NotEqual ∷ Bang ∷ Question ∷ EqualEqual ∷ OpenParen ∷ CloseParen ∷ [], CloseBrace ∷ OpenBracket ∷ CloseBracket ∷ Star ∷ Underscore ∷ [], refl)
place_of_mark CloseBrace = (Comma ∷ OrOr ∷ Bar ∷ NotEqual ∷ Bang ∷ Question ∷ EqualEqual ∷ OpenParen ∷ CloseParen ∷ OpenBrace ∷ [], OpenBracket ∷ CloseBracket ∷ Star ∷ Underscore ∷ [], refl)
place_of_mark OpenBracket = (Comma ∷ OrOr ∷ Bar ∷ NotEqual ∷ Bang ∷ Question ∷ EqualEqual ∷ OpenParen ∷ CloseParen ∷ OpenBrace ∷ CloseBrace ∷ [], CloseBracket ∷ Star ∷ Underscore ∷ [], refl)
place_of_mark CloseBracket = (Comma ∷ OrOr ∷ Bar ∷ NotEqual ∷ Bang ∷ Question ∷ EqualEqual ∷ OpenParen ∷ CloseParen ∷ OpenBrace ∷ CloseBrace ∷ OpenBracket ∷ [], Star ∷ Underscore ∷ [], refl)
place_of_mark Star = (Comma ∷ OrOr ∷ Bar ∷ NotEqual ∷ Bang ∷ Question ∷ EqualEqual ∷ OpenParen ∷ CloseParen ∷ OpenBrace ∷ CloseBrace ∷ OpenBracket ∷ CloseBracket ∷ [], Underscore ∷ [], refl)
place_of_mark Underscore = (Comma ∷ OrOr ∷ Bar ∷ NotEqual ∷ Bang ∷ Question ∷ EqualEqual ∷ OpenParen ∷ CloseParen ∷ OpenBrace ∷ CloseBrace ∷ OpenBracket ∷ CloseBracket ∷ Star ∷ [], [], refl)

none_passes : (p : Mark → Bool) (m : Mark) → find p marks ≡ None → p m ≡ true → ⊥
none_passes p m none passes = let w = place_of_mark m in none_here p w.0 w.1 m (ap (find p) (sym w.2) ∙ none) passes

-- where the `|` is the first that passes, no `||` does, and likewise the `!`
no_or_or : (p : Mark → Bool) → find p marks ≡ Some Bar → p OrOr ≡ true → ⊥
no_or_or p e passes = elim (cases_Bool (p Comma)) [
  | inl comma ↦ let g = rw comma at e in cc
  | inr other ↦ let g = rw (other, passes) at e in cc
]

no_not_equal : (p : Mark → Bool) → find p marks ≡ Some Bang → p NotEqual ≡ true → ⊥
no_not_equal p e passes = elim (cases_Bool (p Comma)) [
  | inl comma ↦ let g = rw comma at e in cc
  | inr no_comma ↦ elim (cases_Bool (p OrOr)) [
    | inl or_or ↦ let g = rw (no_comma, or_or) at e in cc
    | inr no_or_or ↦ elim (cases_Bool (p Bar)) [
      | inl bar ↦ let g = rw (no_comma, no_or_or, bar) at e in cc
      | inr no_bar ↦ let g = rw (no_comma, no_or_or, no_bar, passes) at e in cc
    ]
  ]
]

too_short : (m : Mark) (c : ℕ) (rest : List ℕ) (l : ℕ) → l ≡ length (spelling m ++ c ∷ rest) → l ≡ 1 → ⊥
too_short m c rest l e one = let some = mark_is_not_empty m in let k = length-append (spelling m) (c ∷ rest) in omega arith

-- the marks that begin others
longer_mark : (m n : Mark) (c : ℕ) (rest : List ℕ) → spelling n ≡ spelling m ++ c ∷ rest → ((m ≡ Bar) × (n ≡ OrOr)) ⊎ ((m ≡ Bang) × (n ≡ NotEqual))
longer_mark Bar OrOr c rest e = inl (refl, refl)
longer_mark m OrOr c rest e = absurd (omega (arith, ap (λ xs. get_or xs 0 0) e, ap length e))
longer_mark Bang NotEqual c rest e = inr (refl, refl)
longer_mark m NotEqual c rest e = absurd (omega (arith, ap (λ xs. get_or xs 0 0) e, ap length e))
longer_mark Bar EqualEqual c rest e = absurd (omega (arith, ap (λ xs. get_or xs 0 0) e, ap length e))
longer_mark m EqualEqual c rest e = absurd (omega (arith, ap (λ xs. get_or xs 0 0) e, ap length e))
longer_mark m Comma c rest e = absurd (too_short m c rest 1 (ap length e) refl)
longer_mark m Bar c rest e = absurd (too_short m c rest 1 (ap length e) refl)
longer_mark m Bang c rest e = absurd (too_short m c rest 1 (ap length e) refl)
longer_mark m Question c rest e = absurd (too_short m c rest 1 (ap length e) refl)
longer_mark m OpenParen c rest e = absurd (too_short m c rest 1 (ap length e) refl)
longer_mark m CloseParen c rest e = absurd (too_short m c rest 1 (ap length e) refl)
longer_mark m OpenBrace c rest e = absurd (too_short m c rest 1 (ap length e) refl)
longer_mark m CloseBrace c rest e = absurd (too_short m c rest 1 (ap length e) refl)
longer_mark m OpenBracket c rest e = absurd (too_short m c rest 1 (ap length e) refl)
longer_mark m CloseBracket c rest e = absurd (too_short m c rest 1 (ap length e) refl)
longer_mark m Star c rest e = absurd (too_short m c rest 1 (ap length e) refl)
longer_mark m Underscore c rest e = absurd (too_short m c rest 1 (ap length e) refl)

-- a mark that some prefix of the text spells stands at its beginning
mark_of_front : (b : ℕ) (bs : List ℕ) (k : ℕ) (n : Mark) → suc k ≤ length (b ∷ bs) → spelling n ≡ b ∷ take k bs → at_front (b ∷ bs) n ≡ true
mark_of_front b bs k n fits e =
    let l : length (spelling n) ≡ suc k = ap length e ∙ omega (arith, length-take k bs) in
    mark_is_front (b ∷ bs) n (e ∙ ap (λ i. take i (b ∷ bs)) (sym l))

take-take_le : (l k : ℕ) (xs : List ℕ) → l ≤ k → take l (take k xs) ≡ take l xs
take-take_le zero k xs h = refl
take-take_le (suc l) zero xs h = absurd (omega arith)
take-take_le (suc l) (suc k) [] h = refl
take-take_le (suc l) (suc k) (x ∷ xs) h = ap (λ ys. x ∷ ys) (take-take_le l k xs (omega arith))

no_longer_mark : (b : ℕ) (bs : List ℕ) (k : ℕ) (m n : Mark) → find (at_front (b ∷ bs)) marks ≡ Some m → length (spelling m) < suc k → suc k ≤ length (b ∷ bs) → spelling n ≡ b ∷ take k bs → ⊥
no_longer_mark b bs k m n first more fits e =
    let text : List ℕ = b ∷ bs in
    let l : ℕ = length (spelling m) in
    let n_stands = mark_of_front b bs k n fits e in
    let f : spelling m ≡ take l text = front_is_mark text m (first_passes (at_front text) marks m first) in
    let g : take l (spelling n) ≡ spelling m = ap (take l) e ∙ take-take_le l (suc k) text (omega arith) ∙ sym f in
    let whole : spelling n ≡ spelling m ++ drop l (spelling n) = sym (take-append-drop l (spelling n)) ∙ ap (λ xs. xs ++ drop l (spelling n)) g in
    let some : length (drop l (spelling n)) ≡ suc k - l = length-drop l (spelling n) ∙ ap (λ i. i - l) (ap length e ∙ omega (arith, length-take k bs)) in
    by_rest (drop l (spelling n)) whole (omega arith) n_stands
  where
    by_rest : (rest : List ℕ) → spelling n ≡ spelling m ++ rest → 0 < length rest → at_front (b ∷ bs) n ≡ true → ⊥
    by_rest [] e l stands = absurd (omega arith)
    by_rest (c ∷ rest) e l stands = elim (longer_mark m n c rest e) [
      | inl w ↦ no_or_or (at_front (b ∷ bs)) (first ∙ ap Some w.0) (ap (at_front (b ∷ bs)) (sym w.1) ∙ stands)
      | inr w ↦ no_not_equal (at_front (b ∷ bs)) (first ∙ ap Some w.0) (ap (at_front (b ∷ bs)) (sym w.1) ∙ stands)
    ]

module _ (b : ℕ) (bs : List ℕ) (no_letter : is_letter b ≡ false) (no_dollar : b ≢ 36) where
  mark_is_longest : (m : Mark) → find (at_front (b ∷ bs)) marks ≡ Some m → IsLongest (length (spelling m)) (b ∷ bs)
  mark_is_longest m first zero more fits t = absurd (omega arith)
  mark_is_longest m first (suc k) more fits t =
      elim (token_cases b (take k bs) t) [
        | inl name ↦ absurd (false≢true (sym no_letter ∙ name.0))
        | inr w ↦ elim w [ inl variable ↦ no_dollar variable.0 | inr mark ↦ no_longer_mark b bs k m mark.0 first more fits mark.1 ]
      ]

  none_is_longest : find (at_front (b ∷ bs)) marks ≡ None → IsLongest 0 (b ∷ bs)
  none_is_longest none zero more fits t = absurd (omega arith)
  none_is_longest none (suc k) more fits t =
      elim (token_cases b (take k bs) t) [
        | inl name ↦ absurd (false≢true (sym no_letter ∙ name.0))
        | inr w ↦ elim w [ inl variable ↦ no_dollar variable.0 | inr mark ↦ none_passes (at_front (b ∷ bs)) mark.0 none (mark_of_front b bs k mark.0 fits mark.1) ]
      ]

-- blanks, and what follows them, in a text

abbrev BeginsNoBlank : List ℕ → Type 0
BeginsNoBlank [] = Unit {0}
BeginsNoBlank (b ∷ bs) = is_query_blank b ≡ false

abbrev AreBlank : List ℕ → Type 0
AreBlank xs = list_all is_query_blank xs ≡ true

no_blank_after : (b : ℕ) (bs r : List ℕ) → r ≡ b ∷ bs → BeginsNoBlank r → is_query_blank b ≡ true → ⊥
no_blank_after b bs r e no_blank blank = false≢true (sym (subst BeginsNoBlank e no_blank) ∙ blank)

one_split : (xs ys r q : List ℕ) → xs ++ r ≡ ys ++ q → AreBlank xs → AreBlank ys → BeginsNoBlank r → BeginsNoBlank q → (xs ≡ ys) × (r ≡ q)
one_split [] [] r q e all_x all_y r_no q_no = (refl, e)
one_split [] (y ∷ ys) r q e all_x all_y r_no q_no = absurd (no_blank_after y (ys ++ q) r e r_no (and_parts (is_query_blank y) (list_all is_query_blank ys) all_y).0)
one_split (x ∷ xs) [] r q e all_x all_y r_no q_no = absurd (no_blank_after x (xs ++ r) q (sym e) q_no (and_parts (is_query_blank x) (list_all is_query_blank xs) all_x).0)
one_split (x ∷ xs) (y ∷ ys) r q e all_x all_y r_no q_no =
    let same : x ≡ y = cc in
    let rest : xs ++ r ≡ ys ++ q = cc in
    let h = one_split xs ys r q rest (and_parts (is_query_blank x) (list_all is_query_blank xs) all_x).1 (and_parts (is_query_blank y) (list_all is_query_blank ys) all_y).1 r_no q_no in
    let h0 : xs ≡ ys = h.0 in
    (cc, h.1)

-- one token is the longest at a place

front_is_token : (s : Sign) (text left : List ℕ) → is_sign s ≡ true → text ≡ spelled s ++ left → IsToken (take (length (spelled s)) text)
front_is_token s text left is e = (s, is, sym (ap (take (length (spelled s))) e ∙ take_at (spelled s) left (length (spelled s)) refl))

one_front : (s t : Sign) (xs ys : List ℕ) → is_sign s ≡ true → is_sign t ≡ true → spelled s ++ xs ≡ spelled t ++ ys → IsLongest (length (spelled s)) (spelled s ++ xs) → IsLongest (length (spelled t)) (spelled t ++ ys) → (s ≡ t) × (xs ≡ ys)
one_front s t xs ys is it e longest_s longest_t =
    let n : ℕ = length (spelled s) in
    let m : ℕ = length (spelled t) in
    let l = length-append (spelled s) xs in
    let k = length-append (spelled t) ys in
    let both : length (spelled s ++ xs) ≡ length (spelled t ++ ys) = ap length e in
    elim (cases_order n m) [
      | inl same ↦
          let bytes : spelled s ≡ spelled t = sym (take_at (spelled s) xs m same) ∙ ap (take m) e ∙ take_at (spelled t) ys m refl in
          (one_sign s t is it bytes, sym (drop_at (spelled s) xs m same) ∙ ap (drop m) e ∙ drop_at (spelled t) ys m refl)
      | inr w ↦ elim w [
        | inl less ↦ absurd (longest_s m less (omega arith) (front_is_token t (spelled s ++ xs) ys it e))
        | inr more ↦ absurd (longest_t n more (omega arith) (front_is_token s (spelled t ++ ys) xs is (sym e)))
      ]
    ]

-- the text's rest, where no token begins
abbrev IsStuck : List ℕ → Type 0
IsStuck [] = Unit {0}
IsStuck (b ∷ bs) = (is_query_blank b ≡ false) × IsLongest 0 (b ∷ bs)

stuck_is_no_blank : (r : List ℕ) → IsStuck r → BeginsNoBlank r
stuck_is_no_blank [] h = tt
stuck_is_no_blank (b ∷ bs) h = h.0

stuck_has_no_token : (r left : List ℕ) (s : Sign) → IsStuck r → is_sign s ≡ true → r ≡ spelled s ++ left → ⊥
stuck_has_no_token [] left s h is e =
    let l : 0 ≡ length (spelled s) + length left = ap length e ∙ length-append (spelled s) left in
    let some = sign_is_not_empty s is in
    absurd (omega arith)
stuck_has_no_token (b ∷ bs) left s h is e =
    let l : length (b ∷ bs) ≡ length (spelled s) + length left = ap length e ∙ length-append (spelled s) left in
    h.1 (length (spelled s)) (sign_is_not_empty s is) (omega arith) (front_is_token s (b ∷ bs) left is e)

sign_is_no_blank : (s : Sign) (left : List ℕ) → is_sign s ≡ true → BeginsNoBlank (spelled s ++ left)
sign_is_no_blank s left is = let w = sign_begins_with_no_blank s left is in subst BeginsNoBlank (sym w.2) w.3

-- the tokens at the beginning of a text, as far as they go, and its rest

one_front_of_tokens : (ts us : List Token) (at : ℕ) (text r q : List ℕ) → Spells at text ts r → Spells at text us q → IsStuck r → IsStuck q → (ts ≡ us) × (r ≡ q)
one_front_of_tokens [] [] at text r q (xs, e, all_x) (ys, f, all_y) r_stuck q_stuck =
    (refl, (one_split xs ys r q (sym e ∙ f) all_x all_y (stuck_is_no_blank r r_stuck) (stuck_is_no_blank q q_stuck)).1)
one_front_of_tokens [] (token t span ∷ us) at text r q (xs, e, all_x) (ys, left, f, all_y, it, longest, is_span, more) r_stuck q_stuck =
    let h = one_split xs ys r (spelled t ++ left) (sym e ∙ f ∙ append_assoc ys (spelled t) left) all_x all_y (stuck_is_no_blank r r_stuck) (sign_is_no_blank t left it) in
    absurd (stuck_has_no_token r left t r_stuck it h.1)
one_front_of_tokens (token s span ∷ ts) [] at text r q (xs, left, e, all_x, is, longest, is_span, more) (ys, f, all_y) r_stuck q_stuck =
    let h = one_split ys xs q (spelled s ++ left) (sym f ∙ e ∙ append_assoc xs (spelled s) left) all_y all_x (stuck_is_no_blank q q_stuck) (sign_is_no_blank s left is) in
    absurd (stuck_has_no_token q left s q_stuck is h.1)
one_front_of_tokens (token s span ∷ ts) (token t span' ∷ us) at text r q (xs, left, e, all_x, is, longest, is_span, more) (ys, left', f, all_y, it, longest', is_span', more') r_stuck q_stuck =
    let h = one_split xs ys (spelled s ++ left) (spelled t ++ left') (sym (append_assoc xs (spelled s) left) ∙ sym e ∙ f ∙ append_assoc ys (spelled t) left') all_x all_y (sign_is_no_blank s left is) (sign_is_no_blank t left' it) in
    let g = one_front s t left left' is it h.1 longest longest' in
    let P : List ℕ → Type 0 = λ zs. Spells (at + length zs + length (spelled t)) left' us q in
    let Q : Sign → Type 0 = λ u. Spells (at + length xs + length (spelled u)) left' us q in
    let R : List ℕ → Type 0 = λ zs. Spells (at + length xs + length (spelled s)) zs us q in
    let rest = one_front_of_tokens ts us (at + length xs + length (spelled s)) left r q more (subst R (sym g.1) (subst Q (sym g.0) (subst P (sym h.0) more'))) r_stuck q_stuck in
    let spans : span ≡ span' =
    is_span ∙ ap (λ zs. record { start = at + length zs; end = at + length zs + length (spelled s) }) h.0
    ∙ ap (λ u. record { start = at + length ys; end = at + length ys + length (spelled u) }) g.0 ∙ sym is_span' in
    let signs : s ≡ t = g.0 in
    let others : ts ≡ us = rest.0 in
    (cc, rest.1)

pub one_spelling : OneSpelling
one_spelling text ts us (xs, spells, e) (ys, spells', f) =
    e ∙ ap (λ zs. zs ++ end_of text ∷ []) (one_front_of_tokens xs ys 0 text [] [] spells spells' tt tt).0 ∙ sym f

-- what the function finds at the beginning of a text

abbrev SignFound : List ℕ → Option Sign → Type 0
SignFound text None = IsLongest 0 text
SignFound text (Some s) = (left : List ℕ) × (is_sign s ≡ true) × (text ≡ spelled s ++ left) × IsLongest (length (spelled s)) (spelled s ++ left)

name_found : (b : ℕ) (bs : List ℕ) → is_letter b ≡ true → SignFound (b ∷ bs) (Some (Name (take (prefix_len is_name_byte (b ∷ bs)) (b ∷ bs))))
name_found b bs letter =
    let n : ℕ = prefix_len is_name_byte bs in
    let l : length (take n bs) ≡ n = omega (arith, length-take n bs, prefix_len-le-length is_name_byte bs) in
    let count : prefix_len is_name_byte (b ∷ bs) ≡ suc n = rw (letter_is_name_byte b letter) (one-add n) in
    let whole : b ∷ bs ≡ (b ∷ take n bs) ++ drop n bs = ap (λ xs. b ∷ xs) (sym (take-append-drop n bs)) in
    let P : ℕ → Type 0 = λ k. SignFound (b ∷ bs) (Some (Name (take k (b ∷ bs)))) in
    let Q : List ℕ → Type 0 = λ xs. IsLongest (n + 1) xs in
    let R : ℕ → Type 0 = λ k. IsLongest k ((b ∷ take n bs) ++ drop n bs) in
    let m : n + 1 ≡ suc (length (take n bs)) = omega arith in
    subst P (sym count) (drop n bs, and_from (is_letter b) (list_all is_name_byte (take n bs)) letter (front_passes is_name_byte bs), whole, subst R m (subst Q whole (name_is_longest b bs letter)))

variable_found : (bs : List ℕ) → SignFound (36 ∷ bs) (variable_at bs)
variable_found [] = dollar_alone [] refl
variable_found (c ∷ cs) =
    let some : Option Sign = Some (Variable (take (prefix_len is_word_byte (c ∷ cs)) (c ∷ cs))) in
    let P : Option Sign → Type 0 = SignFound (36 ∷ c ∷ cs) in
    elim (cases_Bool (is_letter c)) [
      | inl letter ↦ subst P (sym (cond-true (is_letter c) some None letter)) (letter_behind letter)
      | inr no_letter ↦ subst P (sym (cond-false (is_letter c) some None no_letter)) (dollar_alone (c ∷ cs) (cond-false (is_letter c) some None no_letter))
    ]
  where
    letter_behind : is_letter c ≡ true → SignFound (36 ∷ c ∷ cs) (Some (Variable (take (prefix_len is_word_byte (c ∷ cs)) (c ∷ cs))))
    letter_behind letter =
        let n : ℕ = prefix_len is_word_byte cs in
        let l : length (take n cs) ≡ n = omega (arith, length-take n cs, prefix_len-le-length is_word_byte cs) in
        let count : prefix_len is_word_byte (c ∷ cs) ≡ suc n = rw (letter_is_word_byte c letter) (one-add n) in
        let whole : 36 ∷ c ∷ cs ≡ (36 ∷ c ∷ take n cs) ++ drop n cs = ap (λ xs. 36 ∷ c ∷ xs) (sym (take-append-drop n cs)) in
        let P : ℕ → Type 0 = λ k. SignFound (36 ∷ c ∷ cs) (Some (Variable (take k (c ∷ cs)))) in
        let Q : List ℕ → Type 0 = λ xs. IsLongest (n + 2) xs in
        let R : ℕ → Type 0 = λ k. IsLongest k ((36 ∷ c ∷ take n cs) ++ drop n cs) in
        let m : n + 2 ≡ suc (suc (length (take n cs))) = omega arith in
        subst P (sym count) (drop n cs, and_from (is_letter c) (list_all is_word_byte (take n cs)) letter (front_passes is_word_byte cs), whole, subst R m (subst Q whole (variable_is_longest c cs letter)))

mark_found : (b : ℕ) (bs : List ℕ) → is_letter b ≡ false → b ≢ 36 → SignFound (b ∷ bs) (mark_at (b ∷ bs))
mark_found b bs no_letter no_dollar = by_mark (find (at_front (b ∷ bs)) marks) refl
  where
    by_mark : (o : Option Mark) → find (at_front (b ∷ bs)) marks ≡ o → SignFound (b ∷ bs) (option_map Punct o)
    by_mark None e = none_is_longest b bs no_letter no_dollar e
    by_mark (Some m) e =
        let text : List ℕ = b ∷ bs in
        let l : ℕ = length (spelling m) in
        let f : spelling m ≡ take l text = front_is_mark text m (first_passes (at_front text) marks m e) in
        let whole : text ≡ spelling m ++ drop l text = sym (take-append-drop l text) ∙ ap (λ xs. xs ++ drop l text) (sym f) in
        let Q : List ℕ → Type 0 = λ xs. IsLongest l xs in
        (drop l text, refl, whole, subst Q whole (mark_is_longest b bs no_letter no_dollar m e))

no_letter_found : (b : ℕ) (bs : List ℕ) → is_letter b ≡ false → SignFound (b ∷ bs) (if b == 36 then variable_at bs else mark_at (b ∷ bs))
no_letter_found b bs no_letter =
    let P : Option Sign → Type 0 = SignFound (b ∷ bs) in
    elim (cases_Bool (b == 36)) [
      | inl dollar ↦
          let e : b ≡ 36 = eqb-true b 36 dollar in
          subst P (sym (cond-true (b == 36) (variable_at bs) (mark_at (b ∷ bs)) dollar)) (subst (λ c. SignFound (c ∷ bs) (variable_at bs)) (sym e) (variable_found bs))
      | inr no_dollar ↦ subst P (sym (cond-false (b == 36) (variable_at bs) (mark_at (b ∷ bs)) no_dollar)) (mark_found b bs no_letter (eqb-false b 36 no_dollar))
    ]

sign_found : (b : ℕ) (bs : List ℕ) → SignFound (b ∷ bs) (sign_at (b ∷ bs))
sign_found b bs =
    let name : Option Sign = Some (Name (take (prefix_len is_name_byte (b ∷ bs)) (b ∷ bs))) in
    let other : Option Sign = if b == 36 then variable_at bs else mark_at (b ∷ bs) in
    let P : Option Sign → Type 0 = SignFound (b ∷ bs) in
    elim (cases_Bool (is_letter b)) [
      | inl letter ↦ subst P (sym (cond-true (is_letter b) name other letter)) (name_found b bs letter)
      | inr no_letter ↦ subst P (sym (cond-false (is_letter b) name other no_letter)) (no_letter_found b bs no_letter)
    ]

-- what the function reads of a text that begins and ends at places: all its tokens and the end, or the first character of its rest
abbrev IsRead : ℕ → ℕ → List ℕ → Result (List Token) Span → Type 0
IsRead at to text (Ok ts) = (us : List Token) × Spells at text us [] × (ts ≡ us ++ token End (record { start = to; end = to }) ∷ [])
IsRead at to text (Err span) =
    (us : List Token) × (b : ℕ) × (rest : List ℕ) × Spells at text us (b ∷ rest) × (is_query_blank b ≡ false) × IsLongest 0 (b ∷ rest)
    × (span ≡ record { start = to - suc (length rest); end = to - suc (length rest) + char_len b })

module _ (at to : ℕ) (text blanks : List ℕ) (all_blank : AreBlank blanks) (ends : at + length text ≡ to) where
  -- a token before what is read after it
  read_more : (s : Sign) (left : List ℕ) (r : Result (List Token) Span) → is_sign s ≡ true → text ≡ blanks ++ (spelled s ++ left) → IsLongest (length (spelled s)) (spelled s ++ left) → IsRead (at + length blanks + length (spelled s)) to left r → IsRead at to text (before_rest (token s (record { start = at + length blanks; end = at + length blanks + length (spelled s) })) r)
  read_more s left (Ok ts) is e longest (us, spells, f) =
      let t : Token = token s (record { start = at + length blanks; end = at + length blanks + length (spelled s) }) in
      (t ∷ us, (blanks, left, e ∙ sym (append_assoc blanks (spelled s) left), all_blank, is, longest, refl, spells), ap (λ vs. t ∷ vs) f)
  read_more s left (Err span) is e longest (us, b, rest, spells, no_blank, none, f) =
      let t : Token = token s (record { start = at + length blanks; end = at + length blanks + length (spelled s) }) in
      (t ∷ us, b, rest, (blanks, left, e ∙ sym (append_assoc blanks (spelled s) left), all_blank, is, longest, refl, spells), no_blank, none, f)

  module _ (next : ℕ → List ℕ → Result (List Token) Span) where
    sign_read : (b : ℕ) (bs : List ℕ) (o : Option Sign) → text ≡ blanks ++ (b ∷ bs) → is_query_blank b ≡ false → SignFound (b ∷ bs) o → ((from : ℕ) (left : List ℕ) → length left < length (b ∷ bs) → from + length left ≡ to → IsRead from to left (next from left)) → IsRead at to text (token_then next (at + length blanks) (b ∷ bs) o)
    sign_read b bs None e no_blank found behind =
        let l : length text ≡ length blanks + length (b ∷ bs) = ap length e ∙ length-append blanks (b ∷ bs) in
        let m : at + length blanks ≡ to - suc (length bs) = omega arith in
        ([], b, bs, (blanks, e, all_blank), no_blank, found, ap (λ k. record { start = k; end = k + char_len b }) m)
    sign_read b bs (Some s) e no_blank (left, is, f, longest) behind =
        let l : length text ≡ length blanks + length (b ∷ bs) = ap length e ∙ length-append blanks (b ∷ bs) in
        let k : length (b ∷ bs) ≡ length (spelled s) + length left = ap length f ∙ length-append (spelled s) left in
        let some = sign_is_not_empty s is in
        let from : ℕ = at + length blanks + length (spelled s) in
        let rest : drop (length (spelled s)) (b ∷ bs) ≡ left = ap (drop (length (spelled s))) f ∙ drop_at (spelled s) left (length (spelled s)) refl in
        let read = behind from left (omega arith) (omega arith) in
        let P : List ℕ → Type 0 = λ xs. IsRead at to text (before_rest (token s (record { start = at + length blanks; end = from })) (next from xs)) in
        subst P (sym rest) (read_more s left (next from left) is (e ∙ ap (λ xs. blanks ++ xs) f) longest read)

    tokens_read : (rest : List ℕ) → text ≡ blanks ++ rest → BeginsNoBlank rest → ((from : ℕ) (left : List ℕ) → length left < length rest → from + length left ≡ to → IsRead from to left (next from left)) → IsRead at to text (tokens_then next (at + length blanks) rest)
    tokens_read [] e no_blank behind =
        let l : length text ≡ length blanks + 0 = ap length e ∙ length-append blanks [] in
        let m : at + length blanks ≡ to = omega arith in
        ([], (blanks, e, all_blank), ap (λ k. token End (record { start = k; end = k }) ∷ []) m)
    tokens_read (b ∷ bs) e no_blank behind = sign_read b bs (sign_at (b ∷ bs)) e no_blank (sign_found b bs) behind

no_blank_behind : (text : List ℕ) → BeginsNoBlank (drop (prefix_len is_query_blank text) text)
no_blank_behind [] = tt
no_blank_behind (b ∷ bs) = by_test (is_query_blank b) refl (no_blank_behind bs)
  where
    by_test : (v : Bool) → is_query_blank b ≡ v → BeginsNoBlank (drop (prefix_len is_query_blank bs) bs) → BeginsNoBlank (drop (prefix_len is_query_blank (b ∷ bs)) (b ∷ bs))
    by_test true e rest = rw (e, one-add) rest
    by_test false e rest = rw e e

tokens_from_read : (n at to : ℕ) (text : List ℕ) → length text < n → at + length text ≡ to → IsRead at to text (tokens_from n at text)
unfolding tokens_from
tokens_from_read zero at to text enough ends = absurd (omega arith)
tokens_from_read (suc n) at to text enough ends =
    let count : ℕ = prefix_len is_query_blank text in
    let blanks : List ℕ = take count text in
    let l : length blanks ≡ count = omega (arith, length-take count text, prefix_len-le-length is_query_blank text) in
    let fewer = length-drop count text in
    let P : ℕ → Type 0 = λ k. IsRead at to text (tokens_then (tokens_from n) (at + k) (drop count text)) in
    subst P l (tokens_read at to text blanks (front_passes is_query_blank text) ends (tokens_from n) (drop count text) (sym (take-append-drop count text)) (no_blank_behind text)
    (λ from left less there. tokens_from_read n from to left (omega arith) there))

text_read : (text : List ℕ) → IsRead 0 (length text) text (tokens_of text)
unfolding tokens_of
text_read text = tokens_from_read (length text + 1) 0 (length text) text (omega arith) (omega arith)

-- the same the other way round: what is spelled is read
spelled_is_read : (text : List ℕ) (ts : List Token) (r : Result (List Token) Span) → IsRead 0 (length text) text r → IsSpelledBy text ts → r ≡ Ok ts
spelled_is_read text ts (Ok us) read spells = ap Ok (one_spelling text us ts read spells)
spelled_is_read text ts (Err span) (us, b, rest, spells, no_blank, none, e) (vs, spells', f) =
    let h : b ∷ rest ≡ [] = (one_front_of_tokens us vs 0 text (b ∷ rest) [] spells spells' (no_blank, none) tt).1 in
    cc

fault_is_read : (text : List ℕ) (s : Span) (r : Result (List Token) Span) → IsRead 0 (length text) text r → IsLexFault text s → r ≡ Err s
fault_is_read text s (Ok ts) (us, spells, f) (vs, b, rest, spells', no_blank, none, e) =
    let h : [] ≡ b ∷ rest = (one_front_of_tokens us vs 0 text [] (b ∷ rest) spells spells' tt (no_blank, none)).1 in
    cc
fault_is_read text s (Err span) (us, b, rest, spells, no_blank, none, e) (vs, c, left, spells', no_blank', none', f) =
    let h : b ∷ rest ≡ c ∷ left = (one_front_of_tokens us vs 0 text (b ∷ rest) (c ∷ left) spells spells' (no_blank, none) (no_blank', none')).1 in
    let heads : b ≡ c = cc in
    let tails : rest ≡ left = cc in
    ap Err (e ∙ ap (λ d. record { start = length text - suc (length rest); end = length text - suc (length rest) + char_len d }) heads
    ∙ ap (λ xs. record { start = length text - suc (length xs); end = length text - suc (length xs) + char_len c }) tails ∙ sym f)

pub tokens_are_spelled : TokensAreSpelled
tokens_are_spelled text =
    let read = text_read text in (
      (λ ts. ((λ e. subst (IsRead 0 (length text) text) e read), spelled_is_read text ts (tokens_of text) read)),
      (λ s. ((λ e. subst (IsRead 0 (length text) text) e read), fault_is_read text s (tokens_of text) read)),
    )
